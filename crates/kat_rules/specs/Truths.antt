-- The rules on literals, on fields, on truths and on choices.
use Rattle.std.specs.Prelude.{Bool, true, false, ◌==◌, if◌then◌else◌, List, [], ◌∷◌, map, Option, Some, None, slice_get, option_and_then}
use Rattle.std.specs.Bool.{beq}
use Rattle.std.specs.Option.{option_map}
use Rattle.kat_value.specs.declared.op.Op.{Op}
use Rattle.kat_value.specs.declared.op.Op.TheVariants.{Not, And, Or, Ult, Ule, Slt, Sle, Ite}
use Rattle.kat_value.specs.declared.value.Value.{Value, out-Value}
use Rattle.kat_value.specs.declared.value.Value.TheOpen.{Value-F, Made as MadeLayer, Rec as RecLayer}
use Rattle.kat_term.specs.declared.term.Term.{Term}
use Rattle.kat_term.specs.declared.term.Term.TheOpen.{Term-F, Apply as Application}
use Rattle.kat_term.specs.declared.term.Term.TheViews.{out-Term}
use Rattle.kat_term.specs.declared.term.Term.TheVariants.{Lit}
use Rattle.kat_term.specs.Equality.{term_eq}
use Rattle.kat_value.specs.Operations.{value_of_op}
use Rattle.kat_value.specs.Making.{all_there}
use Rattle.kat_term.specs.Views.{RecTerm, one, two, three, truth, literal_of}
use Rattle.kat_rules.specs.Patterns.{Rule, only_if, on_one, on_two, on_three, on_truth, on_rec, on_field}
use Rattle.kat_rules.specs.Widths.{is_bool}

-- whether one layer of a value is plain: of type unit, bool or bits or of an enum
abbrev pub is_plain : {A : Type 0} → Value-F A → Bool
is_plain (MadeLayer of ctor inner) = false
is_plain (RecLayer of fields) = false
is_plain _ = true

-- a value that is plain
abbrev pub plain : Value → Option Value
plain x = if is_plain (out-Value x) then Some x else None

-- the value of a term that is a literal
abbrev pub plain_of : Term → Option Value
plain_of t = option_and_then plain (literal_of t)

-- the literal of one layer that is an operation on literals alone
abbrev pub literal_of_literals : Term-F Term → Option Term
literal_of_literals (Application op args) =
    option_map Lit (option_and_then (value_of_op op) (all_there (map plain_of args)))
literal_of_literals _ = None

-- an operation on literals alone is its literal
abbrev pub op_on_literals : Rule
op_on_literals vars t = literal_of_literals (out-Term t)

-- `get` of a `rec` is the component
abbrev pub get_of_rec : Rule
get_of_rec vars t =
    on_field t (λ of field r. on_rec r (λ (found : RecTerm).
    if found.of == of then slice_get found.fields field else None))

-- not(not a) is a
abbrev pub not_of_not : Rule
not_of_not vars t = on_one Not t (λ n. on_one Not n (λ a. Some a))

-- not(and(a,b)) is or(not a, not b)
abbrev pub not_of_and : Rule
not_of_and vars t = on_one Not t (λ n. on_two And n (λ a b. Some (two Or (one Not a) (one Not b))))

-- not(or(a,b)) is and(not a, not b)
abbrev pub not_of_or : Rule
not_of_or vars t = on_one Not t (λ n. on_two Or n (λ a b. Some (two And (one Not a) (one Not b))))

-- the negation of a comparison is another, of its sides swapped
abbrev pub not_of_comparison : Op → Op → Rule
not_of_comparison op other vars t = on_one Not t (λ n. on_two op n (λ a b. Some (two other b a)))

-- not(ult(a,b)) is ule(b,a)
abbrev pub not_of_ult : Rule
not_of_ult = not_of_comparison Ult Ule

-- not(ule(a,b)) is ult(b,a)
abbrev pub not_of_ule : Rule
not_of_ule = not_of_comparison Ule Ult

-- not(slt(a,b)) is sle(b,a)
abbrev pub not_of_slt : Rule
not_of_slt = not_of_comparison Slt Sle

-- not(sle(a,b)) is slt(b,a)
abbrev pub not_of_sle : Rule
not_of_sle = not_of_comparison Sle Slt

-- an operation on truths whose first side is this literal
abbrev pub on_first_truth : Op → Bool → Term → (Term → Option Term) → Option Term
on_first_truth op p t go = on_two op t (λ a b. on_truth a (λ q. if beq p q then go b else None))

-- an operation on truths whose second side is this literal
abbrev pub on_second_truth : Op → Bool → Term → (Term → Option Term) → Option Term
on_second_truth op p t go = on_two op t (λ a b. on_truth b (λ q. if beq p q then go a else None))

-- and(false, b) is false
abbrev pub and_of_first_false : Rule
and_of_first_false vars t = on_first_truth And false t (λ b. Some (truth false))

-- and(a, false) is false
abbrev pub and_of_second_false : Rule
and_of_second_false vars t = on_second_truth And false t (λ a. Some (truth false))

-- and(true, b) is b
abbrev pub and_of_first_true : Rule
and_of_first_true vars t = on_first_truth And true t (λ b. Some b)

-- and(a, true) is a
abbrev pub and_of_second_true : Rule
and_of_second_true vars t = on_second_truth And true t (λ a. Some a)

-- or(true, b) is true
abbrev pub or_of_first_true : Rule
or_of_first_true vars t = on_first_truth Or true t (λ b. Some (truth true))

-- or(a, true) is true
abbrev pub or_of_second_true : Rule
or_of_second_true vars t = on_second_truth Or true t (λ a. Some (truth true))

-- or(false, b) is b
abbrev pub or_of_first_false : Rule
or_of_first_false vars t = on_first_truth Or false t (λ b. Some b)

-- or(a, false) is a
abbrev pub or_of_second_false : Rule
or_of_second_false vars t = on_second_truth Or false t (λ a. Some a)

-- and(a,a) is a
abbrev pub and_of_same : Rule
and_of_same vars t = on_two And t (λ a b. only_if (term_eq a b) a)

-- or(a,a) is a
abbrev pub or_of_same : Rule
or_of_same vars t = on_two Or t (λ a b. only_if (term_eq a b) a)

-- ite(true,a,b) is a; ite(false,a,b) is b
abbrev pub ite_of_truth : Rule
ite_of_truth vars t = on_three Ite t (λ c a b. on_truth c (λ p. Some (if p then a else b)))

-- ite(c,a,a) is a
abbrev pub ite_of_same : Rule
ite_of_same vars t = on_three Ite t (λ c a b. only_if (term_eq a b) a)

-- ite(not c,a,b) is ite(c,b,a)
abbrev pub ite_of_not : Rule
ite_of_not vars t = on_three Ite t (λ n a b. on_one Not n (λ c. Some (three Ite c b a)))

-- ite(c,a,b) on bool is or(and(c,a), and(not c,b))
abbrev pub ite_of_truths : Rule
ite_of_truths vars t =
    on_three Ite t (λ c a b.
    only_if (is_bool vars a) (two Or (two And c a) (two And (one Not c) b)))

-- the rules on literals, fields, truths and choices
abbrev pub truth_rules : List Rule
truth_rules =
    op_on_literals ∷ get_of_rec ∷ not_of_not ∷ not_of_and ∷ not_of_or ∷ not_of_ult ∷ not_of_ule
    ∷ not_of_slt ∷ not_of_sle ∷ and_of_first_false ∷ and_of_second_false ∷ and_of_first_true
    ∷ and_of_second_true ∷ or_of_first_true ∷ or_of_second_true ∷ or_of_first_false
    ∷ or_of_second_false ∷ and_of_same ∷ or_of_same ∷ ite_of_truth ∷ ite_of_same ∷ ite_of_not
    ∷ ite_of_truths ∷ []
