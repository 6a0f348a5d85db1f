-- What a formula adds to a substitution.
use Rattle.std.specs.Prelude.{ℕ, Bool, true, false, not, ◌==◌, ◌||◌, nat_lt, if◌then◌else◌, List, [], ◌∷◌, Option, Some, None}
use Rattle.std.specs.Option.{option_map, option_or}
use Rattle.kat_value.specs.declared.op.Op.TheVariants.{Not, Eq}
use Rattle.kat_term.specs.declared.term.Term.{Term}
use Rattle.kat_term.specs.declared.term.Term.TheOpen.{Term-F, Var, Lit, Apply, Make, Rec}
use Rattle.kat_term.specs.declared.term.Term.TheFolds.{fold-Term}
use Rattle.kat_term.specs.Views.{truth, var_of}
use Rattle.kat_norm.specs.declared.substitution.Pair.{Pair}
use Rattle.kat_known.specs.Views.{with_one, with_two, where_so}

-- whether one of these is true
abbrev pub any_of : List Bool → Bool
any_of [] = false
any_of (b ∷ bs) = b || any_of bs

-- whether one layer is the variable of this number, or has it in a part
abbrev pub has_var_layer : ℕ → Term-F Bool → Bool
has_var_layer number (Var i) = i == number
has_var_layer number (Lit x) = false
has_var_layer number (Apply op args) = any_of args
has_var_layer number (Make of ctor inner) = inner
has_var_layer number (Rec of fields) = any_of fields

-- whether the variable of this number stands in a term
abbrev pub has_var : ℕ → Term → Bool
has_var number = fold-Term Bool (has_var_layer number)

-- a variable by its number, with the term that takes its place
abbrev pub pair : ℕ → Term → Pair
pair number term = record { number = number; term = term }

-- the pair of two variables: the later is replaced by the earlier
abbrev pub pair_of_variables : ℕ → ℕ → Term → Term → Option Pair
pair_of_variables i j a b =
    if i == j then None else if nat_lt i j then Some (pair j a) else Some (pair i b)

-- the pair of an equation, by the numbers of its sides that are variables: a variable is replaced
-- by a term without it
abbrev pub pair_of_sides : Option ℕ → Option ℕ → Term → Term → Option Pair
pair_of_sides None None a b = None
pair_of_sides (Some i) None a b = where_so (not (has_var i b)) (Some (pair i b))
pair_of_sides None (Some j) a b = where_so (not (has_var j a)) (Some (pair j a))
pair_of_sides (Some i) (Some j) a b = pair_of_variables i j a b

-- a variable of type bool becomes this truth
abbrev pub pair_of_truth : Bool → Term → Option Pair
pair_of_truth p t = option_map (λ i. pair i (truth p)) (var_of t)

-- what a formula adds: a variable becomes true, a negated one false, and an equation replaces one
abbrev pub pair_of : Term → Option Pair
pair_of g =
    option_or (pair_of_truth true g)
    (option_or (with_one Not g (pair_of_truth false))
    (with_two Eq g (λ a b. pair_of_sides (var_of a) (var_of b) a b)))
