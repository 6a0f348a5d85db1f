-- What a formula tells, by its operation.
use Rattle.std.proofs.Common.{◌≡◌, List, Option, Some, None, refl}
use Rattle.std.specs.Option.{option_or}
use Rattle.kat_value.specs.declared.op.Op.{Op}
use Rattle.kat_value.specs.declared.op.Op.TheVariants.{Not, Eq, Ult, Ule}
use Rattle.kat_term.specs.declared.term.Term.{Term}
use Rattle.kat_term.specs.declared.term.Term.TheOpen.{Term-F, Var, Lit, Apply, Make, Rec}
use Rattle.kat_term.specs.declared.term.Term.TheViews.{out-Term}
use Rattle.kat_term.specs.Views.{one_item, two_items, args_in}
use Rattle.std.specs.Prelude.{option_and_then}
use Rattle.kat_known.specs.declared.facts.Fact.{Fact}
use Rattle.kat_known.specs.declared.facts.Fact.TheVariants.{Above, AtLeast, Below, AtMost, Exactly}
use Rattle.kat_known.specs.Bounds.{told_by_order, told_by_equation, told_by_negation, fact_of, fact_by}

or_none : {A : Type 0} (o : Option A) → option_or o None ≡ o
or_none None = refl
or_none (Some x) = refl

-- what one layer tells
abbrev fact_in : Term → Term-F Term → Option Fact
fact_in t layer =
    option_or (option_and_then (λ sides. told_by_order Above Below t sides.0 sides.1)
    (option_and_then two_items (args_in Ult layer)))
    (option_or (option_and_then (λ sides. told_by_order AtLeast AtMost t sides.0 sides.1)
    (option_and_then two_items (args_in Ule layer)))
    (option_or (option_and_then (λ sides. told_by_equation Exactly t sides.0 sides.1)
    (option_and_then two_items (args_in Eq layer)))
    (option_and_then (told_by_negation t) (option_and_then one_item (args_in Not layer)))))

abbrev fact_at : Term → Term-F Term → Option Fact
fact_at t (Var i) = None
fact_at t (Lit x) = None
fact_at t (Apply op args) = fact_by op t args
fact_at t (Make of ctor inner) = None
fact_at t (Rec of fields) = None

by_op : (t : Term) (op : Op) (args : List Term) → fact_in t (Apply op args) ≡ fact_by op t args
by_op t Ult args =
    or_none (option_and_then (λ sides. told_by_order Above Below t sides.0 sides.1)
    (two_items args))
by_op t Ule args =
    or_none (option_and_then (λ sides. told_by_order AtLeast AtMost t sides.0 sides.1)
    (two_items args))
by_op t Eq args =
    or_none (option_and_then (λ sides. told_by_equation Exactly t sides.0 sides.1) (two_items args))
by_op t Not args = refl
by_op t _ args = refl

by_layer : (t : Term) (layer : Term-F Term) → fact_in t layer ≡ fact_at t layer
by_layer t (Var i) = refl
by_layer t (Lit x) = refl
by_layer t (Apply op args) = by_op t op args
by_layer t (Make of ctor inner) = refl
by_layer t (Rec of fields) = refl

pub fact_told : (t formula : Term) → fact_of t formula ≡ fact_at t (out-Term formula)
fact_told t formula = by_layer t (out-Term formula)
