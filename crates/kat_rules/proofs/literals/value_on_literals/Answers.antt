-- No operation takes four arguments.
use Rattle.std.proofs.Common.{◌≡◌, suc, List, [], ◌∷◌, length, map, Option, Some, None, ◌≤◌, refl, sym, ap, arith}
use Rattle.std.specs.Prelude.{option_and_then}
use Rattle.std.specs.Option.{option_map}
use Rattle.kat_value.specs.declared.op.Op.{Op}
use Rattle.kat_value.specs.declared.value.Value.{Value}
use Rattle.kat_term.specs.declared.term.Term.{Term}
use Rattle.kat_value.specs.Operations.{value_of_op}
use Rattle.kat_value.specs.Making.{all_there}
use Rattle.kat_rules.specs.Truths.{plain_of}
use Rattle.kat_rules.proofs.literals.value_on_literals.Goals as goal

long : (op : Op) (os : List (Option Value)) → 4 ≤ length os →
    option_and_then (value_of_op op) (all_there os) ≡ None
long op [] four = absurd (omega arith)
long op (a ∷ []) four = absurd (omega arith)
long op (a ∷ b ∷ []) four = absurd (omega arith)
long op (a ∷ b ∷ c ∷ []) four = absurd (omega arith)
long op (a ∷ b ∷ c ∷ d ∷ more) four = by a b c d (all_there more) where
  by : (a b c d : Option Value) (rest : Option (List Value)) →
      option_and_then (value_of_op op) (option_and_then (λ x. option_map (λ xs. x ∷ xs)
      (option_and_then (λ y. option_map (λ ys. y ∷ ys)
      (option_and_then (λ z. option_map (λ zs. z ∷ zs)
      (option_and_then (λ w. option_map (λ ws. w ∷ ws) rest) d)) c)) b)) a) ≡ None
  by None b c d rest = refl
  by (Some x) None c d rest = refl
  by (Some x) (Some y) None d rest = refl
  by (Some x) (Some y) (Some z) None rest = refl
  by (Some x) (Some y) (Some z) (Some w) None = refl
  by (Some x) (Some y) (Some z) (Some w) (Some ws) = refl

as_many : (args : List Term) → length (map plain_of args) ≡ length args
as_many [] = refl
as_many (arg ∷ args) = ap suc (as_many args)

pub returns-in-len4-up : goal.returns-in-len4-up
returns-in-len4-up c =
    sym (long c.args.op (map plain_of c.args.args.now)
    (omega (arith, as_many c.args.args.now, c.in-len4-up.len_at_least)))
