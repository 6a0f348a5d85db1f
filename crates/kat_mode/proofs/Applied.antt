-- The names of an operation are those of its arguments.
use Rattle.std.proofs.Common.{◌≡◌, List, [], ◌∷◌, ◌++◌, refl, sym, ap}
use Rattle.std.proofs.lemmas.List.{append-nil}
use Rattle.kat_value.specs.declared.op.Op.{Op}
use Rattle.kat_value.specs.declared.op.Op.TheVariants as o
use Rattle.kat_ast.specs.declared.expr.Expr.TheOpen.{Apply}
use Rattle.kat_syntax.specs.Modes.{Used, expr_used, names_of_parts}

pub apply_names : (op : Op) (args : List Used) →
    (expr_used (Apply op args)).names ≡ names_of_parts args
apply_names o.Eq [] = refl
apply_names o.Eq (a ∷ []) = refl
apply_names o.Eq (a ∷ b ∷ []) = ap (λ names. a.names ++ names) (sym (append-nil b.names))
apply_names o.Eq (a ∷ b ∷ c ∷ args) = refl
apply_names o.Not args = refl
apply_names o.And args = refl
apply_names o.Or args = refl
apply_names o.Ult args = refl
apply_names o.Ule args = refl
apply_names o.Slt args = refl
apply_names o.Sle args = refl
apply_names o.Add args = refl
apply_names o.Sub args = refl
apply_names o.Mul args = refl
apply_names o.Band args = refl
apply_names o.Bor args = refl
apply_names o.Bxor args = refl
apply_names o.Bnot args = refl
apply_names o.Shl args = refl
apply_names o.Shr args = refl
apply_names o.Sar args = refl
apply_names o.Cat args = refl
apply_names o.Ite args = refl
apply_names (o.Slice hi lo) args = refl
apply_names (o.Zext width) args = refl
apply_names (o.Sext width) args = refl
apply_names (o.Get r f) args = refl
