-- The names of an expression that is a name alone, or an equation of one.
use Rattle.std.proofs.Common.{◌≡◌, List, [], ◌∷◌, ◌++◌, map, Option, None, Some, refl, sym, ap, subst, ◌∙◌}
use Rattle.kat_value.specs.declared.op.Op.{Op}
use Rattle.kat_value.specs.declared.op.Op.TheVariants as o
use Rattle.kat_ast.specs.declared.expr.Expr.{Expr}
use Rattle.kat_ast.specs.declared.expr.Expr.TheOpen as layer
use Rattle.kat_ast.specs.declared.expr.Expr.TheOpen.{Expr-F}
use Rattle.kat_ast.specs.declared.expr.Expr.TheViews.{out-Expr}
use Rattle.kat_ast.specs.declared.expr.Expr.TheFolds.{map-Expr, fold_out-Expr}
use Rattle.kat_syntax.specs.Tables.{Name}
use Rattle.kat_syntax.specs.Modes.{Used, expr_used, used_in, equating, names_of_parts}

-- an expression that is a name alone has this name and no other
abbrev pub IsAlone : Option Name → List Name → Type 0
IsAlone alone names = (x : Name) → alone ≡ Some x → names ≡ x ∷ []

-- an equation has the name and the names in what it is equal to
abbrev pub IsEquation : Option (Name × List Name) → List Name → Type 0
IsEquation equates names =
    (equation : Name × List Name) → equates ≡ Some equation → names ≡ equation.0 ∷ equation.1

none_alone : (names : List Name) → IsAlone None names
none_alone names x e = absurd (let f : None ≡ Some x = e in cc)

none_equates : (names : List Name) → IsEquation None names
none_equates names equation e = absurd (let f : None ≡ Some equation = e in cc)

alone_one : (x : Name) → IsAlone (Some x) (x ∷ [])
alone_one x y e = let f : Some x ≡ Some y = e in cc

-- an operation is no name alone
apply_alone : (op : Op) (args : List Used) → (expr_used (layer.Apply op args)).alone ≡ None
apply_alone o.Eq [] = refl
apply_alone o.Eq (a ∷ []) = refl
apply_alone o.Eq (a ∷ b ∷ []) = refl
apply_alone o.Eq (a ∷ b ∷ c ∷ args) = refl
apply_alone o.Not args = refl
apply_alone o.And args = refl
apply_alone o.Or args = refl
apply_alone o.Ult args = refl
apply_alone o.Ule args = refl
apply_alone o.Slt args = refl
apply_alone o.Sle args = refl
apply_alone o.Add args = refl
apply_alone o.Sub args = refl
apply_alone o.Mul args = refl
apply_alone o.Band args = refl
apply_alone o.Bor args = refl
apply_alone o.Bxor args = refl
apply_alone o.Bnot args = refl
apply_alone o.Shl args = refl
apply_alone o.Shr args = refl
apply_alone o.Sar args = refl
apply_alone o.Cat args = refl
apply_alone o.Ite args = refl
apply_alone (o.Slice hi lo) args = refl
apply_alone (o.Zext width) args = refl
apply_alone (o.Sext width) args = refl
apply_alone (o.Get r f) args = refl

abbrev HasAlone : Used → Type 0
HasAlone used = IsAlone used.alone used.names

alone_layer : (y : Expr-F Used) → HasAlone (expr_used y)
alone_layer (layer.Name x) = alone_one x
alone_layer (layer.Make k payload) = none_alone payload.names
alone_layer (layer.Rec r fields) = none_alone (names_of_parts fields)
alone_layer (layer.Apply op args) = λ x e.
    none_alone (expr_used (layer.Apply op args)).names x (sym (apply_alone op args) ∙ e)
alone_layer (layer.Get r f value) = none_alone value.names
alone_layer _ = none_alone []

-- the names of an expression that is a name alone
pub alone_in : (e : Expr) → IsAlone (used_in e).alone (used_in e).names
alone_in e =
    subst HasAlone (sym (fold_out-Expr Used expr_used e))
    (alone_layer (map-Expr Expr Used used_in (out-Expr e)))

-- the name and the names of an equation, as a list
abbrev in_one : Option (Name × List Name) → List Name
in_one None = []
in_one (Some equation) = equation.0 ∷ equation.1

equated : (alone : Option Name) (names others : List Name) → IsAlone alone names → IsEquation (equating alone others) (names ++ others)
equated None names others is = none_equates (names ++ others)
equated (Some x) names others is = λ equation e.
    ap (λ l. l ++ others) (is x refl)
    ∙ ap in_one e

apply_equates : (op : Op) (args : List Expr) → IsEquation (expr_used (layer.Apply op (map used_in args))).equates (expr_used (layer.Apply op (map used_in args))).names
apply_equates o.Eq [] = none_equates []
apply_equates o.Eq (a ∷ []) = none_equates (names_of_parts (used_in a ∷ []))
apply_equates o.Eq (a ∷ b ∷ []) = equated (used_in a).alone (used_in a).names (used_in b).names (alone_in a)
apply_equates o.Eq (a ∷ b ∷ c ∷ args) = none_equates (names_of_parts (map used_in (a ∷ b ∷ c ∷ args)))
apply_equates o.Not args = none_equates (names_of_parts (map used_in args))
apply_equates o.And args = none_equates (names_of_parts (map used_in args))
apply_equates o.Or args = none_equates (names_of_parts (map used_in args))
apply_equates o.Ult args = none_equates (names_of_parts (map used_in args))
apply_equates o.Ule args = none_equates (names_of_parts (map used_in args))
apply_equates o.Slt args = none_equates (names_of_parts (map used_in args))
apply_equates o.Sle args = none_equates (names_of_parts (map used_in args))
apply_equates o.Add args = none_equates (names_of_parts (map used_in args))
apply_equates o.Sub args = none_equates (names_of_parts (map used_in args))
apply_equates o.Mul args = none_equates (names_of_parts (map used_in args))
apply_equates o.Band args = none_equates (names_of_parts (map used_in args))
apply_equates o.Bor args = none_equates (names_of_parts (map used_in args))
apply_equates o.Bxor args = none_equates (names_of_parts (map used_in args))
apply_equates o.Bnot args = none_equates (names_of_parts (map used_in args))
apply_equates o.Shl args = none_equates (names_of_parts (map used_in args))
apply_equates o.Shr args = none_equates (names_of_parts (map used_in args))
apply_equates o.Sar args = none_equates (names_of_parts (map used_in args))
apply_equates o.Cat args = none_equates (names_of_parts (map used_in args))
apply_equates o.Ite args = none_equates (names_of_parts (map used_in args))
apply_equates (o.Slice hi lo) args = none_equates (names_of_parts (map used_in args))
apply_equates (o.Zext width) args = none_equates (names_of_parts (map used_in args))
apply_equates (o.Sext width) args = none_equates (names_of_parts (map used_in args))
apply_equates (o.Get r f) args = none_equates (names_of_parts (map used_in args))

abbrev HasEquation : Used → Type 0
HasEquation used = IsEquation used.equates used.names

equates_layer : (y : Expr-F Expr) → HasEquation (expr_used (map-Expr Expr Used used_in y))
equates_layer (layer.Name x) = none_equates (x ∷ [])
equates_layer (layer.Make k payload) = none_equates (used_in payload).names
equates_layer (layer.Rec r fields) = none_equates (names_of_parts (map used_in fields))
equates_layer (layer.Apply op args) = apply_equates op args
equates_layer (layer.Get r f value) = none_equates (used_in value).names
equates_layer _ = none_equates []

-- the names of an expression that is an equation of a name
pub equates_in : (e : Expr) → IsEquation (used_in e).equates (used_in e).names
equates_in e =
    subst HasEquation (sym (fold_out-Expr Used expr_used e)) (equates_layer (out-Expr e))
