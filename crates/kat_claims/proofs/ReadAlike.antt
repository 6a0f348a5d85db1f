-- An expression that reads alike in two environments has one value in both.
use Rattle.std.proofs.Common.{◌≡◌, ◌∙◌, List, [], ◌∷◌, map, Option, refl, sym, ap, subst}
use Rattle.std.specs.Prelude.{option_and_then}
use Rattle.std.specs.Option.{option_map}
use Rattle.std.specs.List.{AllByRecursion}
use Rattle.kat_value.specs.declared.value.Value.{Value}
use Rattle.kat_value.specs.Operations.{value_of_op}
use Rattle.kat_ast.specs.declared.decl.DeclForm.{DeclForm}
use Rattle.kat_ast.specs.declared.expr.Expr.{Expr}
use Rattle.kat_ast.specs.declared.expr.Expr.TheOpen.{Expr-F, Make, Rec, Apply, Get}
use Rattle.kat_ast.specs.declared.expr.Expr.TheFolds.{map-Expr, fold-roll-Expr, ind-Expr}
use Rattle.kat_ast.specs.declared.expr.Expr.TheViews.{roll-Expr}
use Rattle.kat_syntax.specs.Evaluation.{Environment, Locals, Reads, expr_value, value_of_expr, values_of_exprs}
use Rattle.kat_syntax.specs.NamedValues.{made_value, rec_value, got_value}
use Rattle.kat_syntax.specs.TypeTable.{types_of_decls}

-- the value of one layer
abbrev pub value_of_layer : Environment → Expr-F Expr → Option Value
value_of_layer env layer = expr_value env (map-Expr Expr (Option Value) (value_of_expr env) layer)

-- the parts of a layer read alike, or a layer without parts has one value in both
abbrev pub ReadsAlike : Environment → Environment → (Expr → Type 0) → Expr-F Expr → Type 0
ReadsAlike first second Alike (Make k payload) = Alike payload
ReadsAlike first second Alike (Rec r fields) = AllByRecursion Alike fields
ReadsAlike first second Alike (Apply one args) = AllByRecursion Alike args
ReadsAlike first second Alike (Get r f part) = Alike part
ReadsAlike first second Alike leaf = value_of_layer first leaf ≡ value_of_layer second leaf

module _ (decls : List DeclForm) (ours theirs : Reads) (l m : Locals) (Alike : Expr → Type 0) where
  -- the two environments
  abbrev first : Environment
  first = record { decls = decls; reads = ours; locals = l }

  abbrev second : Environment
  second = record { decls = decls; reads = theirs; locals = m }

  -- what reads alike has one value
  abbrev Same : Expr → Type 0
  Same e = Alike e → value_of_expr first e ≡ value_of_expr second e

  abbrev Part : Type 0
  Part = (e : Expr) × Same e

  abbrev exprs : List Part → List Expr
  exprs es = map (λ (e : Part). e.0) es

  -- the first of some values, and those behind it
  one_more :
      (e : Expr) (es : List Expr) → value_of_expr first e ≡ value_of_expr second e →
      values_of_exprs first es ≡ values_of_exprs second es →
      values_of_exprs first (e ∷ es) ≡ values_of_exprs second (e ∷ es)
  one_more e es one rest =
      ap (λ x. option_and_then (λ v. option_map (λ vs. v ∷ vs) (values_of_exprs first es)) x) one
      ∙ ap (λ all. option_and_then (λ v. option_map (λ vs. v ∷ vs) all) (value_of_expr second e))
      rest

  -- parts of a layer
  all_same :
      (es : List Part) → AllByRecursion Alike (exprs es) →
      values_of_exprs first (exprs es) ≡ values_of_exprs second (exprs es)
  all_same [] alike = refl
  all_same (e ∷ es) alike =
      one_more e.0 (exprs es) (e.1 alike.0) (all_same es alike.1)

  -- one layer
  LayerSame : Expr-F Expr → Type 0
  LayerSame y = ReadsAlike first second Alike y → value_of_layer first y ≡ value_of_layer second y

  -- its parts have one value, and so it has
  layer_same : (y : Expr-F Part) → LayerSame (map-Expr Part Expr (λ e. e.0) y)
  unfolding LayerSame
  layer_same (Make c payload) alike =
      ap (option_and_then (made_value (types_of_decls decls) c)) (payload.1 alike)
  layer_same (Rec r fields) alike =
      ap (option_and_then (rec_value (types_of_decls decls) r)) (all_same fields alike)
  layer_same (Apply one args) alike =
      ap (option_and_then (value_of_op one)) (all_same args alike)
  layer_same (Get r f part) alike =
      ap (option_and_then (got_value (types_of_decls decls) r f)) (part.1 alike)
  layer_same _ alike = alike

  module _
      (opened :
      (layer : Expr-F Expr) → Alike (roll-Expr layer) → ReadsAlike first second Alike layer) where
    -- an expression
    pub same_value : (e : Expr) → Same e
    unfolding LayerSame
    same_value = ind-Expr Same (λ x y is alike.
        fold-roll-Expr (Option Value) (expr_value first) x
        ∙ subst LayerSame is (layer_same y) (opened x alike)
        ∙ sym (fold-roll-Expr (Option Value) (expr_value second) x))

    -- some of them
    pub same_values :
        (es : List Expr) → AllByRecursion Alike es →
        values_of_exprs first es ≡ values_of_exprs second es
    same_values [] alike = refl
    same_values (e ∷ es) alike =
        one_more e es (same_value e alike.0) (same_values es alike.1)
