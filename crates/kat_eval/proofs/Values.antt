-- The values of expressions, one after another.
use Rattle.std.proofs.Common.{◌≡◌, ◌∙◌, List, [], ◌∷◌, ◌++◌, Option, Some, None, option_and_then, refl, ap, sym, append_assoc}
use Rattle.std.specs.Option.{option_map}
use Rattle.std.proofs.lemmas.List.{append-nil}
use Rattle.kat_value.specs.declared.value.Value.{Value}
use Rattle.kat_value.specs.Making.{all_there}
use Rattle.kat_ast.specs.declared.expr.Expr.{Expr}
use Rattle.kat_syntax.specs.Evaluation.{Environment, value_of_expr, values_of_exprs}

module _ (env : Environment) (exprs : List Expr) where
  -- the values so far and those of what is left are all of them
  pub record AreSoFar (values : List Value) (rest : List Expr) : Type 0 where
    pub whole :
        values_of_exprs env exprs ≡ option_map (λ more. values ++ more) (values_of_exprs env rest)

  none_yet : (o : Option (List Value)) → o ≡ option_map (λ more. [] ++ more) o
  none_yet None = refl
  none_yet (Some more) = refl

  pub begins : AreSoFar [] exprs
  begins = record { whole = none_yet (values_of_exprs env exprs) }

  one_more : (values : List Value) (v : Value) (o : Option (List Value)) →
      option_map (λ more. values ++ more) (option_map (λ xs. v ∷ xs) o)
      ≡ option_map (λ more. (values ++ v ∷ []) ++ more) o
  one_more values v None = refl
  one_more values v (Some more) = ap (λ xs. Some xs) (sym (append_assoc values (v ∷ []) more))

  -- one more value
  pub goes_on : (values : List Value) (v : Value) (e : Expr) (rest left : List Expr) →
      AreSoFar values left → left ≡ e ∷ rest → Some v ≡ value_of_expr env e →
      AreSoFar (values ++ v ∷ []) rest
  goes_on values v e rest left so here is = record {
    whole = so.whole
        ∙ ap (λ es. option_map (λ more. values ++ more) (values_of_exprs env es)) here
        ∙ ap (λ o. option_map (λ more. values ++ more)
        (option_and_then (λ x. option_map (λ xs. x ∷ xs) (values_of_exprs env rest)) o)) (sym is)
        ∙ one_more values v (values_of_exprs env rest);
  }

  -- one has no value
  pub stops : (values : List Value) (e : Expr) (rest left : List Expr) → AreSoFar values left →
      left ≡ e ∷ rest → None ≡ value_of_expr env e → None ≡ values_of_exprs env exprs
  stops values e rest left so here none =
      sym (
      so.whole
      ∙ ap (λ es. option_map (λ more. values ++ more) (values_of_exprs env es)) here
      ∙ ap (λ o. option_map (λ more. values ++ more)
      (option_and_then (λ x. option_map (λ xs. x ∷ xs) (values_of_exprs env rest)) o)) (sym none))

  -- all have values
  pub ends : (values : List Value) (left : List Expr) → AreSoFar values left → left ≡ [] →
      Some values ≡ values_of_exprs env exprs
  ends values left so none =
      sym (
      so.whole
      ∙ ap (λ es. option_map (λ more. values ++ more) (values_of_exprs env es)) none
      ∙ ap (λ xs. Some xs) (append-nil values))
