-- The lemmas that small statements use, the registers that a condition reads, and the names that an
-- assertion may bind.
use Rattle.std.proofs.Common.{arith, ◌≡◌, ◌∙◌, ℕ, zero, suc, Bool, true, false, List, [], ◌∷◌, Option, None, Some, inl, inr, refl, sym, ap, subst, slice_get, if◌then◌else◌}
use Rattle.std.specs.Prelude.{◌⊎◌, Contains}
use Rattle.std.specs.List.{AllByRecursion}
use Rattle.std.specs.Str.{bytes_eq}
use Rattle.std.proofs.lemmas.Slice.Eq.{bytes_eq-Decides}
use Rattle.kat_value.specs.declared.value.Value.{Value}
use Rattle.kat_ast.specs.declared.assertion.Assertion.{Assertion}
use Rattle.kat_ast.specs.declared.assertion.Assertion.TheOpen as assertion
use Rattle.kat_ast.specs.declared.assertion.Assertion.TheFolds.{fold-roll-Assertion, map-Assertion}
use Rattle.kat_ast.specs.declared.assertion.Assertion.TheViews.{roll-Assertion}
use Rattle.kat_ast.specs.declared.decl.DeclForm.{DeclForm}
use Rattle.kat_ast.specs.declared.decl.DeclForm.TheVariants as d
use Rattle.kat_ast.specs.declared.expr.Expr.{Expr}
use Rattle.kat_ast.specs.declared.expr.Expr.TheOpen as expr
use Rattle.kat_ast.specs.declared.expr.Expr.TheFolds.{fold-roll-Expr, map-Expr}
use Rattle.kat_ast.specs.declared.expr.Expr.TheViews.{roll-Expr}
use Rattle.kat_ast.specs.declared.stm.Stm.{Stm}
use Rattle.kat_ast.specs.declared.stm.Stm.TheOpen as stm
use Rattle.kat_ast.specs.declared.stm.Stm.TheOpen.{Stm-F}
use Rattle.kat_ast.specs.declared.stm.Stm.TheViews.{roll-Stm, out-roll-Stm}
use Rattle.kat_syntax.specs.Fragments.{one_register}
use Rattle.kat_syntax.specs.Tables.{Name}
use Rattle.kat_claims.specs.Names.{assertion_names, expr_names, names_of_assertion, names_of_expr}
use Rattle.kat_heap.specs.Met.{Carries, HasRegister, expr_registers, registers_of_expr}
use Rattle.kat_heap.specs.Walks.{named}
use Rattle.kat_exec.specs.Examples.{LemmasComeOut, NamesComeOut, RegistersAreRead, a, anything, asks_it, at_zero, g, gives, l, machine, o, of_register, r, sayer, says, the, then_says, x, y}
use Rattle.kat_exec.specs.Lemmas.{UsesLemma, ByCall, ByItself, ByPart, parts_of_stm}
use Rattle.kat_exec.specs.Statements.{contract_of}

-- by what one layer uses a lemma
data UsesBy (decls : List DeclForm) (m : Name) (layer : Stm-F Stm) : Type 0 where
  Itself : (args : List Expr) → layer ≡ stm.Lemma m args → UsesBy decls m layer
  Part : (at : ℕ) (part : Stm) → slice_get (parts_of_stm layer) at ≡ Some part →
      UsesLemma decls m part → UsesBy decls m layer
  Body : (f : Name) (args : List Expr) → layer ≡ stm.Call f args →
      contract_of decls f ≡ None → UsesBy decls m layer

module _ (decls : List DeclForm) (m : Name) where
  -- a statement that is made uses a lemma by its layer
  by_layer : (layer : Stm-F Stm) → UsesLemma decls m (roll-Stm layer) → UsesBy decls m layer
  by_layer layer (ByItself args e) = Itself args (sym (out-roll-Stm layer) ∙ e)
  by_layer layer (ByPart at part is uses) =
      Part at part (ap (λ z. slice_get (parts_of_stm z) at) (sym (out-roll-Stm layer)) ∙ is) uses
  by_layer layer (ByCall f args function e none is uses) =
      Body f args (sym (out-roll-Stm layer) ∙ e) none

  -- `(ret x)` uses none
  of_ret : UsesBy decls m (stm.Ret (the x)) → ⊥
  of_ret (Itself args e) = cc
  of_ret (Part at part is uses) = cc
  of_ret (Body f args e none) = cc

  -- `(lemma l)` uses l alone
  of_lemma : UsesBy decls m (stm.Lemma l []) → m ≡ l
  of_lemma (Itself args e) = cc
  of_lemma (Part at part is uses) = absurd cc
  of_lemma (Body f args e none) = absurd cc

  -- a part of `(seq (ret x) (lemma l))`
  of_parts :
      (at : ℕ) (part : Stm) → slice_get (gives x ∷ says ∷ []) at ≡ Some part →
      UsesLemma decls m part → m ≡ l
  of_parts zero part is uses =
      let same : part ≡ gives x = cc in
      absurd (of_ret (by_layer (stm.Ret (the x)) (subst (λ z. UsesLemma decls m z) same uses)))
  of_parts (suc zero) part is uses =
      let same : part ≡ says = cc in
      of_lemma (by_layer (stm.Lemma l []) (subst (λ z. UsesLemma decls m z) same uses))
  of_parts (suc (suc at)) part is uses = absurd cc

  -- it uses l alone
  of_seq : UsesBy decls m (stm.Seq (gives x ∷ says ∷ [])) → m ≡ l
  of_seq (Itself args e) = absurd cc
  of_seq (Part at part is uses) = of_parts at part is uses
  of_seq (Body f args e none) = absurd cc

-- a call of a function that has a contract
of_call :
    (m : Name) →
    UsesBy (d.Contract g [] anything o anything ∷ sayer) m (stm.Call g []) → ⊥
of_call m (Itself args e) = cc
of_call m (Part at part is uses) = cc
of_call m (Body f args e none) =
    let same : f ≡ g = cc in
    named_so (subst (λ z. contract_of (d.Contract g [] anything o anything ∷ sayer) z ≡ None) same
    none)
  where
    named_so : contract_of (d.Contract g [] anything o anything ∷ sayer) g ≡ None → ⊥
    named_so none = cc

pub lemmas : LemmasComeOut
lemmas = record {
  said = inr (inl (ByItself [] (out-roll-Stm (stm.Lemma l []))));
  in_part = inr (inl (ByPart 1 says
      (ap (λ z. slice_get (parts_of_stm z) 1) (out-roll-Stm (stm.Seq (gives x ∷ says ∷ []))))
      (ByItself [] (out-roll-Stm (stm.Lemma l [])))));
  no_other = no_other;
  in_body = inr (inl (ByCall g [] _ (out-roll-Stm (stm.Call g [])) refl refl
      (ByItself [] (out-roll-Stm (stm.Lemma l [])))));
  by_contract = by_contract;
  in_place = λ m uses. uses;
  behind = λ block. inl (_, refl, ByItself [] (out-roll-Stm (stm.Lemma l [])));
  none_behind = λ block uses. none_of uses;
}
  where
    no_other :
        (m : Name) → ⊥ ⊎ (UsesLemma machine m then_says ⊎ ⊥) → m ≡ l
    no_other m (inl uses) = absurd uses
    no_other m (inr (inl uses)) = of_seq machine m (by_layer machine m _ uses)
    no_other m (inr (inr uses)) = absurd uses

    by_contract :
        (m : Name) →
        ⊥ ⊎ (UsesLemma (d.Contract g [] anything o anything ∷ sayer) m asks_it ⊎ ⊥) → ⊥
    by_contract m (inl uses) = uses
    by_contract m (inr (inl uses)) = of_call m (by_layer _ m _ uses)
    by_contract m (inr (inr uses)) = uses

    none_of : ⊥ ⊎ ⊥ → ⊥
    none_of (inl uses) = uses
    none_of (inr uses) = uses

-- one layer of an expression reads the registers that its parts read
reading_layer :
    (layer : expr.Expr-F Expr) →
    registers_of_expr (roll-Expr layer)
    ≡ expr_registers (map-Expr Expr (List Name) registers_of_expr layer)
reading_layer layer = fold-roll-Expr (List Name) expr_registers layer

are_read : registers_of_expr at_zero ≡ r ∷ []
are_read = simp (reading_layer)

pub registers_read : RegistersAreRead
registers_read = record {
  are_read = are_read;
  in_parts = simp (reading_layer);
  are_there = λ v.
      subst (AllByRecursion (HasRegister machine (one_register 0 v))) (sym are_read)
      ((0, refl, refl), tt);
  are_not_there = λ v has.
      other v (subst (AllByRecursion (HasRegister machine (one_register 1 v))) are_read has);
}
  where
    other : (v : Value) → AllByRecursion (HasRegister machine (one_register 1 v)) (r ∷ []) → ⊥
    other v ((zero, e, there), more) = cc
    other v ((suc at, e, there), more) = cc

-- one layer of an expression and of an assertion has the names of its parts
naming_layer :
    (layer : expr.Expr-F Expr) →
    names_of_expr (roll-Expr layer) ≡ expr_names (map-Expr Expr (List Name) names_of_expr layer)
naming_layer layer = fold-roll-Expr (List Name) expr_names layer

asserting_layer :
    (layer : assertion.Assertion-F Assertion) →
    names_of_assertion (roll-Assertion layer)
    ≡ assertion_names (map-Assertion Assertion (List Name) names_of_assertion layer)
asserting_layer layer = fold-roll-Assertion (List Name) assertion_names layer

may_bind : names_of_assertion of_register ≡ x ∷ []
may_bind = simp (asserting_layer, naming_layer)

-- what stands behind a name
behind :
    (b : Bool) (v u : Value) (first : Option Value) (Q : Type 0) →
    (if b then Some v else first) ≡ Some u → (b ≡ true → Q) → (first ≡ Some u → Q) → Q
behind true v u first Q e here more = here refl
behind false v u first Q e here more = more e

-- a name that stands for nothing where y alone stands for something is not y
named_y : (v w : Value) (z : Name) (u : Value) →
    named ((y, w) ∷ []) z ≡ Some u → (b : Bool) → bytes_eq x z ≡ b →
    (if b then Some v else named ((y, w) ∷ []) z) ≡ Some u
named_y v w z u e false same = e
named_y v w z u e true same =
    absurd (x_is_unbound (subst (λ n. named ((y, w) ∷ []) n ≡ Some u)
    (sym ((bytes_eq-Decides x z).0 same)) e))
  where
    x_is_unbound : named ((y, w) ∷ []) x ≡ Some u → ⊥
    x_is_unbound e = cc

pub names : NamesComeOut
names = record {
  bound = λ v w. subst (Carries ((y, w) ∷ []) ((x, v) ∷ (y, w) ∷ [])) (sym may_bind) (record {
    at = λ z u e. named_y v w z u e (bytes_eq x z) refl;
    only = λ z u none e.
        behind (bytes_eq x z) v u (named ((y, w) ∷ []) z) (Contains (x ∷ []) z) e
        (λ same. (0, omega arith, (bytes_eq-Decides x z).0 same))
        (λ more. absurd cc);
  });
  not_bound = λ v w carries.
      let known = subst (Carries ((y, w) ∷ []) ((a, v) ∷ (y, w) ∷ [])) may_bind carries in
      other (known.only a v refl refl);
}
  where
    other : Contains (x ∷ []) a → ⊥
    other (zero, few, e) = differ ((bytes_eq-Decides x a).1 e)
      where
        differ : false ≡ true → ⊥
        differ e = cc
    other (suc at, few, e) = absurd (omega arith)
