-- What an assertion says goes by the values of the names that it reads.
use Rattle.std.proofs.Common.{◌≡◌, ◌∙◌, Bool, true, false, not, List, [], ◌∷◌, ◌++◌, filter, map, Some, refl, sym, subst, if◌then◌else◌}
use Rattle.std.specs.List.{AllByRecursion}
use Rattle.std.specs.Str.{bytes_eq}
use Rattle.kat_value.specs.declared.value.Value.{Value}
use Rattle.kat_ast.specs.declared.assertion.Assertion.{Assertion}
use Rattle.kat_ast.specs.declared.assertion.Assertion.TheOpen.{Assertion-F, Pure, Register as InRegister, Cell, Star, If, Exists, Predicate, Region}
use Rattle.kat_ast.specs.declared.assertion.Assertion.TheFolds.{map-Assertion, fold-roll-Assertion, ind-Assertion}
use Rattle.kat_ast.specs.declared.decl.DeclForm.{DeclForm}
use Rattle.kat_ast.specs.declared.expr.Expr.{Expr}
use Rattle.kat_ast.specs.declared.expr.Expr.TheOpen.{Expr-F, Name as Named, Make, Rec, Apply, Get}
use Rattle.kat_ast.specs.declared.expr.Expr.TheFolds.{map-Expr, fold-roll-Expr}
use Rattle.kat_ast.specs.declared.expr.Expr.TheViews.{roll-Expr}
use Rattle.kat_syntax.specs.Evaluation.{Environment, Locals, Reads, value_of_expr, value_of_name, values_of_exprs}
use Rattle.kat_syntax.specs.Fragments.{Fragment}
use Rattle.kat_syntax.specs.Holds.{Predicates, HoldsAll, HoldsBy, HoldsLayer, IfTrue, predicates_of}
use Rattle.kat_syntax.specs.MeaningLaws.{joined}
use Rattle.kat_syntax.specs.Tables.{Name}
use Rattle.kat_claims.specs.Names.{AgreeOn, OnlyNamesReadCount, assertion_names, expr_names, names_of_assertion, names_of_expr, names_of_exprs}
use Rattle.kat_claims.proofs.Layers.{closed, opened}
use Rattle.kat_claims.proofs.ReadAlike.{ReadsAlike, same_value, same_values}

-- what agrees on two lists of names agrees on each
both :
    (l m : Locals) (xs ys : List Name) → AgreeOn l m (xs ++ ys) → AgreeOn l m xs × AgreeOn l m ys
both l m [] ys agree = (tt, agree)
both l m (x ∷ xs) ys agree =
    let rest = both l m xs ys agree.1 in ((agree.0, rest.0), rest.1)

-- what agrees on the names that are not bound agrees on all, with one more local on both sides
under :
    (x : Name) (v : Value) (l m : Locals) (ys : List Name) →
    AgreeOn l m (filter (λ y. not (bytes_eq x y)) ys) → AgreeOn ((x, v) ∷ l) ((x, v) ∷ m) ys
under x v l m [] agree = tt
under x v l m (y ∷ ys) agree =
    let one = step (bytes_eq x y) agree in (one.0, under x v l m ys one.1)
  where
    step :
        (b : Bool) →
        AgreeOn l m (if not b then y ∷ filter (λ z. not (bytes_eq x z)) ys
        else filter (λ z. not (bytes_eq x z)) ys) →
        ((if b then Some v else value_of_name l y) ≡ (if b then Some v else value_of_name m y))
        × AgreeOn l m (filter (λ z. not (bytes_eq x z)) ys)
    step true agree = (refl, agree)
    step false agree = agree

module _ (decls : List DeclForm) (reads : Reads) where
  -- among these locals
  abbrev among : Locals → Environment
  among locals = record { decls = decls; reads = reads; locals = locals }

  module _ (l m : Locals) where
    -- locals agree on the names of an expression
    abbrev Agree : Expr → Type 0
    Agree e = AgreeOn l m (names_of_expr e)

    -- then they do on those of each of some
    each : (es : List Expr) → AgreeOn l m (names_of_exprs es) → AllByRecursion Agree es
    each [] agree = tt
    each (e ∷ es) agree =
        let split = both l m (names_of_expr e) (names_of_exprs es) agree in
        (split.0, each es split.1)

    -- and a layer reads alike
    opened_names :
        (layer : Expr-F Expr) →
        AgreeOn l m (expr_names (map-Expr Expr (List Name) names_of_expr layer)) →
        ReadsAlike (among l) (among m) Agree layer
    opened_names (Named x) agree = agree.0
    opened_names (Make k payload) agree = agree
    opened_names (Rec r fields) agree = each fields agree
    opened_names (Apply one args) agree = each args agree
    opened_names (Get r f part) agree = agree
    opened_names _ agree = refl

    agreed :
        (layer : Expr-F Expr) → Agree (roll-Expr layer) → ReadsAlike (among l) (among m) Agree layer
    agreed layer agree =
        opened_names layer (subst (AgreeOn l m) (fold-roll-Expr (List Name) expr_names layer) agree)

    -- so an expression has one value
    value_same : (e : Expr) → Agree e → value_of_expr (among l) e ≡ value_of_expr (among m) e
    value_same = same_value decls reads reads l m Agree agreed

    -- and so have some
    values_same :
        (es : List Expr) → AgreeOn l m (names_of_exprs es) →
        values_of_exprs (among l) es ≡ values_of_exprs (among m) es
    values_same es agree = same_values decls reads reads l m Agree agreed es (each es agree)

  module _ (predicates : Predicates) where
    -- an assertion says the same among both
    abbrev SaysSame : Assertion → Type 0
    SaysSame a =
        (l m : Locals) (f : Fragment) → AgreeOn l m (names_of_assertion a) →
        HoldsBy predicates a (among l) f → HoldsBy predicates a (among m) f

    abbrev Piece : Type 0
    Piece = (a : Assertion) × SaysSame a

    abbrev pieces : List Piece → List Assertion
    pieces parts = map (λ (a : Piece). a.0) parts

    -- the parts of a `star`
    all_say :
        (parts : List Piece) (l m : Locals) (f : Fragment) →
        AgreeOn l m (joined (map names_of_assertion (pieces parts))) →
        HoldsAll predicates Assertion (HoldsBy predicates) (pieces parts) (among l) f →
        HoldsAll predicates Assertion (HoldsBy predicates) (pieces parts) (among m) f
    all_say [] l m f agree h = h
    all_say (part ∷ parts) l m f agree (g, rest, join, first, others) =
        let split = both l m (names_of_assertion part.0)
        (joined (map names_of_assertion (pieces parts))) agree in
        (g, rest, join, part.1 l m g split.0 first, all_say parts l m rest split.1 others)

    -- one of two
    branch :
        (b : Bool) (A B C D : Type 0) → (A → C) → (B → D) → IfTrue b A B → IfTrue b C D
    branch true A B C D first second h = first h
    branch false A B C D first second h = second h

    -- one layer of an assertion
    layer_says :
        (y : Assertion-F Piece) (l m : Locals) (f : Fragment) →
        AgreeOn l m (assertion_names (map-Assertion Assertion (List Name) names_of_assertion
        (map-Assertion Piece Assertion (λ a. a.0) y))) →
        HoldsLayer predicates Assertion (HoldsBy predicates)
        (map-Assertion Piece Assertion (λ a. a.0) y) (among l) f →
        HoldsLayer predicates Assertion (HoldsBy predicates)
        (map-Assertion Piece Assertion (λ a. a.0) y) (among m) f
    layer_says (Pure e) l m f agree (value, is) = (sym (value_same l m e agree) ∙ value, is)
    layer_says (InRegister r e) l m f agree (at, v, place, value, typed, is) =
        (at, v, place, sym (value_same l m e agree) ∙ value, typed, is)
    layer_says (Cell index e) l m f agree (i, n, place, value, fits, is) =
        let split = both l m (names_of_expr index) (names_of_expr e) agree in (
          i,
          n,
          sym (value_same l m index split.0) ∙ place,
          sym (value_same l m e split.1) ∙ value,
          fits,
          is,
        )
    layer_says (Star parts) l m f agree h = all_say parts l m f agree h
    layer_says (If test a b) l m f agree (p, is, h) =
        let split = both l m (names_of_expr test)
        (names_of_assertion a.0 ++ names_of_assertion b.0) agree in
        let sides = both l m (names_of_assertion a.0) (names_of_assertion b.0) split.1 in (
          p,
          sym (value_same l m test split.0) ∙ is,
          branch p _ _ _ _ (a.1 l m f sides.0) (b.1 l m f sides.1) h,
        )
    layer_says (Exists x type body) l m f agree (v, typed, h) = (
      v,
      typed,
      body.1 ((x, v) ∷ l) ((x, v) ∷ m) f
          (under x v l m (names_of_assertion body.0) agree) h,
    )
    layer_says (Predicate x args) l m f agree (values, are, h) =
        (values, sym (values_same l m args agree) ∙ are, h)
    layer_says (Region x args) l m f agree (values, are, h) =
        (values, sym (values_same l m args agree) ∙ are, h)

    -- a whole assertion
    pub says_same : (a : Assertion) → SaysSame a
    says_same = ind-Assertion SaysSame (λ x y is l m f agree h.
        closed predicates x (among m) f
        (subst (λ z. AgreeOn l m (assertion_names (map-Assertion Assertion (List Name)
        names_of_assertion z)) →
        HoldsLayer predicates Assertion (HoldsBy predicates) z (among l) f →
        HoldsLayer predicates Assertion (HoldsBy predicates) z (among m) f) is
        (layer_says y l m f)
        (subst (AgreeOn l m) (fold-roll-Assertion (List Name) assertion_names x) agree)
        (opened predicates x (among l) f h)))

-- locals that agree on the names that an assertion reads make no difference to it
pub only_names_read_count : OnlyNamesReadCount
only_names_read_count assertion env locals f agree h =
    says_same env.decls env.reads (predicates_of env.decls) assertion env.locals locals f agree h
