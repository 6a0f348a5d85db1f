-- What holds an assertion is a fragment of the machine.
use Rattle.std.proofs.Common.{◌≡◌, ◌==◌, ℕ, if◌then◌else◌, slice_get, Bool, true, false, List, [], ◌∷◌, reverse, map, Option, Some, None, sym, subst, ◌∙◌, eqb-true}
use Rattle.std.specs.Str.{bytes_eq}
use Rattle.std.proofs.lemmas.Option.{cond_some, none-some}
use Rattle.kat_value.specs.declared.value.Value.{Value}
use Rattle.kat_ast.specs.declared.assertion.Assertion.{Assertion}
use Rattle.kat_ast.specs.declared.assertion.Assertion.TheOpen.{Assertion-F, Pure, Register, Cell, Star, If, Exists, Predicate, Region}
use Rattle.kat_ast.specs.declared.assertion.Assertion.TheFolds.{map-Assertion, ind-Assertion}
use Rattle.kat_ast.specs.declared.decl.DeclForm.{DeclForm}
use Rattle.kat_ast.specs.declared.decl.DeclForm.TheVariants as d
use Rattle.kat_syntax.specs.Evaluation.{Environment, Locals, Reads}
use Rattle.kat_syntax.specs.Fragments.{Fragment, IsFragment, IsOfMemory, IsOfType, Join, JoinAt, nothing, one_cell, one_register}
use Rattle.kat_syntax.specs.Holds.{Predicates, HoldsAll, HoldsBy, HoldsLayer, IfTrue, predicates_among, predicates_of}
use Rattle.kat_syntax.specs.States.{memory_of, register_types}
use Rattle.kat_syntax.specs.Tables.{Name}
use Rattle.kat_claims.specs.Assertions.{HoldersAreFragments}
use Rattle.kat_claims.proofs.Layers.{opened}

-- what is not there is of any kind
none_some : {A T : Type 0} {a : A} → None ≡ Some a → T
none_some {A} {T} {a} e = absurd (none-some a e)

-- nothing is a fragment
nothing_fragment : (decls : List DeclForm) → IsFragment decls nothing
nothing_fragment decls = record {
  registers = λ at v e. none_some e;
  cells = λ i n e. none_some e;
}

-- what is at one place alone is what is there
at_one :
    {A : Type 0} (P : ℕ → A → Type 0) (r : ℕ) (v : A) → P r v →
    (at : ℕ) (w : A) → (if at == r then Some v else None) ≡ Some w → P at w
at_one P r v has at w e =
    let parts = cond_some (at == r) v w e in
    subst (λ k. P k w) (sym (eqb-true at r parts.0)) (subst (P r) parts.1 has)

-- one register with a value of its type is a fragment
one_register_fragment :
    (decls : List DeclForm) (r : ℕ) (v : Value) →
    IsOfType decls (slice_get (register_types decls) r) v → IsFragment decls (one_register r v)
one_register_fragment decls r v typed = record {
  registers = at_one (λ at. IsOfType decls (slice_get (register_types decls) at)) r v typed;
  cells = λ i n e. none_some e;
}

-- one cell of the memory with a number that fits is a fragment
one_cell_fragment :
    (decls : List DeclForm) (i n : ℕ) → IsOfMemory (memory_of decls) i n →
    IsFragment decls (one_cell i n)
one_cell_fragment decls i n fits = record {
  registers = λ at v e. none_some e;
  cells = at_one (IsOfMemory (memory_of decls)) i n fits;
}

-- what a union has at a place one of its parts has
of_either :
    {A T : Type 0} (p f g : Option A) (v : A) → JoinAt p f g →
    (f ≡ Some v → T) → (g ≡ Some v → T) → p ≡ Some v → T
of_either p None g v join first second e = second (sym join ∙ e)
of_either p (Some w) None v join first second e = first (sym join ∙ e)
of_either p (Some w) (Some u) v join first second e = absurd join

-- a union of fragments is one
joined_fragment :
    (decls : List DeclForm) (p f g : Fragment) → Join p f g →
    IsFragment decls f → IsFragment decls g → IsFragment decls p
joined_fragment decls p f g join first second = record {
  registers = λ at v. of_either _ _ _ v (join.registers at) (first.registers at v)
      (second.registers at v);
  cells = λ i n. of_either _ _ _ n (join.cells i) (first.cells i n) (second.cells i n);
}

module _ (decls : List DeclForm) (predicates : Predicates)
    (premise : (x : Name) (values : List Value) (f : Fragment) →
    predicates x values f → IsFragment decls f) where
  -- among these names
  abbrev among : Reads → Locals → Environment
  among reads locals = record { decls = decls; reads = reads; locals = locals }

  -- what holds an assertion is a fragment
  abbrev Holder : Assertion → Type 0
  Holder a =
      (reads : Reads) (locals : Locals) (f : Fragment) →
      HoldsBy predicates a (among reads locals) f → IsFragment decls f

  -- an assertion with this
  abbrev Part : Type 0
  Part = (a : Assertion) × Holder a

  -- the parts of a `star`
  all_holders :
      (parts : List Part) (reads : Reads) (locals : Locals) (f : Fragment) →
      HoldsAll predicates Assertion (HoldsBy predicates) (map (λ (a : Part). a.0) parts)
      (among reads locals) f →
      IsFragment decls f
  all_holders [] reads locals f h = subst (IsFragment decls) (sym h) (nothing_fragment decls)
  all_holders (part ∷ parts) reads locals f (g, rest, join, first, others) =
      joined_fragment decls f g rest join (part.1 reads locals g first)
      (all_holders parts reads locals rest others)

  -- one of two
  of_branch :
      (b : Bool) (A B T : Type 0) → (A → T) → (B → T) → IfTrue b A B → T
  of_branch true A B T first second h = first h
  of_branch false A B T first second h = second h

  -- one layer
  layer_holds :
      (y : Assertion-F Part) (reads : Reads) (locals : Locals) (f : Fragment) →
      HoldsLayer predicates Assertion (HoldsBy predicates)
      (map-Assertion Part Assertion (λ a. a.0) y) (among reads locals) f →
      IsFragment decls f
  layer_holds (Pure e) reads locals f (true_, is) =
      subst (IsFragment decls) (sym is) (nothing_fragment decls)
  layer_holds (Register r e) reads locals f (at, v, place, value, typed, is) =
      subst (IsFragment decls) (sym is) (one_register_fragment decls at v typed)
  layer_holds (Cell index e) reads locals f (i, n, place, value, fits, is) =
      subst (IsFragment decls) (sym is) (one_cell_fragment decls i n fits)
  layer_holds (Star parts) reads locals f h = all_holders parts reads locals f h
  layer_holds (If test a b) reads locals f (p, is, h) =
      of_branch p _ _ _ (a.1 reads locals f) (b.1 reads locals f) h
  layer_holds (Exists x type body) reads locals f (v, typed, h) =
      body.1 reads ((x, v) ∷ locals) f h
  layer_holds (Predicate x args) reads locals f (values, are, h) = premise x values f h
  layer_holds (Region x args) reads locals f (values, are, (region, found, names, bind, h)) = h.fits

  -- what holds an assertion is a fragment, the predicates being of such
  pub holder : (a : Assertion) → Holder a
  holder = ind-Assertion Holder (λ x y is reads locals f h.
      layer_holds y reads locals f
      (subst (λ z. HoldsLayer predicates Assertion (HoldsBy predicates) z (among reads locals) f)
      (sym is) (opened predicates x (among reads locals) f h)))

-- what the predicates say is said of fragments
predicate_holder :
    (all before : List DeclForm) (x : Name) (values : List Value) (f : Fragment) →
    predicates_among all before x values f → IsFragment all f
predicate_holder all [] x values f h = absurd h
predicate_holder all (d.Predicate y inputs outputs definition ∷ before) x values f h =
    of_branch all (predicates_among all before) (predicate_holder all before) (bytes_eq y x) _ _ _
    (λ defined. holder all (predicates_among all before) (predicate_holder all before) definition
    _ defined.0 f defined.2)
    (predicate_holder all before x values f) h
predicate_holder all (_ ∷ before) x values f h = predicate_holder all before x values f h

-- what holds an assertion of a specification is a fragment of its machine
pub holders_are_fragments : HoldersAreFragments
holders_are_fragments assertion env f h =
    holder env.decls (predicates_of env.decls) (predicate_holder env.decls (reverse env.decls))
    assertion env.reads env.locals f h
