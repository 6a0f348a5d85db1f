-- What bytes are read as is one thing, the fault with which they are refused is one, and they are
-- not both.
use Rattle.std.proofs.Common.{◌≡◌, ◌⊎◌, ℕ, true, inl, inr, List, Option, Some, Ok, Err, refl, ap, sym, subst, ◌∙◌}
use Rattle.kat_tree.specs.declared.error.TreeError.{TreeError}
use Rattle.kat_tree.specs.declared.error.TreeError.TheVariants as error
use Rattle.kat_tree.specs.declared.tree.Tree.{Tree as TextTree}
use Rattle.kat_tree.specs.Spelling.{Spells}
use Rattle.kat_tree.specs.Faults.{IsFirstFault}
use Rattle.kat_ast.specs.Spec.{Spec}
use Rattle.kat_ast.specs.Specifications.{Reads}
use Rattle.std.specs.Prelude.{MatchOption}
use Rattle.kat_syntax.specs.FirstTypeFault.{TypeFault, IsTyped, first_type_fault}
use Rattle.kat_syntax.specs.Modes.{ModeFault}
use Rattle.kat_shapes.specs.declared.misfit.Misfit.{Misfit}
use Rattle.kat_forms.specs.Reading.{IsFirstMisfit}
use Rattle.kat_image.specs.Image.{IsImageOf, IsFirstRefused}
use Rattle.kat_top.specs.declared.fault.Fault.{Fault}
use Rattle.kat_top.specs.declared.fault.Fault.TheVariants as fault
use Rattle.kat_top.specs.declared.fault.TreeKind.{TreeKind}
use Rattle.kat_top.specs.declared.fault.TreeKind.TheVariants.{NotText, Unclosed, Stray, BadToken, Deep}
use Rattle.kat_top.specs.declared.status.Status.{Status}
use Rattle.kat_top.specs.declared.status.Status.TheVariants as status
use Rattle.kat_top.specs.FileLaws.{FileLaws}
use Rattle.kat_top.specs.Statuses.{status_of_fault}
use Rattle.kat_top.specs.Inputs.{Kind, ASpec, AModed, AnImage, Thing, TheSpec, TheModed, TheState, machine_of, tree_error, IsTypedAndModed, IsNoTree, IsNoSpec, IsNotTyped, IsNotModed, IsIllTyped, IsIllTypedAs, IsReadAs, IsRefusedAs}

-- the fault of an error of a tree
abbrev pub fault_of_error : TreeError → Fault
fault_of_error (error.NotText at) = fault.Tree NotText at
fault_of_error (error.Unclosed at) = fault.Tree Unclosed at
fault_of_error (error.Stray at) = fault.Tree Stray at
fault_of_error (error.BadToken at) = fault.Tree BadToken at
fault_of_error (error.Deep at) = fault.Tree Deep at
fault_of_error error.Memory = fault.Usage

tells_fault : (kind : TreeKind) (offset : ℕ) → fault_of_error (tree_error kind offset) ≡ fault.Tree kind offset
tells_fault NotText offset = refl
tells_fault Unclosed offset = refl
tells_fault Stray offset = refl
tells_fault BadToken offset = refl
tells_fault Deep offset = refl

same_machine : (m : Option Spec) (a b : Spec) → m ≡ Some a → m ≡ Some b → a ≡ b
same_machine m a b x y = cc

-- the statuses of a text that is refused
abbrev pub IsOfText : Status → Type 0
IsOfText status.Form = Unit {0}
IsOfText status.IllTyped = Unit {0}
IsOfText _ = ⊥

form_status : (said : Fault) → status_of_fault said ≡ status.Form → IsOfText (status_of_fault said)
form_status said is = subst IsOfText (sym is) tt

no_tree_status : (bytes : List ℕ) (said : Fault) → IsNoTree bytes said → status_of_fault said ≡ status.Form
no_tree_status bytes said x = ap status_of_fault x.said_is

no_spec_status : (bytes : List ℕ) (said : Fault) → IsNoSpec bytes said → status_of_fault said ≡ status.Form
no_spec_status bytes said x = ap status_of_fault x.said_is

ill_typed_status : (spec : Spec) (said : Fault) → IsNotTyped spec said ⊎ IsNotModed spec said → status_of_fault said ≡ status.IllTyped
ill_typed_status spec said (inl x) = ap status_of_fault x.said_is
ill_typed_status spec said (inr x) = ap status_of_fault x.said_is

-- a refusal by the text has one of them
pub refused_status : (earlier : List Thing) (kind : Kind) (bytes : List ℕ) (said : Fault) → IsRefusedAs earlier kind bytes said → IsOfText (status_of_fault said)
refused_status earlier ASpec bytes said (inl x) = form_status said (no_tree_status bytes said x)
refused_status earlier ASpec bytes said (inr x) = form_status said (no_spec_status bytes said x)
refused_status earlier AModed bytes said (inl x) = subst IsOfText (sym (ill_typed_status x.spec said x.first)) tt
refused_status earlier AModed bytes said (inr (inl x)) = form_status said (no_tree_status bytes said x)
refused_status earlier AModed bytes said (inr (inr x)) = form_status said (no_spec_status bytes said x)
refused_status earlier AnImage bytes said x = form_status said (ap status_of_fault x.said_is)

module _ (laws : FileLaws) where
  same_tree : (bytes : List ℕ) (a b : TextTree) → Spells bytes a → Spells bytes b → a ≡ b
  same_tree bytes a b x y = let e = laws.one_outcome bytes (Ok a) (Ok b) x y in cc

  tree_or_not : (bytes : List ℕ) (tree : TextTree) (kind : TreeKind) (offset : ℕ) → Spells bytes tree → IsFirstFault bytes (tree_error kind offset) → ⊥
  tree_or_not bytes tree kind offset x y = let e = laws.one_outcome bytes (Ok tree) (Err (tree_error kind offset)) x y in absurd (cc)

  no_tree_once : (bytes : List ℕ) (a b : Fault) → IsNoTree bytes a → IsNoTree bytes b → a ≡ b
  no_tree_once bytes a b x y =
      let e = laws.one_outcome bytes (Err (tree_error x.kind x.offset)) (Err (tree_error y.kind y.offset)) x.first y.first in
      let f : tree_error x.kind x.offset ≡ tree_error y.kind y.offset = cc in
      x.said_is ∙ sym (tells_fault x.kind x.offset) ∙ ap fault_of_error f ∙ tells_fault y.kind y.offset ∙ sym y.said_is

  no_spec_once : (bytes : List ℕ) (a b : Fault) → IsNoSpec bytes a → IsNoSpec bytes b → a ≡ b
  no_spec_once bytes a b x y =
      let m : Misfit = record { place = x.place; wanted = x.wanted } in
      let n : Misfit = record { place = y.place; wanted = y.wanted } in
      let same = same_tree bytes y.tree x.tree y.spelled x.spelled in
      let e = laws.one_misfit x.tree m n x.first (subst (λ t. IsFirstMisfit t n) same y.first) in
      x.said_is ∙ ap (λ (o : Misfit). fault.Form o.place o.wanted) e ∙ sym y.said_is

  no_tree_no_spec : (bytes : List ℕ) (a b : Fault) → IsNoTree bytes a → IsNoSpec bytes b → ⊥
  no_tree_no_spec bytes a b x y = tree_or_not bytes y.tree x.kind x.offset y.spelled x.first

  read_or_no_tree : (bytes : List ℕ) (spec : Spec) (said : Fault) → Reads bytes spec → IsNoTree bytes said → ⊥
  read_or_no_tree bytes spec said x y = tree_or_not bytes x.tree y.kind y.offset x.spelled y.first

  read_or_no_spec : (bytes : List ℕ) (spec : Spec) (said : Fault) → Reads bytes spec → IsNoSpec bytes said → ⊥
  read_or_no_spec bytes spec said x y =
      let m : Misfit = record { place = y.place; wanted = y.wanted } in
      let same = same_tree bytes y.tree x.tree y.spelled x.spelled in
      laws.no_misfit x.tree spec m x.described (subst (λ t. IsFirstMisfit t m) same y.first)

  -- what has a first fault of typing is not typed
  untyped : (spec : Spec) (found : TypeFault) → first_type_fault spec ≡ Some found → IsTyped spec → ⊥
  untyped spec found first =
      subst (λ o. MatchOption o (IsTyped spec) (λ found. IsTyped spec → ⊥)) first (laws.typed_or_not spec)

  -- what has a first fault of typing or of modes is not typed and moded
  failing : (spec : Spec) (said : Fault) → IsNotTyped spec said ⊎ IsNotModed spec said → IsTypedAndModed spec → ⊥
  failing spec said (inl x) passes = untyped spec x.found x.first passes.typed
  failing spec said (inr x) passes = let none = passes.moded in let some = x.first in absurd (cc)

  -- a specification has one such fault
  one_first : (spec : Spec) (a b : Fault) → IsNotTyped spec a ⊎ IsNotModed spec a → IsNotTyped spec b ⊎ IsNotModed spec b → a ≡ b
  one_first spec a b (inl x) (inl y) =
      let found : x.found ≡ y.found = let e = x.first in let f = y.first in cc in
      x.said_is ∙ ap (λ (f : TypeFault). fault.IllTyped f.decl f.tree f.rule) found ∙ sym y.said_is
  one_first spec a b (inl x) (inr y) = absurd (untyped spec x.found x.first y.typed)
  one_first spec a b (inr x) (inl y) = absurd (untyped spec y.found y.first x.typed)
  one_first spec a b (inr x) (inr y) =
      let found : x.found ≡ y.found = let e = x.first in let f = y.first in cc in
      x.said_is ∙ ap (λ (f : ModeFault). fault.IllModed f.decl f.name) found ∙ sym y.said_is

  ill_typed_once : (bytes : List ℕ) (a b : Fault) → IsIllTyped bytes a → IsIllTyped bytes b → a ≡ b
  ill_typed_once bytes a b x y =
      let same = laws.one_spec bytes y.spec x.spec y.reads x.reads in
      one_first x.spec a b x.first (subst (λ s. IsNotTyped s b ⊎ IsNotModed s b) same y.first)

  ill_typed_read : (bytes : List ℕ) (spec : Spec) (said : Fault) → Reads bytes spec → IsTypedAndModed spec → IsIllTyped bytes said → ⊥
  ill_typed_read bytes spec said reads passes x =
      failing x.spec said x.first (subst IsTypedAndModed (laws.one_spec bytes spec x.spec reads x.reads) passes)

  -- bytes of a typed and moded specification are not those of one that is not
  passing_read : (bytes : List ℕ) (spec : Spec) → Reads bytes spec → IsTypedAndModed spec → (other : Spec) × Reads bytes other × (IsTypedAndModed other → ⊥) → ⊥
  passing_read bytes spec reads passes (other, q, none) = none (subst IsTypedAndModed (laws.one_spec bytes spec other reads q) passes)

  -- a refusal is one of typing or modes, or it is another and the text is not one that has to be
  -- typed and moded and is not
  abbrev pub IsRefusal : Kind → List ℕ → Fault → Type 0
  IsRefusal kind bytes said =
      ((status_of_fault said ≡ status.IllTyped) × IsIllTypedAs kind bytes)
      ⊎ ((status_of_fault said ≡ status.Form) × (IsIllTypedAs kind bytes → ⊥))

  pub refused_by : (earlier : List Thing) (kind : Kind) (bytes : List ℕ) (said : Fault) → IsRefusedAs earlier kind bytes said → IsRefusal kind bytes said
  refused_by earlier ASpec bytes said (inl x) = inr (no_tree_status bytes said x, λ u. u)
  refused_by earlier ASpec bytes said (inr x) = inr (no_spec_status bytes said x, λ u. u)
  refused_by earlier AModed bytes said (inl x) = inl (ill_typed_status x.spec said x.first, (x.spec, x.reads, failing x.spec said x.first))
  refused_by earlier AModed bytes said (inr (inl x)) = inr (no_tree_status bytes said x, λ u. read_or_no_tree bytes u.0 said u.1 x)
  refused_by earlier AModed bytes said (inr (inr x)) = inr (no_spec_status bytes said x, λ u. read_or_no_spec bytes u.0 said u.1 x)
  refused_by earlier AnImage bytes said x = inr (ap status_of_fault x.said_is, λ u. u)

  pub not_untyped : (earlier : List Thing) (kind : Kind) (bytes : List ℕ) (thing : Thing) → IsReadAs earlier kind bytes thing → IsIllTypedAs kind bytes → ⊥
  not_untyped earlier ASpec bytes thing x u = u
  not_untyped earlier AModed bytes thing (s, x, r) u = passing_read bytes s r.reads r.passes u
  not_untyped earlier AnImage bytes thing x u = u

  pub one_thing : (earlier : List Thing) (kind : Kind) (bytes : List ℕ) (a b : Thing) → IsReadAs earlier kind bytes a → IsReadAs earlier kind bytes b → a ≡ b
  one_thing earlier ASpec bytes a b (s, x, r) (t, y, q) = x ∙ ap TheSpec (laws.one_spec bytes s t r q) ∙ sym y
  one_thing earlier AModed bytes a b (s, x, r) (t, y, q) = x ∙ ap TheModed (laws.one_spec bytes s t r.reads q.reads) ∙ sym y
  one_thing earlier AnImage bytes a b (m, s, f, x, r) (n, t, g, y, q) =
      let e = same_machine (machine_of earlier) n m g f in
      x ∙ ap TheState (laws.one_state m bytes s t r (subst (λ k. IsImageOf k bytes t) e q)) ∙ sym y

  pub one_fault : (earlier : List Thing) (kind : Kind) (bytes : List ℕ) (a b : Fault) → IsRefusedAs earlier kind bytes a → IsRefusedAs earlier kind bytes b → a ≡ b
  one_fault earlier ASpec bytes a b (inl x) (inl y) = no_tree_once bytes a b x y
  one_fault earlier ASpec bytes a b (inl x) (inr y) = absurd (no_tree_no_spec bytes a b x y)
  one_fault earlier ASpec bytes a b (inr x) (inl y) = absurd (no_tree_no_spec bytes b a y x)
  one_fault earlier ASpec bytes a b (inr x) (inr y) = no_spec_once bytes a b x y
  one_fault earlier AModed bytes a b (inl x) (inl y) = ill_typed_once bytes a b x y
  one_fault earlier AModed bytes a b (inl x) (inr (inl y)) = absurd (read_or_no_tree bytes x.spec b x.reads y)
  one_fault earlier AModed bytes a b (inl x) (inr (inr y)) = absurd (read_or_no_spec bytes x.spec b x.reads y)
  one_fault earlier AModed bytes a b (inr (inl x)) (inl y) = absurd (read_or_no_tree bytes y.spec a y.reads x)
  one_fault earlier AModed bytes a b (inr (inr x)) (inl y) = absurd (read_or_no_spec bytes y.spec a y.reads x)
  one_fault earlier AModed bytes a b (inr (inl x)) (inr (inl y)) = no_tree_once bytes a b x y
  one_fault earlier AModed bytes a b (inr (inl x)) (inr (inr y)) = absurd (no_tree_no_spec bytes a b x y)
  one_fault earlier AModed bytes a b (inr (inr x)) (inr (inl y)) = absurd (no_tree_no_spec bytes b a y x)
  one_fault earlier AModed bytes a b (inr (inr x)) (inr (inr y)) = no_spec_once bytes a b x y
  one_fault earlier AnImage bytes a b x y =
      let e = same_machine (machine_of earlier) y.machine x.machine y.machine_is x.machine_is in
      let line = laws.one_line x.machine bytes x.line y.line x.first (subst (λ m. IsFirstRefused m bytes y.line) e y.first) in
      x.said_is ∙ ap fault.Image line ∙ sym y.said_is

  pub not_both : (earlier : List Thing) (kind : Kind) (bytes : List ℕ) (thing : Thing) (said : Fault) → IsReadAs earlier kind bytes thing → IsRefusedAs earlier kind bytes said → ⊥
  not_both earlier ASpec bytes thing said (s, x, r) (inl y) = read_or_no_tree bytes s said r y
  not_both earlier ASpec bytes thing said (s, x, r) (inr y) = read_or_no_spec bytes s said r y
  not_both earlier AModed bytes thing said (s, x, r) (inl y) = ill_typed_read bytes s said r.reads r.passes y
  not_both earlier AModed bytes thing said (s, x, r) (inr (inl y)) = read_or_no_tree bytes s said r.reads y
  not_both earlier AModed bytes thing said (s, x, r) (inr (inr y)) = read_or_no_spec bytes s said r.reads y
  not_both earlier AnImage bytes thing said (m, s, f, x, r) y =
      laws.no_image y.machine bytes y.line s y.first (subst (λ k. IsImageOf k bytes s) (same_machine (machine_of earlier) m y.machine f y.machine_is) r)
