-- One more borrowed name; and the faults of declarations, of which some are left.
use Rattle.std.proofs.Common.{◌≡◌, ℕ, ◌+◌, ◌<◌, ◌≤◌, List, [], ◌∷◌, ◌++◌, length, drop, get_or, None, Some, refl, ap, ◌∙◌}
use Rattle.std.specs.Option.{option_map, option_or}
use Rattle.std.specs.Borrow.{Bor}
use Rattle.std.proofs.lemmas.List.{drop_all}
use Rattle.kat_ast.specs.declared.decl.DeclForm.{DeclForm}
use Rattle.kat_syntax.specs.Tables.{Name}
use Rattle.kat_syntax.specs.Modes.{decl_reading, mode_fault_from, stop_of}
use Rattle.kat_mode.specs.Names.{texts}
use Rattle.kat_mode.proofs.Binding.{rest_is}

pub texts_more : (bound : List (Bor Name)) (name : Bor Name) →
    texts (bound ++ name ∷ []) ≡ texts bound ++ name.now ∷ []
texts_more [] name = refl
texts_more (x ∷ bound) name = ap (λ ns. x.now ∷ ns) (texts_more bound name)

-- the faults of the declarations that are left are those of all
pub fault_step : (inputs : Name → ℕ) (decls : List DeclForm) (i : ℕ) (decl : DeclForm) →
    i < length decls → decl ≡ get_or decls i decl → stop_of (decl_reading inputs decl) ≡ None →
    mode_fault_from inputs 0 decls ≡ mode_fault_from inputs i (drop i decls) →
    mode_fault_from inputs 0 decls ≡ mode_fault_from inputs (i + 1) (drop (i + 1) decls)
fault_step inputs decls i decl within is none so_far =
    so_far ∙ ap (mode_fault_from inputs i) (rest_is decls i decl within is)
    ∙ ap (λ stop. option_or (option_map (λ (x : Name). record { decl = i; name = x }) stop)
    (mode_fault_from inputs (i + 1) (drop (i + 1) decls))) none

pub fault_found : (inputs : Name → ℕ) (decls : List DeclForm) (i : ℕ) (decl : DeclForm) (x : Name) →
    i < length decls → decl ≡ get_or decls i decl → stop_of (decl_reading inputs decl) ≡ Some x →
    mode_fault_from inputs 0 decls ≡ mode_fault_from inputs i (drop i decls) →
    mode_fault_from inputs 0 decls ≡ Some (record { decl = i; name = x })
fault_found inputs decls i decl x within is some so_far =
    so_far ∙ ap (mode_fault_from inputs i) (rest_is decls i decl within is)
    ∙ ap (λ stop. option_or (option_map (λ (y : Name). record { decl = i; name = y }) stop)
    (mode_fault_from inputs (i + 1) (drop (i + 1) decls))) some

pub fault_none : (inputs : Name → ℕ) (decls : List DeclForm) (i : ℕ) → length decls ≤ i →
    mode_fault_from inputs 0 decls ≡ mode_fault_from inputs i (drop i decls) →
    mode_fault_from inputs 0 decls ≡ None
fault_none inputs decls i behind so_far = so_far ∙ ap (mode_fault_from inputs i)
    (drop_all i decls behind)
