-- What writes from outside leave as it was, in a typed specification.
use Rattle.std.specs.Prelude.{◌≡◌, ◌↔◌, ◌⊎◌, ◌≤◌, ◌<◌, ◌+◌, ℕ, List, [], ◌∷◌, length}
use Rattle.kat_ast.specs.Spec.{Spec}
use Rattle.kat_ast.specs.declared.decl.DeclForm.{DeclForm}
use Rattle.kat_ast.specs.declared.decl.DeclForm.TheVariants as d
use Rattle.kat_syntax.specs.FirstTypeFault.{IsTyped}
use Rattle.kat_syntax.specs.Machine.{MachineState}
use Rattle.kat_syntax.specs.OutsideWrites.{Wrote, poked}
use Rattle.kat_syntax.specs.Phases.{IsCodeThere, phase_of}
use Rattle.kat_syntax.specs.States.{cell_at, kept_of}
use Rattle.kat_syntax.specs.declared.places.Poke.{Poke}

-- an index is that of a code cell
abbrev pub IsCodeCell : List DeclForm → ℕ → Type 0
IsCodeCell [] i = ⊥
IsCodeCell (d.Code lo values ∷ decls) i =
    ((lo ≤ i) × (i < lo + length values)) ⊎ IsCodeCell decls i
IsCodeCell (_ ∷ decls) i = IsCodeCell decls i

-- of a typed specification, a write from outside that is done, from any state, leaves the phase,
-- the kept values, each code cell, and so whether every code cell has its stated value
pub record OutsideWritesKeep : Type 0 where
  pub phase :
      (spec : Spec) (poke : Poke) (before after : MachineState) → IsTyped spec →
      poked spec poke before ≡ Wrote after →
      phase_of spec.decls after ≡ phase_of spec.decls before
  pub kept :
      (spec : Spec) (poke : Poke) (before after : MachineState) → IsTyped spec →
      poked spec poke before ≡ Wrote after →
      kept_of spec.decls after ≡ kept_of spec.decls before
  pub code_cells :
      (spec : Spec) (poke : Poke) (before after : MachineState) (i : ℕ) → IsTyped spec →
      poked spec poke before ≡ Wrote after → IsCodeCell spec.decls i →
      cell_at after i ≡ cell_at before i
  pub code :
      (spec : Spec) (poke : Poke) (before after : MachineState) → IsTyped spec →
      poked spec poke before ≡ Wrote after →
      IsCodeThere spec.decls after ↔ IsCodeThere spec.decls before
