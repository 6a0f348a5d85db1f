-- Writes from outside, to the registers and cells that are declared so.
use Rattle.std.specs.Prelude.{ℕ, Bool, false, ◌+◌, ◌-◌, ◌==◌, nat_lt, if◌then◌else◌, List, [], ◌∷◌, Option, None, Some, option_and_then, slice_get, unwrap_or}
use Rattle.std.specs.Option.{option_map}
use Rattle.kat_value.specs.declared.value.Value.TheVariants.{Bits as Number}
use Rattle.kat_value.specs.Widths.{is_number}
use Rattle.kat_ast.specs.Spec.{Spec}
use Rattle.kat_ast.specs.declared.type_name.TypeName.{TypeName}
use Rattle.kat_ast.specs.declared.type_name.TypeName.TheVariants.{Bits}
use Rattle.kat_ast.specs.declared.decl.RegisterKind.{RegisterKind}
use Rattle.kat_ast.specs.declared.decl.RegisterKind.TheVariants as register
use Rattle.kat_ast.specs.declared.decl.CellsKind.TheVariants as cells
use Rattle.kat_ast.specs.declared.decl.DeclForm.{DeclForm}
use Rattle.kat_ast.specs.declared.decl.DeclForm.TheVariants as d
use Rattle.kat_syntax.specs.declared.places.OutsidePlace.{OutsidePlace}
use Rattle.kat_syntax.specs.declared.places.OutsidePlace.TheVariants.{Register as OutsideRegister, Cells as OutsideCells}
use Rattle.kat_syntax.specs.declared.places.Poke.{Poke}
use Rattle.kat_syntax.specs.Machine.{MachineState}
use Rattle.kat_syntax.specs.States.{with_register, with_cell, cell_width}

-- the width of bits, and no width of another type
abbrev pub width_of : TypeName → ℕ
width_of (Bits width) = width
width_of _ = 0

-- a register at a position before more outside places, itself one where it is outside
abbrev pub with_outside : ℕ → RegisterKind → TypeName → List OutsidePlace → List OutsidePlace
with_outside at register.Outside type places = OutsideRegister at (width_of type) ∷ places
with_outside at _ type places = places

-- the outside places in order of declaration, the first register having the position k
abbrev pub outside_from : ℕ → List DeclForm → List OutsidePlace
outside_from k [] = []
outside_from k (d.Register x type kind ∷ decls) =
    with_outside k kind type (outside_from (k + 1) decls)
outside_from k (d.Cells cells.Outside lo hi ∷ decls) = OutsideCells lo hi ∷ outside_from k decls
outside_from k (_ ∷ decls) = outside_from k decls

-- the outside places, which have their ordinals in this order
abbrev pub outside_places : List DeclForm → List OutsidePlace
outside_places decls = outside_from 0 decls

-- one register or cell that is written from outside, with the width of what it takes
pub data Target : Type 0 where
  OneRegister : (at width : ℕ) → Target
  OneCell : (index width : ℕ) → Target

-- the width of what a target takes
abbrev pub target_width : Target → ℕ
target_width (OneRegister at width) = width
target_width (OneCell index width) = width

-- what stands at an offset in an outside place; a register has the offset 0 alone
abbrev pub target_in : List DeclForm → ℕ → OutsidePlace → Option Target
target_in decls offset (OutsideRegister at width) =
    if offset == 0 then Some (OneRegister at width) else None
target_in decls offset (OutsideCells lo hi) =
    if nat_lt offset (hi - lo) then Some (OneCell (lo + offset) (cell_width decls)) else None

-- what an outside write is to
abbrev pub target_of : List DeclForm → Poke → Option Target
target_of decls poke =
    option_and_then (target_in decls poke.offset) (slice_get (outside_places decls) poke.ordinal)

-- whether a number is one that a target takes
abbrev pub takes_bits : ℕ → Target → Bool
takes_bits bits target = is_number (target_width target) bits

-- whether a write is of a number that fits to a declared outside register or cell
abbrev pub is_declared_write : Spec → Poke → Bool
is_declared_write spec poke =
    unwrap_or (option_map (takes_bits poke.bits) (target_of spec.decls poke)) false

-- the state with a number in a target
abbrev pub with_target : Target → ℕ → MachineState → MachineState
with_target (OneRegister at width) bits state = with_register at (Number width bits) state
with_target (OneCell index width) bits state = with_cell index bits state

-- what an outside write comes to: the state behind it, or that there is no such place, or that the
-- number does not fit
pub data Poked : Type 0 where
  Wrote : (state : MachineState) → Poked
  NoPlace : Poked
  NoFit : Poked

-- the write of a number to a target, where there is one
abbrev pub poked_at : Option Target → ℕ → MachineState → Poked
poked_at None bits state = NoPlace
poked_at (Some target) bits state =
    if takes_bits bits target then Wrote (with_target target bits state) else NoFit

-- an outside write
abbrev pub poked : Spec → Poke → MachineState → Poked
poked spec poke state = poked_at (target_of spec.decls poke) poke.bits state
