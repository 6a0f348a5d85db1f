-- The registers with their types.
use Rattle.std.proofs.Common.{◌≡◌, ℕ, ◌+◌, true, List, [], ◌∷◌, map, refl, sym, ap, subst}
use Rattle.std.specs.List.{AllZip}
use Rattle.std.proofs.lemmas.Bool.{and_parts, false≢true}
use Rattle.kat_value.specs.declared.types.Ty.{Ty}
use Rattle.kat_value.specs.declared.types.TypeDecl.{TypeDecl}
use Rattle.kat_value.specs.declared.value.Value.{Value}
use Rattle.kat_value.specs.Typing.{HasType, has_type}
use Rattle.kat_ast.specs.declared.decl.DeclForm.{DeclForm}
use Rattle.kat_ast.specs.declared.decl.DeclForm.TheVariants.{Register}
use Rattle.kat_syntax.specs.Machine.{MachineState}
use Rattle.kat_syntax.specs.States.{IsState, are_of_types, register_types_from}
use Rattle.kat_syntax.specs.Tables.{Name, register_names}
use Rattle.kat_syntax.specs.TypeTable.{named_type, types_of_decls}

-- a register's name and type
abbrev pub TypedRegister : Type 0
TypedRegister = Name × Ty

-- the names of registers
abbrev pub names_of : List TypedRegister → List Name
names_of registers = map (λ (register : TypedRegister). register.0) registers

-- the types of registers
abbrev pub types_of : List TypedRegister → List Ty
types_of registers = map (λ (register : TypedRegister). register.1) registers

-- one value for each register, of its type
abbrev pub AreOf : List TypeDecl → List TypedRegister → List Value → Type 0
AreOf types registers values =
    AllZip (λ (register : TypedRegister) value. HasType types register.1 value) registers values

-- the registers of declarations, the first having the number k
abbrev pub typed_from : List DeclForm → ℕ → List DeclForm → List TypedRegister
typed_from all k [] = []
typed_from all k (Register x type kind ∷ decls) = (x, named_type all k type) ∷ typed_from all
    (k + 1) decls
typed_from all k (_ ∷ decls) = typed_from all (k + 1) decls

-- all registers
abbrev pub typed_registers : List DeclForm → List TypedRegister
typed_registers decls = typed_from decls 0 decls

pub names_are : (all : List DeclForm) (k : ℕ) (decls : List DeclForm) →
    names_of (typed_from all k decls) ≡ register_names decls
names_are all k [] = refl
names_are all k (Register x type kind ∷ decls) = ap (λ names. x ∷ names)
    (names_are all (k + 1) decls)
names_are all k (_ ∷ decls) = names_are all (k + 1) decls

pub types_are : (all : List DeclForm) (k : ℕ) (decls : List DeclForm) →
    types_of (typed_from all k decls) ≡ register_types_from all k decls
types_are all k [] = refl
types_are all k (Register x type kind ∷ decls) = ap (λ types. named_type all k type ∷ types)
    (types_are all (k + 1) decls)
types_are all k (_ ∷ decls) = types_are all (k + 1) decls

are_of : (types : List TypeDecl) (registers : List TypedRegister) (values : List Value) →
    are_of_types types (types_of registers) values ≡ true → AreOf types registers values
are_of types [] [] are = tt
are_of types [] (value ∷ values) are = absurd (false≢true are)
are_of types (register ∷ registers) [] are = absurd (false≢true are)
are_of types (register ∷ registers) (value ∷ values) are =
    let parts = and_parts (has_type types value register.1) (are_of_types types (types_of registers)
    values) are in
    (parts.0, are_of types registers values parts.1)

-- the registers of a state have values of their types
pub registers_of_state : (decls : List DeclForm) (state : MachineState) → IsState decls state →
    AreOf (types_of_decls decls) (typed_registers decls) state.registers
registers_of_state decls state is =
    are_of (types_of_decls decls) (typed_registers decls) state.registers
    (subst (λ (tys : List Ty). are_of_types (types_of_decls decls) tys state.registers ≡ true)
    (sym (types_are decls 0 decls)) is.registers)
