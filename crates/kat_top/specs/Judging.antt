-- How far the inputs of a job are judged, by the bytes that files tell.
use Rattle.std.specs.Prelude.{◌≡◌, ◌<◌, ◌≤◌, ◌⊎◌, ℕ, List, [], ◌∷◌, ◌++◌, length, map, Option, Some, IsSome}
use Rattle.kat_top.specs.declared.fault.Fault.{Fault}
use Rattle.kat_top.specs.Inputs.{Name, Input, Thing, IsReadAs, IsRefusedAs, IsIllTypedAs}
use Rattle.kat_top.specs.Limits.{most_bytes}

-- what files tell of their bytes
abbrev pub Told : Type 0
Told = Name → Option (List ℕ)

-- the bytes of an input are told, at most as many as are read, and they are read as this
pub record IsTakenAs (told : Told) (earlier : List Thing) (input : Input) (thing : Thing) :
    Type 0 where
  pub bytes : List ℕ
  pub is_told : told input.name ≡ Some bytes
  pub few : length bytes ≤ most_bytes
  pub reads : IsReadAs earlier input.kind bytes thing

-- they are told, at most as many as are read, and refused with this fault
pub record IsRefused (told : Told) (earlier : List Thing) (input : Input) (fault : Fault) :
    Type 0 where
  pub bytes : List ℕ
  pub is_told : told input.name ≡ Some bytes
  pub few : length bytes ≤ most_bytes
  pub refuses : IsRefusedAs earlier input.kind bytes fault

-- they are told, at most as many as are read, and stand for a specification that is not typed and
-- moded where it has to be
pub record IsUntyped (told : Told) (earlier : List Thing) (input : Input) : Type 0 where
  pub bytes : List ℕ
  pub is_told : told input.name ≡ Some bytes
  pub few : length bytes ≤ most_bytes
  pub untyped : IsIllTypedAs input.kind bytes

-- they are told, at most as many as are read, and read as nothing, for another reason
pub record IsNothing (told : Told) (earlier : List Thing) (input : Input) : Type 0 where
  pub bytes : List ℕ
  pub is_told : told input.name ≡ Some bytes
  pub few : length bytes ≤ most_bytes
  pub nothing : (thing : Thing) → IsReadAs earlier input.kind bytes thing → ⊥
  pub not_untyped : IsIllTypedAs input.kind bytes → ⊥

-- they are told, and more than are read
pub record IsTooLong (told : Told) (input : Input) : Type 0 where
  pub bytes : List ℕ
  pub is_told : told input.name ≡ Some bytes
  pub many : most_bytes < length bytes

-- The one recursion over inputs. The judging comes to a point where P holds of what the inputs
-- before it were taken as and of those that are left: each input before it is taken as something,
-- and P holds there.
abbrev pub Reaches : Told → (List Thing → List Input → Type 0) → List Thing → List Input → Type 0
Reaches told P earlier [] = P earlier []
Reaches told P earlier (input ∷ rest) =
    P earlier (input ∷ rest)
    ⊎ ((thing : Thing) × IsTakenAs told earlier input thing
    × Reaches told P (earlier ++ thing ∷ []) rest)

-- a fact of the next input, and of what those before it were taken as
abbrev pub AtNext : (List Thing → Input → Type 0) → List Thing → List Input → Type 0
AtNext P taken [] = ⊥
AtNext P taken (input ∷ rest) = P taken input

-- a fact of what all were taken as
abbrev pub AtEnd : (List Thing → Type 0) → List Thing → List Input → Type 0
AtEnd P taken [] = P taken
AtEnd P taken (input ∷ rest) = ⊥

-- an input of this name is asked for, since all before it are taken
abbrev pub IsAsked : Told → List Thing → List Input → Name → Type 0
IsAsked told earlier inputs name =
    Reaches told (AtNext (λ taken input. input.name ≡ name)) earlier inputs

-- each input that is asked for tells its bytes
abbrev pub AreTold : Told → List Thing → List Input → Type 0
AreTold told earlier inputs = (name : Name) → IsAsked told earlier inputs name → IsSome (told name)

-- an input that is asked for is too long
abbrev pub HasLong : Told → List Input → Type 0
HasLong told inputs = Reaches told (AtNext (λ taken input. IsTooLong told input)) [] inputs

-- an input that is asked for is not typed and moded where it has to be
abbrev pub HasUntyped : Told → List Input → Type 0
HasUntyped told inputs = Reaches told (AtNext (λ taken input. IsUntyped told taken input)) [] inputs

-- an input that is asked for is read as nothing, for another reason
abbrev pub HasNothing : Told → List Input → Type 0
HasNothing told inputs = Reaches told (AtNext (λ taken input. IsNothing told taken input)) [] inputs

-- all are taken, and this holds of what they are taken as
abbrev pub AllTaken : Told → (List Thing → Type 0) → List Input → Type 0
AllTaken told P inputs = Reaches told (AtEnd P) [] inputs

-- the names of inputs, in order
abbrev pub names_of : List Input → List Name
names_of inputs = map (λ input. input.name) inputs

-- the judging goes no further: all are taken, or the next input is too long or refused
abbrev pub IsEnd : Told → List Thing → List Input → Type 0
IsEnd told taken [] = Unit {0}
IsEnd told taken (input ∷ rest) =
    IsTooLong told input ⊎ ((said : Fault) × IsRefused told taken input said)

-- the names of the inputs behind the next one
abbrev pub names_behind : List Input → List Name
names_behind [] = []
names_behind (input ∷ rest) = names_of rest

-- these are the names that are asked for, in order: those of all inputs but the ones behind the end
-- of the judging
abbrev pub AreAsked : Told → List Thing → List Input → List Name → Type 0
AreAsked told earlier inputs asked =
    Reaches told
    (λ taken rest. IsEnd told taken rest × (names_of inputs ≡ asked ++ names_behind rest))
    earlier inputs
