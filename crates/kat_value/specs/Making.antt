-- What is made of values: a constructor of a union on its payload, and a record of its fields.
use Rattle.std.specs.Prelude.{◌≡◌, ℕ, Bool, true, if◌then◌else◌, List, [], ◌∷◌, map, Option, Some, None, option_and_then}
use Rattle.std.specs.Option.{option_map}
use Rattle.kat_value.specs.declared.types.TypeDecl.{TypeDecl}
use Rattle.kat_value.specs.declared.value.Value.{Value}
use Rattle.kat_value.specs.declared.value.Value.TheVariants.{Made, Rec}
use Rattle.kat_value.specs.Typing.{has_type, ctor_at, fields_at, passes_ctor, pass_record}

-- all of them, where each is there
abbrev pub all_there : {A : Type 0} → List (Option A) → Option (List A)
all_there [] = Some []
all_there (a ∷ more) = option_and_then (λ x. option_map (λ xs. x ∷ xs) (all_there more)) a

-- what a constructor of a union gives on a payload of its type
abbrev pub value_of_making : List TypeDecl → ℕ → ℕ → Value → Option Value
value_of_making types of ctor x =
    if passes_ctor (has_type types x) (ctor_at types of ctor) then Some (Made of ctor x) else None

-- the record of fields of its types
abbrev pub value_of_record : List TypeDecl → ℕ → List Value → Option Value
value_of_record types of xs =
    if pass_record (map (has_type types) xs) (fields_at types of) then Some (Rec of xs) else None
