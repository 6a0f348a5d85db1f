-- What statements and assertions share, noted part by part.
use Rattle.std.proofs.Common.{◌≡◌, ℕ, ◌+◌, ◌++◌, ap, ◌∙◌, Bool, List, Option}
use Rattle.std.specs.Prelude.{is_some}
use Rattle.kat_value.specs.declared.types.Ty.{Ty}
use Rattle.kat_syntax.specs.Tables.{Name}
use Rattle.kat_syntax.specs.TypeRules.{Fault, least_with, unless}
use Rattle.kat_syntax.specs.declared.type_rule.TypeRule.TheVariants.{NameUnknown}
use Rattle.kat_syntax.specs.Around.{Around, RegisterSeen, a_register, meant}
use Rattle.kat_syntax.specs.Memories.{index_type, cell_type}
use Rattle.kat_syntax.specs.TypingExpressions.{Known, wanting, unknown, type_of_register}
use Rattle.kat_syntax.specs.TypingStatements.{without_memory}
use Rattle.kat_expr_types.specs.declared.setting.Known.{Known as KnownHere}
use Rattle.kat_expr_types.specs.Judging.{Tells}
use Rattle.kat_stm_types.specs.Uses.{cell_parts_faults, register_value_faults}
use Rattle.kat_stm_types.proofs.Noting.{both_noted, wanting_noted}

-- a name that is to be known
pub unknown_noted : {A : Type 0} (at : ℕ) (wanted found : Option A) (is_known : Bool)
    (old new : Option Fault) →
    found ≡ wanted → is_known ≡ is_some found →
    new ≡ least_with old (unless is_known at NameUnknown) →
    new ≡ least_with old (unknown at wanted)
unknown_noted at wanted found is_known old new is known_is noted =
    noted ∙ ap (λ b. least_with old (unless b at NameUnknown)) (known_is ∙ ap is_some is)

-- a part of the type wanted, and then others
wanting_and_more : (known : Known) (at : ℕ) (told : KnownHere) (old middle next new : Option Fault)
    (wanted found : Option Ty) (more : List Fault) →
    Tells known at told old middle → found ≡ wanted →
    next ≡ least_with middle (wanting found at told.ty) →
    new ≡ least_with next more →
    new ≡ least_with old (known.faults at ++ (wanting wanted at known.type ++ more))
wanting_and_more known at told old middle next new wanted found more tells is noted rest =
    both_noted old middle new (known.faults at) (wanting wanted at known.type ++ more) tells.faults
    (both_noted middle next new (wanting wanted at known.type) more
    (noted ∙ ap (λ type. least_with middle (wanting found at type)) tells.type
    ∙ ap (λ type. least_with middle (wanting type at known.type)) is) rest)

pub cell_parts_noted : (around : Around) (at : ℕ) (place value : Known)
    (place_told value_told : KnownHere)
    (old a b d e new : Option Fault) (index cell : Option Ty) →
    a ≡ least_with old (without_memory around at) →
    Tells place (at + 2) place_told a b → index ≡ index_type around →
    d ≡ least_with b (wanting index (at + 2) place_told.ty) →
    Tells value (at + 2 + place_told.trees) value_told d e → cell ≡ cell_type around →
    new ≡ least_with e (wanting cell (at + 2 + place_told.trees) value_told.ty) →
    new ≡ least_with old (cell_parts_faults around at place value)
cell_parts_noted around at place value place_told value_told old a b d e new index cell memory
    place_tells index_is place_wanted value_tells cell_is value_wanted =
    both_noted old a new (without_memory around at) _ memory
    (wanting_and_more place (at + 2) place_told a b d new (index_type around) index _ place_tells
    index_is place_wanted
    (wanting_noted value (at + 2 + place_told.trees) value_told d e new (cell_type around) cell
    value_tells cell_is value_wanted
    ∙ ap (λ (trees : ℕ). least_with d
    (value.faults (at + 2 + trees) ++ wanting (cell_type around) (at + 2 + trees) value.type))
    place_tells.trees))

pub register_value_noted : (around : Around) (at : ℕ) (r : Name) (value : Known) (told : KnownHere)
    (old a b new : Option Fault) (seen : Option RegisterSeen) (is_known : Bool) (type : Option Ty) →
    seen ≡ meant a_register around r → is_known ≡ is_some seen →
    a ≡ least_with old (unless is_known (at + 2) NameUnknown) →
    Tells value (at + 3) told a b → type ≡ type_of_register around r →
    new ≡ least_with b (wanting type (at + 3) told.ty) →
    new ≡ least_with old (register_value_faults around at r value)
register_value_noted around at r value told old a b new seen is_known type seen_is known_is noted
    tells type_is wanted =
    both_noted old a new (unknown (at + 2) (meant a_register around r)) _
    (unknown_noted (at + 2) (meant a_register around r) seen is_known old a seen_is known_is noted)
    (wanting_noted value (at + 3) told a b new (type_of_register around r) type tells type_is
    wanted)
