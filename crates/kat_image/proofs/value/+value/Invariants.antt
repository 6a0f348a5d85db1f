use Rattle.std.proofs.Common.{◌≡◌, ◌++◌, ◌*◌, ◌+◌, drop}
use Rattle.std.specs.Option.{option_map}
use Rattle.kat_syntax.specs.TypeTable.{types_of_decls}
use Rattle.kat_image.specs.ValueText.{fields_front, value_front}
use Rattle.kat_image.proofs.value.+value.Given as goal

-- a value comes before what reads its parts one level below
abbrev pub decreases-value_front : goal.decreases-value_front
decreases-value_front l = 4 * l.levels

abbrev pub decreases-made_front : goal.decreases-made_front
decreases-made_front l = 4 * l.below + 3

abbrev pub decreases-payload_front : goal.decreases-payload_front
decreases-payload_front l = 4 * l.below + 1

abbrev pub decreases-record_front : goal.decreases-record_front
decreases-record_front l = 4 * l.below + 3

abbrev pub decreases-closed_front : goal.decreases-closed_front
decreases-closed_front l = 4 * l.below + 2

abbrev pub decreases-fields_front : goal.decreases-fields_front
decreases-fields_front l = 4 * l.below + 1

-- the fields that are still to come make the reading whole
abbrev pub invariant-fields_front-loop-field : goal.invariant-fields_front-loop-field
invariant-fields_front-loop-field l =
    let read = value_front l.below (types_of_decls l.machine.decls) in
    option_map (λ more. (l.values ++ more.0, more.1)) (fields_front read (drop l.field-index l.fields) l.unread.rest.now)
    ≡ fields_front read l.fields l.initial.unread.rest.now
