use Rattle.std.proofs.Common.{◌≡◌, ◌≢◌, ◌∙◌, [], Some, length, sym, arith, ap}
use Rattle.std.proofs.lemmas.Grind.{common_steps}
use Rattle.kat_image.specs.Lines.{setting_of}
use Rattle.kat_image.proofs.Places.{within_of}
use Rattle.kat_image.proofs.Reading.{read_empty, room_after, takes_set}
use Rattle.kat_image.proofs.Said.{sets_places}
use Rattle.kat_image.proofs.image.Image.take.Goals as goal

pub returns-then-is_empty-clause-taken : goal.returns-then-is_empty-clause-taken
returns-then-is_empty-clause-taken c = λ lines read.
    let empty : c.args.line.now ≡ [] = grind (arith, common_steps) in
    read_empty c.args.machine.now lines c.args.line.now c.args.self.now empty read

pub set-requires-clause-within : goal.set-requires-clause-within
set-requires-clause-within c =
    within_of c.args.machine.now c.args.self.now c.in-Some.setting c.requires (sets_places c.args.machine.now c.args.line.now c.in-Some.setting (sym c.in_ok-setting_of.ensures ∙ c.in-Some.is))

pub returns-in-Some-clause-taken : goal.returns-in-Some-clause-taken
returns-in-Some-clause-taken c = λ lines read.
    let some : c.args.line.now ≢ [] = λ e. grind (arith, common_steps, ap length e) in
    let said : setting_of c.args.machine.now c.args.line.now ≡ Some c.in-Some.setting = sym c.in_ok-setting_of.ensures ∙ c.in-Some.is in
    takes_set c.args.machine.now lines c.args.line.now c.args.self.now c.set.new.self c.in-Some.setting c.set.result some read c.requires said
    (within_of c.args.machine.now c.args.self.now c.in-Some.setting c.requires (sets_places c.args.machine.now c.args.line.now c.in-Some.setting said))
    (λ is. c.set.ensures.set is c.args.machine.now) (λ is. c.set.ensures.taken is c.args.machine.now)

pub returns-in-Some-clause-room : goal.returns-in-Some-clause-room
returns-in-Some-clause-room c = room_after c.args.machine.now c.args.self.now c.set.new.self c.in-Some.setting c.set.result c.requires c.set.ensures.set c.set.ensures.kept
