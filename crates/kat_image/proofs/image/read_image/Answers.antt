use Rattle.std.proofs.Common.{◌<◌, ◌∷◌, List, ℕ, Bool, Bor, Option, length, ap, ◌∙◌, subst}
use Rattle.std.specs.Prelude.{IfSome}
use Rattle.std.specs.Option.{option_copied}
use Rattle.kat_image.specs.Image.{IsFirstRefused, IsImageOf}
use Rattle.kat_image.specs.Reader.{Takes, lines_behind}
use Rattle.kat_image.proofs.Settings.{one_state, one_refused, refused_image}
use Rattle.kat_image.proofs.Reading.{read_none, reads_none, reads_more, reads_all, reads_fault}
use Rattle.kat_image.proofs.image.read_image.Goals as goal

pub loop-image-init : goal.loop-image-init
loop-image-init c =
    reads_none c.args.machine.now c.args.bytes.now c.in_ok-image.image (read_none c.args.machine.now c.in_ok-image.image c.in_ok-image.ensures.state c.in_ok-image.ensures.registers c.in_ok-image.ensures.cells) c.in_ok-image.ensures.room

fault : (c : goal.After-drop-image-then-not-taken-4) → IsFirstRefused c.args.machine.now c.args.bytes.now c.loop-image.number
fault c =
    let read = c.loop-image.invariant in
    let line = c.first_line.result.0.now in
    reads_fault c.args.machine.now c.args.bytes.now c.loop-image.rest.now line (lines_behind (option_copied c.first_line.result.1)) c.loop-image.number c.loop-image.image read c.first_line.ensures.lines
    (subst (λ (b : Bool). Takes c.args.machine.now read.lines line b c.take.new.self) c.if-not-taken.true (c.in_ok-taken.ensures.taken read.lines read.read))

pub returns-then-not-taken-clause-line : goal.returns-then-not-taken-clause-line
returns-then-not-taken-clause-line c = fault c

pub returns-then-not-taken-clause-only : goal.returns-then-not-taken-clause-only
returns-then-not-taken-clause-only c = λ state image. absurd (refused_image c.args.machine.now c.args.bytes.now c.loop-image.number state (fault c) image)

pub returns-then-not-taken-clause-first : goal.returns-then-not-taken-clause-first
returns-then-not-taken-clause-first c = λ number other. one_refused c.args.machine.now c.args.bytes.now c.loop-image.number number (fault c) other

pub returns-then-not-taken-clause-refused : goal.returns-then-not-taken-clause-refused
returns-then-not-taken-clause-refused c = λ _ state image. refused_image c.args.machine.now c.args.bytes.now c.loop-image.number state (fault c) image

whole : (c : goal.After-drop-image-in_default-2) → IsImageOf c.args.machine.now c.args.bytes.now c.take.new.self.state
whole c =
    let read = c.loop-image.invariant in
    let line = c.first_line.result.0.now in
    reads_all c.args.machine.now c.args.bytes.now c.loop-image.rest.now line c.loop-image.number c.loop-image.image c.take.new.self read
    (c.first_line.ensures.lines ∙ ap (λ (o : Option (Bor (List ℕ))). line ∷ lines_behind (option_copied o)) c.in_default.is)
    (subst (λ (b : Bool). Takes c.args.machine.now read.lines line b c.take.new.self) c.if-not-taken.false (c.in_ok-taken.ensures.taken read.lines read.read))

pub returns-in_default-clause-found : goal.returns-in_default-clause-found
returns-in_default-clause-found c = whole c

pub returns-in_default-clause-only : goal.returns-in_default-clause-only
returns-in_default-clause-only c = λ state image. one_state c.args.machine.now c.args.bytes.now c.take.new.self.state state (whole c) image

pub returns-in_default-clause-first : goal.returns-in_default-clause-first
returns-in_default-clause-first c = λ number other. refused_image c.args.machine.now c.args.bytes.now number c.take.new.self.state other (whole c)

pub loop-image-preserved : goal.loop-image-preserved
loop-image-preserved c =
    let read = c.loop-image.invariant in
    let line = c.first_line.result.0.now in
    reads_more c.args.machine.now c.args.bytes.now c.loop-image.rest.now c.in-Some.more.now line c.loop-image.number c.loop-image.image c.take.new.self read
    (c.first_line.ensures.lines ∙ ap (λ (o : Option (Bor (List ℕ))). line ∷ lines_behind (option_copied o)) c.in-Some.is)
    (subst (λ (o : Option (Bor (List ℕ))). IfSome o (λ rest. length rest.now < length c.loop-image.rest.now)) c.in-Some.is c.first_line.ensures.shorter)
    (subst (λ (b : Bool). Takes c.args.machine.now read.lines line b c.take.new.self) c.if-not-taken.false (c.in_ok-taken.ensures.taken read.lines read.read))
    c.in_ok-taken.ensures.room

pub take-requires : goal.take-requires
take-requires c = c.loop-image.invariant.room
