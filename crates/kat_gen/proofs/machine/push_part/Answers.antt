use Rattle.std.proofs.Common.{refl}
use Rattle.kat_gen.specs.Pieces.{part_pieces}
use Rattle.kat_gen.proofs.Pushed.{pushed}
use Rattle.kat_gen.proofs.machine.push_part.Goals as goal

pub returns : goal.returns
returns c =
    pushed c.push_text.result (part_pieces c.args.number) c.args.out.now c.push_text.new.self
    c.push_text.ensures.pushed
    (λ last. (
      _,
      c.in_ok-push_numbered.ensures,
      (
        _,
        c.in_ok-push_numbered-2.ensures,
        (
          _,
          c.in_ok-push_numbered-3.ensures,
          (_, last, refl),
        ),
      ),
    ))
