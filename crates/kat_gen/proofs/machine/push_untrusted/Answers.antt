use Rattle.std.proofs.Common.{refl}
use Rattle.kat_gen.specs.Pieces.{untrusted_pieces}
use Rattle.kat_gen.proofs.Pushed.{pushed}
use Rattle.kat_gen.proofs.machine.push_untrusted.Goals as goal

pub returns : goal.returns
returns c =
    pushed c.push_close.result (untrusted_pieces c.args.number) c.args.out.now
    c.push_close.new.self c.push_close.ensures.pushed
    (λ last. (
      _,
      c.in_ok-push_text.ensures.pushed,
      (
        _,
        c.in_ok-push_all_parts.ensures,
        (
          _,
          last,
          refl,
        ),
      ),
    ))
