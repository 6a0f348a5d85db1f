use Rattle.std.proofs.Common.{refl}
use Rattle.kat_gen.specs.Pieces.{function_pieces}
use Rattle.kat_gen.proofs.Pushed.{pushed}
use Rattle.kat_gen.proofs.counter.push_function.Goals as goal

pub returns : goal.returns
returns c =
    pushed c.push_text.result (function_pieces c.args.number) c.args.out.now c.push_text.new.self
    c.push_text.ensures.pushed
    (λ last. (
      _,
      c.in_ok-push_numbered.ensures,
      (
        _,
        c.in_ok-push_numbered-2.ensures,
        (
          _,
          c.in_ok-push_numbered-3.ensures,
          (_, c.in_ok-push_numbered-4.ensures, (_, last, refl)),
        ),
      ),
    ))
