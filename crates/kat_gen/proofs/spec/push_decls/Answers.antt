use Rattle.std.proofs.Common.{refl}
use Rattle.kat_gen.specs.Pieces.{decls_pieces}
use Rattle.kat_gen.proofs.Pushed.{pushed}
use Rattle.kat_gen.proofs.spec.push_decls.Goals as goal

pub returns : goal.returns
returns c =
    pushed c.push_boundary.result (decls_pieces c.args.number) c.args.out.now
    c.push_boundary.new.out c.push_boundary.ensures
    (λ last. (
      _,
      c.in_ok-push_first.ensures,
      (
        _,
        c.in_ok-push_counters.ensures,
        (
          _,
          c.in_ok-push_cycle.ensures,
          (_, last, refl),
        ),
      ),
    ))
