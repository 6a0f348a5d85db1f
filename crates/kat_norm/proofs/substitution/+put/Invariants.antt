use Rattle.std.proofs.Common.{◌≡◌, take, map}
use Rattle.kat_norm.specs.Substitution.{put}
use Rattle.kat_norm.proofs.substitution.+put.Given as goal

abbrev pub invariant-put_all-loop-term : goal.invariant-put_all-loop-term
invariant-put_all-loop-term l = l.changed ≡ map (put l.pair.number l.pair.term) (take l.term-index l.terms)
