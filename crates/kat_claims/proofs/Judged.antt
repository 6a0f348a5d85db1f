-- All small machines, judged.
use Rattle.kat_claims.specs.Security.{MachinesAreJudged}
use Rattle.kat_claims.proofs.Counter.{counter_boots}
use Rattle.kat_claims.proofs.Insecure.{exceeding_breaks, failing_breaks, lingering_breaks, nothing_boots, slipping_breaks, tampering_breaks, unbootable_secure}
use Rattle.kat_claims.proofs.Machines.{resting_secure}

-- what is secure is so, and what breaks one clause is not
pub machines_are_judged : MachinesAreJudged
machines_are_judged = record {
  resting_is_secure = resting_secure;
  failing_is_not = failing_breaks;
  tampering_is_not = tampering_breaks;
  slipping_is_not = slipping_breaks;
  lingering_is_not = lingering_breaks;
  exceeding_is_not = exceeding_breaks;
  nothing_boots = nothing_boots;
  unbootable_is_secure = unbootable_secure;
  counter_boots = counter_boots;
}
