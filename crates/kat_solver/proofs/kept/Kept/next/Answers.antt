use Rattle.std.proofs.Common.{◌∙◌, ◌++◌, ap}
use Rattle.kat_solver.proofs.Growing.{settled_on}
use Rattle.kat_solver.proofs.kept.Kept.next.Goals as goal

pub invariant_of-result : goal.invariant_of-result
invariant_of-result c = record {
  is = settled_on c.args.self.vars c.args.world.now.vars c.args.self.formulas c.in-Some.rest.now
      c.append.new.self c.args.self.settled c.in_ok-settled.settled
      c.in-Some.ensures.0 c.args.self.is c.in_ok-settled.ensures
      (c.in_ok-append.ensures
      ∙ ap (λ ts. c.args.self.formulas ++ ts) c.in_ok-copy_terms.ensures);
}
