-- One branch more is kept.
use Rattle.std.proofs.Common.{◌≡◌, ◌&&◌, ◌∙◌, ap, sym}
use Rattle.kat_value.specs.Signatures.{agree}
use Rattle.kat_stm_types.proofs.BranchTypes.{one_more}
use Rattle.kat_stm_types.proofs.branches.Branches.with.Goals.{then-self, else-self}
use Rattle.kat_stm_types.proofs.branches.Branches.with.Goals as goal

pub returns : goal.returns
returns c =
    let agrees : c.if-self.result ≡ (c.args.self.agrees && agree c.args.self.first
    c.args.known.ty) =
    elim c.if-self.branch [
      | then-self w ↦ w.result-is ∙ w.agree.ensures
          ∙ sym (ap (λ b. b && agree c.args.self.first c.args.known.ty) w.if-self.true)
      | else-self w ↦ w.result-is ∙ w.if-self.false
          ∙ sym (ap (λ b. b && agree c.args.self.first c.args.known.ty) w.if-self.false)
    ] in
    λ types is. one_more types c.args.known.ty _ _ c.args.self _ _ is c.or.ensures agrees
