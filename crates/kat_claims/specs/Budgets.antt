-- Laws of contracts and of how many calls there are.
use Rattle.std.specs.Prelude.{◌≤◌, ℕ}
use Rattle.kat_ast.specs.Spec.{Spec}
use Rattle.kat_syntax.specs.Meets.{ContractOf, MeetsContract}

-- a budget of calls only cuts runs short: what is met with more calls is met with fewer
abbrev pub FewerCallsMeet : Type 0
FewerCallsMeet =
    (spec : Spec) (contract : ContractOf) (n k : ℕ) → k ≤ n →
    MeetsContract spec contract n → MeetsContract spec contract k
