-- The least fault of some faults and then others.
use Rattle.std.proofs.Common.{◌≡◌, List, [], ◌∷◌, ◌++◌, refl, Option}
use Rattle.kat_syntax.specs.TypeRules.{Fault, earlier, least_with}

pub least_both : (old : Option Fault) (a b : List Fault) →
    least_with old (a ++ b) ≡ least_with (least_with old a) b
least_both old [] b = refl
least_both old (fault ∷ a) b = least_both (earlier old fault) a b
