-- Laws of fragments: their unions are an algebra.
use Rattle.std.specs.Prelude.{◌≡◌}
use Rattle.kat_syntax.specs.Fragments.{Fragment, Join, nothing}

-- unions of disjoint fragments: in either order, grouped either way, with nothing, and determined by
-- their parts
pub record JoinsAreUnions : Type 0 where
  pub symmetric : {p f g : Fragment} → Join p f g → Join p g f
  pub associative :
      {p f g a b : Fragment} → Join p f g → Join f a b →
      (rest : Fragment) × Join p a rest × Join rest b g
  pub unit : (p : Fragment) → Join p p nothing
  pub determined : {p q f g : Fragment} → Join p f g → Join q f g → p ≡ q
