-- What an assertion says of a fragment, opened and closed at one layer.
use Rattle.std.proofs.Common.{◌≡◌, List, [], ◌∷◌, map, refl, sym, ap, subst}
use Rattle.kat_ast.specs.declared.assertion.Assertion.{Assertion}
use Rattle.kat_ast.specs.declared.assertion.Assertion.TheOpen.{Assertion-F, Pure, Register, Cell, Star, If, Exists, Predicate, Region}
use Rattle.kat_ast.specs.declared.assertion.Assertion.TheFolds.{map-Assertion, rec-roll-Assertion}
use Rattle.kat_ast.specs.declared.assertion.Assertion.TheViews.{roll-Assertion}
use Rattle.kat_syntax.specs.Evaluation.{Environment}
use Rattle.kat_syntax.specs.Fragments.{Fragment, Join}
use Rattle.kat_syntax.specs.Holds.{Predicates, HoldsAll, HoldsBy, HoldsLayer}

-- what an assertion may say
abbrev Says : Type 1
Says = Environment → Fragment → Type 0

module _ (predicates : Predicates) where
  -- the parts of a `star` stand in their places
  natural_all :
      (X : Type 0) (v : X → Assertion) (says : Assertion → Says) (parts : List X) →
      HoldsAll predicates X (λ p. says (v p)) parts
      ≡ HoldsAll predicates Assertion says (map v parts)
  natural_all X v says [] = refl
  natural_all X v says (part ∷ parts) =
      ap (λ (rest : Says). λ (env : Environment) (f : Fragment).
      (g : Fragment) × (h : Fragment) × Join f g h × says (v part) env g × rest env h)
      (natural_all X v says parts)

  -- the parts stand in their places
  natural :
      (X : Type 0) (v : X → Assertion) (says : Assertion → Says) (layer : Assertion-F X) →
      HoldsLayer predicates X (λ p. says (v p)) layer
      ≡ HoldsLayer predicates Assertion says (map-Assertion X Assertion v layer)
  natural X v says (Pure e) = refl
  natural X v says (Register r e) = refl
  natural X v says (Cell index e) = refl
  natural X v says (Star parts) = natural_all X v says parts
  natural X v says (If test first second) = refl
  natural X v says (Exists x type body) = refl
  natural X v says (Predicate x args) = refl
  natural X v says (Region x args) = refl

  -- what an assertion of one layer says
  pub holds_rolled :
      (layer : Assertion-F Assertion) →
      HoldsBy predicates (roll-Assertion layer)
      ≡ HoldsLayer predicates Assertion (HoldsBy predicates) layer
  holds_rolled layer =
      rec-roll-Assertion Says (λ X whole holds layer. HoldsLayer predicates X holds layer) natural
      layer

  -- the same, opened
  pub opened :
      (layer : Assertion-F Assertion) (env : Environment) (f : Fragment) →
      HoldsBy predicates (roll-Assertion layer) env f →
      HoldsLayer predicates Assertion (HoldsBy predicates) layer env f
  opened layer env f h = subst (λ (says : Says). says env f) (holds_rolled layer) h

  -- the same, closed
  pub closed :
      (layer : Assertion-F Assertion) (env : Environment) (f : Fragment) →
      HoldsLayer predicates Assertion (HoldsBy predicates) layer env f →
      HoldsBy predicates (roll-Assertion layer) env f
  closed layer env f h = subst (λ (says : Says). says env f) (sym (holds_rolled layer)) h
