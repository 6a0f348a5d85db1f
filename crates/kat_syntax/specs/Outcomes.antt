-- How statements, calls and cycles end.
use Rattle.std.specs.Prelude.{ℕ, ◌+◌, Option, None, Some}
use Rattle.kat_value.specs.declared.value.Value.{Value}
use Rattle.kat_ast.specs.declared.place.Place.{Place}
use Rattle.kat_syntax.specs.Machine.{Progress}

-- how something ends whose failures have sites of this type
pub data Outcome (Site : Type 0) : Type 0 where
  Done : (value : Value) (progress : Progress) → Outcome Site
  -- a call was made with none left
  Out : Outcome Site
  Fail : (site : Site) → Outcome Site
  -- it came to what has no meaning
  Stuck : Outcome Site

-- where a failure in a statement stands: at a tree of the statement, which is tree 0 of itself, or
-- in a function that it called
pub data StmSite : Type 0 where
  Here : (tree : ℕ) → StmSite
  There : (place : Place) → StmSite

-- goes on from where a part is done
abbrev pub then_do : {S : Type 0} → Outcome S → (Value → Progress → Outcome S) → Outcome S
then_do (Done value progress) go = go value progress
then_do Out go = Out
then_do (Fail site) go = Fail site
then_do Stuck go = Stuck

-- goes on with what there is, and is stuck where there is none
abbrev pub given : {A S : Type 0} → Option A → (A → Outcome S) → Outcome S
given None go = Stuck
given (Some a) go = go a

-- the same outcome, its site seen from elsewhere
abbrev pub at_site : {S U : Type 0} → (S → U) → Outcome S → Outcome U
at_site move (Done value progress) = Done value progress
at_site move Out = Out
at_site move (Fail site) = Fail (move site)
at_site move Stuck = Stuck

-- a site in the part whose tree has this number
abbrev pub site_inside : ℕ → StmSite → StmSite
site_inside at (Here tree) = Here (at + tree)
site_inside at (There place) = There place

-- the outcome of the part whose tree has this number
abbrev pub inside : ℕ → Outcome StmSite → Outcome StmSite
inside at outcome = at_site (site_inside at) outcome

-- the place of a site in the declaration of this number
abbrev pub place_in : ℕ → StmSite → Place
place_in decl (Here tree) = record { decl = decl; tree = tree }
place_in decl (There place) = place
