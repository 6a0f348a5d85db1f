-- The verdict on an item and on a specification.
use Rattle.std.specs.Prelude.{◌≡◌, ◌≤◌, ◌+◌, ◌==◌, ℕ, Bool, true, false, if◌then◌else◌, nat_lt, List, [], ◌∷◌, length, Contains, IsTrue}
use Rattle.std.specs.List.{AllByRecursion}
use Rattle.kat_ast.specs.declared.decl.DeclForm.{DeclForm}
use Rattle.kat_term.specs.Worlds.{World}
use Rattle.kat_term.specs.declared.kind.Kind.{Kind}
use Rattle.kat_term.specs.declared.kind.Kind.TheVariants as kind
use Rattle.kat_term.specs.declared.term.Term.{Term}
use Rattle.kat_heap.specs.Asking.{Answers}
use Rattle.kat_exec.specs.Items.{Item, items_of}
use Rattle.kat_exec.specs.Limits.{max_paths}
use Rattle.kat_exec.specs.Outcome.{PathOutcome, AtLimit, Ends, IsOutcome, Owes}

-- a list of choices is less than another: the first difference decides, and a prefix is less
abbrev pub is_less : List ℕ → List ℕ → Bool
is_less path [] = false
is_less [] (j ∷ other) = true
is_less (i ∷ path) (j ∷ other) = if i == j then is_less path other else nat_lt i j

-- each list is less than those behind it
abbrev pub AreSorted : List (List ℕ) → Type 0
AreSorted [] = Unit {0}
AreSorted (path ∷ paths) =
    AllByRecursion (λ other. IsTrue (is_less path other)) paths × AreSorted paths

-- why a path stops
pub data Stop : Type 0 where
  OnResidue : (world : World) (residue : Term) → Stop
  OnLimit : (kind : Kind) → Stop

-- what a specification comes to
pub data Verdict : Type 0 where
  -- the count of items and that of ended paths
  Accepted : (items paths : ℕ) → Verdict
  Refused : (item : ℕ) (path : List ℕ) (world : World) (residue : Term) → Verdict
  Limited : (item : ℕ) (path : List ℕ) (kind : Kind) → Verdict

-- of what paths come to, those of an item or those of a walk
module _ (comes_to : List ℕ → PathOutcome → Type 0) where
  -- these are exactly the paths that end and of which this holds, in order
  pub record AreEnds (of : List ℕ → Type 0) (paths : List (List ℕ)) : Type 0 where
    pub sorted : AreSorted paths
    pub end : AllByRecursion (λ path. comes_to path Ends × of path) paths
    pub all : (path : List ℕ) → comes_to path Ends → of path → Contains paths path

  -- a path stops: with what it owes, at a limit, or because it ends where as many lesser paths as
  -- may be end
  pub data StopsAt (path : List ℕ) : Stop → Type 0 where
    AtResidue : (world : World) (residue : Term) → comes_to path (Owes world residue) →
        StopsAt path (OnResidue world residue)
    AtTheLimit : (kind : Kind) → comes_to path (AtLimit kind) → StopsAt path (OnLimit kind)
    AtPaths : comes_to path Ends →
        (lesser : List (List ℕ)) → AreEnds (λ other. IsTrue (is_less other path)) lesser →
        max_paths ≤ length lesser → StopsAt path (OnLimit kind.Paths)

  -- the least path that stops
  pub record StopsFirst (path : List ℕ) (stop : Stop) : Type 0 where
    pub stops : StopsAt path stop
    pub least :
        (other : List ℕ) (earlier : Stop) → IsTrue (is_less other path) →
        StopsAt other earlier → ⊥

  -- no path stops, and so many end
  pub record IsAccepted (count : ℕ) : Type 0 where
    pub none : (path : List ℕ) (stop : Stop) → StopsAt path stop → ⊥
    pub paths : List (List ℕ)
    pub ends : AreEnds (λ path. Unit {0}) paths
    pub counted : length paths ≡ count

-- the verdict of a stop of the item of this number
abbrev pub verdict_of_stop : ℕ → List ℕ → Stop → Verdict
verdict_of_stop item path (OnResidue world residue) = Refused item path world residue
verdict_of_stop item path (OnLimit kind) = Limited item path kind

module _ (answers : Answers) (decls : List DeclForm) where
  -- the verdict on items, so many items and paths having been accepted before them: the first item
  -- that has a path that stops decides
  pub data IsVerdictOn : List Item → ℕ → ℕ → Verdict → Type 0 where
    AllAccepted : (items paths : ℕ) → IsVerdictOn [] items paths (Accepted items paths)
    Stopped : {more : List Item} (item : Item) (items paths : ℕ) (path : List ℕ) (stop : Stop) →
        StopsFirst (IsOutcome answers decls item) path stop →
        IsVerdictOn (item ∷ more) items paths (verdict_of_stop items path stop)
    OneAccepted : {more : List Item} (item : Item) (items paths count : ℕ) (verdict : Verdict) →
        IsAccepted (IsOutcome answers decls item) count →
        IsVerdictOn more (items + 1) (paths + count) verdict →
        IsVerdictOn (item ∷ more) items paths verdict

  -- the verdict on a specification
  abbrev pub IsVerdict : Verdict → Type 0
  IsVerdict verdict = IsVerdictOn (items_of decls) 0 0 verdict
