-- What one path comes to, by the list of its choices.
use Rattle.std.specs.Prelude.{◌≡◌, ◌+◌, ℕ, zero, suc, List, [], ◌∷◌, Option, None, Some, Result, Ok, Err, slice_get}
use Rattle.kat_ast.specs.declared.decl.DeclForm.{DeclForm}
use Rattle.kat_term.specs.Worlds.{World}
use Rattle.kat_term.specs.declared.kind.Kind.{Kind}
use Rattle.kat_term.specs.declared.term.Term.{Term}
use Rattle.kat_heap.specs.declared.mode.Mode.{Mode}
use Rattle.kat_heap.specs.Asking.{Answers}
use Rattle.kat_heap.specs.Walks.{Moved, Choose, Closed, Ended, Limit, On, Owed, Taken, Goes, Past, Pruned, Shut, Walk}
use Rattle.kat_exec.specs.Items.{Item, mode_of, start_of}
use Rattle.kat_exec.specs.Steps.{step}

-- what one path comes to
pub data PathOutcome : Type 0 where
  -- it reaches the end of its item, with every choice used
  Ends : PathOutcome
  -- it closes, with every choice used
  Closes : PathOutcome
  -- what it owes does not hold, and this is left of it, with every choice used
  Owes : (world : World) (residue : Term) → PathOutcome
  -- it is at a limit, with every choice used
  AtLimit : (kind : Kind) → PathOutcome
  -- every choice is used and a further one is asked for
  Asks : PathOutcome
  -- the choice of this number, from 0, is no option, is pruned, or is never asked for
  NoOption : (choice : ℕ) → PathOutcome

-- an outcome with every choice used; one that is left is never asked for
abbrev pub used_up : ℕ → List ℕ → PathOutcome → PathOutcome
used_up k [] outcome = outcome
used_up k (choice ∷ path) outcome = NoOption k

-- what follows an option: a walk with the choices that are left, or an outcome
pub data Follows : Type 0 where
  GoesOn : (walk : Walk) (k : ℕ) (path : List ℕ) → Follows
  ComesTo : (outcome : PathOutcome) → Follows

-- the option that a choice takes, being the choice of this number
abbrev pub takes : Option Taken → ℕ → List ℕ → Follows
takes None k path = ComesTo (NoOption k)
takes (Some Pruned) k path = ComesTo (NoOption k)
takes (Some Shut) k path = ComesTo (used_up (k + 1) path Closes)
takes (Some (Past kind)) k path = ComesTo (used_up (k + 1) path (AtLimit kind))
takes (Some (Goes w)) k path = GoesOn w (k + 1) path

-- what follows a choice among options
abbrev pub chooses : List Taken → ℕ → List ℕ → Follows
chooses options k [] = ComesTo Asks
chooses options k (choice ∷ path) = takes (slice_get options choice) k path

-- what follows a step
abbrev pub follows : Moved → ℕ → List ℕ → Follows
follows Ended k path = ComesTo (used_up k path Ends)
follows (On w) k path = GoesOn w k path
follows Closed k path = ComesTo (used_up k path Closes)
follows (Choose options) k path = chooses options k path
follows (Owed world residue) k path = ComesTo (used_up k path (Owes world residue))
follows (Limit kind) k path = ComesTo (used_up k path (AtLimit kind))

module _ (answers : Answers) (decls : List DeclForm) (mode : Mode) where
  -- from a walk these choices, of which the first has this number, lead to an outcome
  pub data LeadsTo : Walk → ℕ → List ℕ → PathOutcome → Type 0 where
    Stops : {w : Walk} {k : ℕ} {path : List ℕ} {outcome : PathOutcome} →
        follows (step answers decls mode w) k path ≡ ComesTo outcome → LeadsTo w k path outcome
    Steps : {w : Walk} {k : ℕ} {path : List ℕ} {outcome : PathOutcome}
        (next : Walk) (l : ℕ) (left : List ℕ) →
        follows (step answers decls mode w) k path ≡ GoesOn next l left →
        LeadsTo next l left outcome → LeadsTo w k path outcome

  -- the outcome after at most so many steps, none where there are more
  abbrev pub followed_by : (Walk → ℕ → List ℕ → Option PathOutcome) → Follows → Option PathOutcome
  followed_by go (ComesTo outcome) = Some outcome
  followed_by go (GoesOn w k path) = go w k path

  -- the outcome by steps, which computes
  abbrev pub outcome_in : ℕ → Walk → ℕ → List ℕ → Option PathOutcome
  outcome_in zero w k path = None
  outcome_in (suc fuel) w k path =
      followed_by (outcome_in fuel) (follows (step answers decls mode w) k path)

module _ (answers : Answers) (decls : List DeclForm) where
  -- the outcome of a path of a start: a limit that the start passes stands before all choices
  abbrev pub IsOutcomeFrom : Mode → Result Walk Kind → List ℕ → PathOutcome → Type 0
  IsOutcomeFrom mode (Ok w) path outcome = LeadsTo answers decls mode w 0 path outcome
  IsOutcomeFrom mode (Err limit) path outcome = outcome ≡ used_up 0 path (AtLimit limit)

  -- the outcome of a path of an item
  abbrev pub IsOutcome : Item → List ℕ → PathOutcome → Type 0
  IsOutcome item path outcome =
      IsOutcomeFrom (mode_of item) (start_of decls item) path outcome

  -- the outcome of a path of a start in at most so many steps
  abbrev pub outcome_from : ℕ → Mode → Result Walk Kind → List ℕ → Option PathOutcome
  outcome_from fuel mode (Ok w) path = outcome_in answers decls mode fuel w 0 path
  outcome_from fuel mode (Err limit) path = Some (used_up 0 path (AtLimit limit))

  -- the outcome of a path of an item in at most so many steps, none where it has more
  abbrev pub outcome_of : ℕ → Item → List ℕ → Option PathOutcome
  outcome_of fuel item path =
      outcome_from fuel (mode_of item) (start_of decls item) path
