-- Goals proved in settled worlds.
use Rattle.std.specs.Prelude.{ℕ, zero, suc, Bool, true, false, not, ◌&&◌, if◌then◌else◌, is_some, List, [], ◌∷◌, ◌++◌, Option, Some, None, option_and_then, unwrap_or}
use Rattle.std.specs.Option.{option_map, option_or}
use Rattle.kat_value.specs.declared.op.Op.TheVariants.{Not, And, Or, Ite}
use Rattle.kat_value.specs.declared.types.Ty.{Ty}
use Rattle.kat_term.specs.declared.term.Term.{Term}
use Rattle.kat_term.specs.Views.{ThreeTerms, one, three_args_of, truth_of}
use Rattle.kat_norm.specs.Substitution.{Substitution, substituted}
use Rattle.kat_known.specs.First.{first_where}
use Rattle.kat_known.specs.Known.{known, known_atom}
use Rattle.kat_known.specs.Reduce.{reduced_strictly}
use Rattle.kat_known.specs.Views.{with_two, is_atom}
use Rattle.kat_solver.specs.Add.{added, is_or}
use Rattle.kat_solver.specs.Settled.{list_of}
use Rattle.kat_solver.specs.declared.settled.Settled.{Settled}
use Rattle.kat_solver.specs.declared.settled.Settled.TheVariants.{Closed, Open}

-- one query asks at most this many times
unfoldable pub max_askings : ℕ
max_askings = 100000

-- and splits at most so often
unfoldable pub max_splits : ℕ
max_splits = 8

-- the first of a list that a test finds
abbrev pub first_of_list : (Term → Bool) → List Term → Option Term
first_of_list test [] = None
first_of_list test (t ∷ ts) = if test t then Some t else first_of_list test ts

-- a goal in a settled world
pub record Asked : Type 0 where
  pub world : Settled
  pub goal : Term

-- the question whether a goal holds in a world
abbrev pub ask : Settled → Term → Asked
ask world goal = record { world = world; goal = goal }

-- what becomes of one asking: a no ends the query; else these goals stand before the others, with
-- so many splits left
pub data Next : Type 0 where
  No : Next
  More : (goals : List Asked) (splits : ℕ) → Next

-- the condition of a term that is an `ite`
abbrev pub condition_of : Term → Option Term
condition_of t = option_map (λ (ite : ThreeTerms). ite.first) (three_args_of Ite t)

-- whether a term is an `ite`
abbrev pub is_ite : Term → Bool
is_ite t = is_some (condition_of t)

-- true is proved
abbrev pub if_true : ℕ → Bool → Option Next
if_true splits true = Some (More [] splits)
if_true splits false = None

-- both sides of an `and`, the first first
abbrev pub both_sides : Settled → Term → Term → List Asked
both_sides world a b = ask world a ∷ ask world b ∷ []

module _ (vars : List Ty) (norm : Term → Option Term) where
  -- whether a term is an atom that is not known
  abbrev pub is_open : List Term → Term → Bool
  is_open list t = is_atom vars t && not (is_some (known vars norm list t))

  -- the first atom that is not known in the condition of the first `ite`
  abbrev pub atom_of_ite : List Term → Term → Option Term
  atom_of_ite list g =
      option_and_then (λ ite. option_and_then (first_where (is_open list)) (condition_of ite))
      (first_where is_ite g)

  -- the first atom of this formula; where there is none, that of an `ite`
  abbrev pub atom_by : List Term → Term → Option Term → Option Term
  atom_by list g None = atom_of_ite list g
  atom_by list g (Some formula) = first_where (is_atom vars) formula

  -- the atom of a split: of the first `or` in the list, else of an `ite`
  abbrev pub split_atom : List Term → Term → Option Term
  split_atom list g = atom_by list g (first_of_list is_or list)

  -- both cases of a split
  abbrev pub cases_of : Settled → Term → Term → List Asked
  cases_of world g atom =
      ask (added vars norm world atom) g ∷ ask (added vars norm world (one Not atom)) g ∷ []

  -- a split on this atom; no where there is none, or no split is left
  abbrev pub split_at : Settled → Term → ℕ → Option Term → Next
  split_at world g splits None = No
  split_at world g zero (Some atom) = No
  split_at world g (suc splits) (Some atom) = More (cases_of world g atom) splits

  -- the second side of an `or`, where the first is not
  abbrev pub other_side : Settled → Term → Term → List Asked
  other_side world a b = ask (added vars norm world (one Not a)) b ∷ []

  -- the case of a goal: true, an `and` or an `or`
  abbrev pub case_next : Settled → ℕ → Term → Option Next
  case_next world splits g =
      option_or (option_and_then (if_true splits) (truth_of g))
      (option_or (with_two And g (λ a b. Some (More (both_sides world a b) splits)))
      (with_two Or g (λ a b. Some (More (other_side world a b) splits))))

  -- a goal that is normed and reduced; any other goal is split
  abbrev pub goal_next : Settled → ℕ → Term → Next
  goal_next world splits g =
      unwrap_or (case_next world splits g) (split_at world g splits (split_atom (list_of world) g))

  -- no where a limit was passed
  abbrev pub next_by : Settled → ℕ → Option Term → Next
  next_by world splits None = No
  next_by world splits (Some g) = goal_next world splits g

  -- a goal reduced by a list; none where norm passes a limit
  abbrev pub strictly_reduced_by : List Term → Term → Option Term
  strictly_reduced_by list = reduced_strictly (known_atom vars norm list) norm

  -- a goal normed under a substitution and reduced by a list
  abbrev pub goal_in : Substitution → List Term → Term → Option Term
  goal_in pairs list goal =
      option_and_then (strictly_reduced_by list) (norm (substituted pairs goal))

  -- one asking: in a closed world every goal holds; else it is normed and then reduced
  abbrev pub next_of : Settled → Term → ℕ → Next
  next_of Closed goal splits = More [] splits
  next_of (Open pairs list) goal splits =
      next_by (Open pairs list) splits (goal_in pairs list goal)

  -- goes on with the goals of one asking before the others
  abbrev pub and_more : Next → (ℕ → List Asked → Bool) → List Asked → Bool
  and_more No go others = false
  and_more (More goals splits) go others = go splits (goals ++ others)

  -- whether all goals are proved, with so many askings and splits left
  abbrev pub all_proved : ℕ → ℕ → List Asked → Bool
  all_proved zero splits [] = true
  all_proved zero splits (asked ∷ others) = false
  all_proved (suc left) splits [] = true
  all_proved (suc left) splits (asked ∷ others) =
      and_more (next_of asked.world asked.goal splits) (all_proved left) others

  -- whether a goal is proved in a settled world
  abbrev pub is_proved : Settled → Term → Bool
  is_proved world goal = all_proved max_askings max_splits (ask world goal ∷ [])
