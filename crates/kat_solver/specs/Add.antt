-- Formulas added to a settled world, by an agenda.
use Rattle.std.specs.Prelude.{ℕ, zero, suc, Bool, true, false, not, ◌||◌, if◌then◌else◌, is_some, List, [], ◌∷◌, ◌++◌, Option, Some, None, unwrap_or}
use Rattle.std.specs.Option.{option_map, option_or}
use Rattle.kat_value.specs.declared.op.Op.TheVariants.{Not, And, Or}
use Rattle.kat_value.specs.declared.types.Ty.{Ty}
use Rattle.kat_term.specs.declared.term.Term.{Term}
use Rattle.kat_term.specs.Equality.{term_eq}
use Rattle.kat_term.specs.Views.{arg_of, two_args_of, truth_of}
use Rattle.kat_norm.specs.declared.substitution.Pair.{Pair}
use Rattle.kat_norm.specs.Substitution.{Substitution, substituted}
use Rattle.kat_known.specs.Known.{known, known_atom}
use Rattle.kat_known.specs.Reduce.{reduced}
use Rattle.kat_known.specs.Views.{with_two, where_so, contains, is_atom}
use Rattle.kat_solver.specs.declared.add.Stage.{Stage}
use Rattle.kat_solver.specs.Pairs.{pair_of}
use Rattle.kat_solver.specs.Settled.{unsettled}
use Rattle.kat_solver.specs.declared.settled.Settled.{Settled}
use Rattle.kat_solver.specs.declared.settled.Settled.TheVariants.{Closed, Open}

-- one agenda has at most this many members taken
unfoldable pub max_members : ℕ
max_members = 100000

-- formulas that are still to be added to a substitution and a list
abbrev pub stage_of : List Term → Substitution → List Term → Stage
stage_of agenda pairs list = record { agenda = agenda; pairs = pairs; list = list }

-- whether a term is an `or`
abbrev pub is_or : Term → Bool
is_or t = is_some (two_args_of Or t)

module _ (vars : List Ty) (norm : Term → Option Term) where
  -- a term reduced by a list; on a limit it stays as it was
  abbrev pub reduced_by : List Term → Term → Term
  reduced_by list = reduced (known_atom vars norm list) norm

  -- whether a member of a list stays: it is no `or`, or reducing does not change it
  abbrev pub stays : List Term → Term → Bool
  stays list t = not (is_or t) || term_eq (reduced_by list t) t

  -- the members that stay
  abbrev pub staying : List Term → List Term → List Term
  staying list [] = []
  staying list (t ∷ ts) = if stays list t then t ∷ staying list ts else staying list ts

  -- the reduced forms of those that do not
  abbrev pub moving : List Term → List Term → List Term
  moving list [] = []
  moving list (t ∷ ts) =
      if stays list t then moving list ts else reduced_by list t ∷ moving list ts

  -- what is known of a term that is an atom
  abbrev pub atom_known : List Term → Term → Option Bool
  atom_known list t = where_so (is_atom vars t) (known vars norm list t)

  -- what is known of a formula that negates this term, or negates none
  abbrev pub known_by : List Term → Term → Option Term → Option Bool
  known_by list g None = atom_known list g
  known_by list g (Some t) = option_map not (atom_known list t)

  -- what is known of an atom or a negated atom
  abbrev pub known_literal : List Term → Term → Option Bool
  known_literal list g = known_by list g (arg_of Not g)

  -- a list with the formula behind it; each `or` that reducing by it changes moves to the end of
  -- the agenda
  abbrev pub appended : List Term → Substitution → List Term → Stage
  appended agenda pairs list =
      stage_of (agenda ++ moving list list) pairs (staying list list)

  -- what becomes of the rest of an agenda where this normed formula is taken; none where it closes
  module _ (agenda : List Term) (pairs : Substitution) (list : List Term) (g : Term) where
    -- what is true is dropped, what is false closes
    abbrev pub truth_taken : Bool → Option Stage
    truth_taken true = Some (stage_of agenda pairs list)
    truth_taken false = None

    -- both sides of an `and` go to the front
    abbrev pub and_taken : Term → Term → Stage
    and_taken a b = stage_of (a ∷ b ∷ agenda) pairs list

    -- an `or` that reducing does not change is appended unless it is there
    abbrev pub unchanged_taken : Bool → Stage
    unchanged_taken true = stage_of agenda pairs list
    unchanged_taken false = stage_of agenda pairs (list ++ g ∷ [])

    -- an `or` is reduced; if that changes it, it goes to the front
    abbrev pub or_taken : Stage
    or_taken =
        if term_eq (reduced_by list g) g then unchanged_taken (contains g list)
        else stage_of (reduced_by list g ∷ agenda) pairs list

    -- a pair goes to the substitution, and all of the list to the front
    abbrev pub pair_taken : Pair → Stage
    pair_taken pair = stage_of (list ++ agenda) (pairs ++ pair ∷ []) []

    -- an atom or negated atom that is known goes as a truth; another is appended
    abbrev pub literal_taken : Option Bool → Option Stage
    literal_taken None = Some (appended agenda pairs (list ++ g ∷ []))
    literal_taken (Some p) = truth_taken p

    -- the case of the formula, the first that is there
    abbrev pub case_taken : Option (Option Stage)
    case_taken =
        option_or (option_map truth_taken (truth_of g))
        (option_or (with_two And g (λ a b. Some (Some (and_taken a b))))
        (option_or (with_two Or g (λ a b. Some (Some or_taken)))
        (option_map (λ pair. Some (pair_taken pair)) (pair_of g))))

    -- a normed formula taken
    abbrev pub normed_taken : Option Stage
    normed_taken = unwrap_or case_taken (literal_taken (known_literal list g))

  -- a formula taken from an agenda: it is normed under the substitution, and dropped where norm
  -- passes a limit on it
  abbrev pub taken_by : List Term → Substitution → List Term → Option Term → Option Stage
  taken_by agenda pairs list None = Some (stage_of agenda pairs list)
  taken_by agenda pairs list (Some g) = normed_taken agenda pairs list g

  -- a formula taken, with the rest of the agenda
  abbrev pub taken : Term → List Term → Substitution → List Term → Option Stage
  taken f agenda pairs list = taken_by agenda pairs list (norm (substituted pairs f))

  -- goes on with a stage
  abbrev pub and_on : Option Stage → (List Term → Substitution → List Term → Settled) → Settled
  and_on None go = Closed
  and_on (Some s) go = go s.agenda s.pairs s.list

  -- with so many members left to take, what an agenda makes of a substitution and a list; what is
  -- left on it then is dropped
  abbrev pub added_from : ℕ → List Term → Substitution → List Term → Settled
  added_from zero agenda pairs list = Open pairs list
  added_from (suc left) [] pairs list = Open pairs list
  added_from (suc left) (f ∷ agenda) pairs list =
      and_on (taken f agenda pairs list) (added_from left)

  -- a settled world with a formula added
  abbrev pub added : Settled → Term → Settled
  added Closed f = Closed
  added (Open pairs list) f = added_from max_members (f ∷ []) pairs list

  -- with formulas added in their order
  abbrev pub all_added : Settled → List Term → Settled
  all_added settled [] = settled
  all_added settled (f ∷ fs) = all_added (added settled f) fs

  -- formulas settled
  abbrev pub settled_of : List Term → Settled
  settled_of formulas = all_added unsettled formulas
