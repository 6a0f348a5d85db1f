-- The laws of moves. Each has a forward form: a move from a walk that stands for what is owned
-- comes to a walk that stands for what is then owned, from whose jobs those before follow. It is
-- stated of production, consumption and the outside writes alone: of opening and of closing a
-- predicate, and of taking and of putting one chunk, it is not. The backward rule is one for all of
-- them. `JobsAreMetBackwards` is proved; the others are statements, to come.
use Rattle.std.specs.Prelude.{◌≡◌, ◌≤◌, ◌++◌, ℕ, Option, None, Some, slice_get}
use Rattle.std.specs.List.{AllByRecursion}
use Rattle.kat_ast.specs.Spec.{Spec}
use Rattle.kat_ast.specs.declared.assertion.Assertion.{Assertion}
use Rattle.kat_syntax.specs.FirstTypeFault.{IsTyped}
use Rattle.kat_syntax.specs.Fragments.{Fragment, Join}
use Rattle.kat_syntax.specs.Holds.{Holds}
use Rattle.kat_term.specs.Provers.{AnswersHold, LimitsOfNorm, NormKeeps, ResiduesAreFormulas}
use Rattle.kat_term.specs.Values.{Valuation}
use Rattle.kat_term.specs.declared.term.Term.{Term}
use Rattle.kat_heap.specs.declared.mode.Mode.{Mode}
use Rattle.kat_heap.specs.Asking.{Answers}
use Rattle.kat_heap.specs.Consuming.{consume}
use Rattle.kat_heap.specs.Havoc.{havoc}
use Rattle.kat_heap.specs.Met.{IsWrittenOver, Met, MetAt, MetConsume, read_in}
use Rattle.kat_heap.specs.Producing.{produce}
use Rattle.kat_heap.specs.Stands.{StandsFor, map_reading, point_at, value_at}
use Rattle.kat_heap.specs.Typed.{IsReadingOf, IsWalkOf}
use Rattle.kat_heap.specs.Walks.{Moved, Choose, Closed, Ended, Limit, On, Owed, Point, Reading, Taken, Goes, Past, Pruned, Shut, Walk}

-- a prover whose answers are sound
pub record AreSound (answers : Answers) : Type 0 where
  pub limits : LimitsOfNorm answers.normal
  pub keeps : NormKeeps answers.normal
  pub holds : AnswersHold answers.left
  pub residues : ResiduesAreFormulas answers.normal answers.left

-- an option does not stop, and the walk that it leads to, if any, is so
abbrev pub LeadsBy : (Walk → Type 0) → Taken → Type 0
LeadsBy P Pruned = Unit {0}
LeadsBy P Shut = Unit {0}
LeadsBy P (Goes w) = P w
LeadsBy P (Past kind) = ⊥

-- a move does not stop, and every walk that it leads to is so
abbrev pub Leads : Moved → (Walk → Type 0) → Type 0
Leads Ended P = Unit {0}
Leads (On w) P = P w
Leads Closed P = Unit {0}
Leads (Choose options) P = AllByRecursion (LeadsBy P) options
Leads (Owed world residue) P = ⊥
Leads (Limit kind) P = ⊥

-- an option is there, is neither pruned nor closes, and its walk is so; of one at a limit nothing
-- is said
abbrev pub ComesBy : (Walk → Type 0) → Option Taken → Type 0
ComesBy P None = ⊥
ComesBy P (Some Pruned) = ⊥
ComesBy P (Some Shut) = ⊥
ComesBy P (Some (Goes w)) = P w
ComesBy P (Some (Past kind)) = Unit {0}

-- a move does not close, and some walk that it leads to is so; nothing is said where it stops
abbrev pub Comes : Moved → (Walk → Type 0) → Type 0
Comes Ended P = ⊥
Comes (On w) P = P w
Comes Closed P = ⊥
Comes (Choose options) P = (k : ℕ) × ComesBy P (slice_get options k)
Comes (Owed world residue) P = Unit {0}
Comes (Limit kind) P = Unit {0}

-- a valuation with more variables
abbrev pub Extends : Valuation → Valuation → Type 0
Extends ρ more = (fresh : Valuation) × (more ≡ ρ ++ fresh)

module _ (spec : Spec) (n : ℕ) (ρ : Valuation) where
  -- under every extension of the valuation, and with at most n calls left, the jobs of a walk are
  -- met at each fragment that it stands for
  abbrev pub IsMetUnder : Walk → Type 0
  IsMetUnder w =
      (k : ℕ) → k ≤ n → (more : Valuation) → Extends ρ more → (q : Fragment) →
      StandsFor spec.decls w more q → MetAt spec (point_at spec.decls more w.point) q k

  -- a walk goes on from where another stood: it stands for a fragment under an extension, and where
  -- its jobs are met there with at most n calls, what was asked before is met
  pub record Continues (Before : Type 0) (w : Walk) : Type 0 where
    pub more : Valuation
    pub extends : Extends ρ more
    pub owned : Fragment
    pub stands : StandsFor spec.decls w more owned
    pub back :
        ((k : ℕ) → k ≤ n → MetAt spec (point_at spec.decls more w.point) owned k) → Before

-- the backward rule of every move: where the jobs of each walk that it leads to are met, and it
-- comes to one from which the jobs before follow, those are met
abbrev pub JobsAreMetBackwards : Type 0
JobsAreMetBackwards =
    (spec : Spec) (n : ℕ) (ρ : Valuation) (before : Point Term) (p : Fragment) (moved : Moved) →
    Leads moved (IsMetUnder spec n ρ) →
    Comes moved
    (Continues spec n ρ (MetAt spec (point_at spec.decls ρ before) p n)) →
    MetAt spec (point_at spec.decls ρ before) p n

-- to produce: where the walk stands for p, and a disjoint fragment holds the assertion, the move
-- does not close, and comes to a walk from whose jobs those before follow at both together
abbrev pub ProducesForward : Type 0
ProducesForward =
    (answers : Answers) → AreSound answers → (spec : Spec) → IsTyped spec →
    (mode : Mode) (reading : Reading Term) (assertion : Assertion) (w : Walk) (ρ : Valuation)
    (p f q : Fragment) (n : ℕ) →
    IsWalkOf spec.decls w → IsReadingOf spec.decls w.world.vars reading →
    StandsFor spec.decls w ρ p → Join q p f →
    Holds assertion (read_in spec.decls (map_reading (value_at spec.decls ρ) reading)
    (point_at spec.decls ρ w.point).names) f →
    Comes (produce answers spec.decls mode reading assertion w)
    (Continues spec n ρ (MetAt spec (point_at spec.decls ρ w.point) q n))

-- to consume: where the walk stands for p, the move does not close, and comes to a walk from whose
-- jobs it follows that p has a part that holds the assertion, and that the jobs before are met at
-- the other part
abbrev pub ConsumesForward : Type 0
ConsumesForward =
    (answers : Answers) → AreSound answers → (spec : Spec) → IsTyped spec →
    (reading : Reading Term) (assertion : Assertion) (w : Walk) (ρ : Valuation) (p : Fragment)
    (n : ℕ) →
    IsWalkOf spec.decls w → IsReadingOf spec.decls w.world.vars reading →
    StandsFor spec.decls w ρ p →
    Comes (consume answers spec.decls reading assertion w)
    (Continues spec n ρ
    (MetConsume spec (map_reading (value_at spec.decls ρ) reading) assertion
    (Met spec (point_at spec.decls ρ w.point).jobs)
    (point_at spec.decls ρ w.point).names (point_at spec.decls ρ w.point).last p n))

-- the outside writes: where the walk stands for p, and q has any fitting values in its outside
-- places, the move comes to a walk from whose jobs those before follow at q
abbrev pub WritesForward : Type 0
WritesForward =
    (answers : Answers) → AreSound answers → (spec : Spec) → IsTyped spec →
    (w : Walk) (ρ : Valuation) (p q : Fragment) (n : ℕ) →
    IsWalkOf spec.decls w → StandsFor spec.decls w ρ p → IsWrittenOver spec.decls p q →
    Comes (havoc answers spec.decls w)
    (Continues spec n ρ (MetAt spec (point_at spec.decls ρ w.point) q n))
