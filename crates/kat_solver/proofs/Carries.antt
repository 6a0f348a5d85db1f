-- What adding a formula carries from a world and the formula to the new world, for truth and for
-- types alike.
use Rattle.std.proofs.Common.{◌≡◌, ◌∙◌, ◌++◌, inl, inr, ℕ, zero, suc, Bool, true, false, List, [], ◌∷◌, Option, Some, None, refl, ap, subst, if◌then◌else◌}
use Rattle.std.specs.Prelude.{unwrap_or}
use Rattle.std.specs.Option.{option_map}
use Rattle.kat_value.specs.declared.op.Op.TheVariants.{And, Or}
use Rattle.kat_value.specs.declared.types.Ty.{Ty}
use Rattle.kat_term.specs.declared.term.Term.{Term}
use Rattle.kat_term.specs.Equality.{term_eq, TestsOperations}
use Rattle.kat_term.specs.Views.{two, truth, truth_of}
use Rattle.kat_norm.specs.declared.substitution.Pair.{Pair}
use Rattle.kat_norm.specs.Substitution.{Substitution, substituted}
use Rattle.kat_known.specs.Views.{with_two, contains}
use Rattle.kat_solver.specs.declared.add.Stage.{Stage}
use Rattle.kat_solver.specs.Pairs.{pair_of}
use Rattle.kat_solver.specs.declared.settled.Settled.{Settled}
use Rattle.kat_solver.specs.declared.settled.Settled.TheVariants.{Closed, Open}
use Rattle.kat_solver.specs.Add.{stage_of, max_members, reduced_by, stays, staying, moving, known_literal, truth_taken, unchanged_taken, or_taken, and_taken, pair_taken, literal_taken, case_taken, normed_taken, taken_by, taken, and_on, added_from, added, all_added, settled_of}
use Rattle.kat_solver.proofs.Lists.{Each, each_joined}
use Rattle.kat_solver.proofs.ViewLaws.{with_two_there, either_there, truth_there}

-- T holds of formulas, E of pairs, and C where a world closes
pub record Carrying (vars : List Ty) (norm : Term → Option Term) (T : Term → Type 0)
    (E : Pair → Type 0) (C : Type 0) : Type 0 where
  pub closes : T (truth false) → C
  pub parts : (a b : Term) → T (two And a b) → T a × T b
  pub pairs : (g : Term) → T g → (p : Pair) → pair_of g ≡ Some p → E p
  pub reduces : (list : List Term) → Each T list → (t : Term) → T t →
      T (reduced_by vars norm list t)
  pub refutes : (list : List Term) → Each T list → (g : Term) → T g →
      known_literal vars norm list g ≡ Some false → C
  pub norms : (pairs : Substitution) → Each E pairs → (f g : Term) →
      norm (substituted pairs f) ≡ Some g → T f → T g

module _ (operations : TestsOperations) (vars : List Ty) (norm : Term → Option Term)
    (T : Term → Type 0) (E : Pair → Type 0) (C : Type 0)
    (carrying : Carrying vars norm T E C) where
  abbrev pub HoldsIn : Settled → Type 0
  HoldsIn Closed = C
  HoldsIn (Open pairs list) = Each E pairs × Each T list

  abbrev HoldsAt : Option Stage → Type 0
  HoldsAt None = C
  HoldsAt (Some s) = Each T s.agenda × (Each E s.pairs × Each T s.list)

  staying_holds : (list : List Term) (ts : List Term) → Each T ts →
      Each T (staying vars norm list ts)
  staying_holds list [] holds = tt
  staying_holds list (t ∷ ts) holds =
      by (stays vars norm list t) (staying_holds list ts holds.1) where
        by : (b : Bool) → Each T (staying vars norm list ts) →
            Each T (if b then t ∷ staying vars norm list ts else staying vars norm list ts)
        by true more = (holds.0, more)
        by false more = more

  moving_holds : (list : List Term) → Each T list → (ts : List Term) → Each T ts →
      Each T (moving vars norm list ts)
  moving_holds list all [] holds = tt
  moving_holds list all (t ∷ ts) holds =
      by (stays vars norm list t) (moving_holds list all ts holds.1) where
        by : (b : Bool) → Each T (moving vars norm list ts) →
            Each T (if b then moving vars norm list ts else reduced_by vars norm list t ∷ moving vars
            norm list ts)
        by true more = more
        by false more = (carrying.reduces list all t holds.0, more)

  module _ (agenda : List Term) (pairs : Substitution) (list : List Term) (g : Term)
      (agenda_holds : Each T agenda) (equal : Each E pairs) (holds : Each T list) (is : T g) where
    with_g : Each T (list ++ g ∷ [])
    with_g = each_joined T list (g ∷ []) holds (is, tt)

    truth_holds : (p : Bool) → (p ≡ false → C) →
        HoldsAt (truth_taken vars norm agenda pairs list g p)
    truth_holds true closes = (agenda_holds, (equal, holds))
    truth_holds false closes = closes refl

    or_holds : HoldsAt (Some (or_taken vars norm agenda pairs list g))
    or_holds = by (term_eq (reduced_by vars norm list g) g) (contains g list) where
      by : (b c : Bool) →
          HoldsAt (Some (if b then unchanged_taken vars norm agenda pairs list g c else stage_of
          (reduced_by vars norm list g ∷ agenda) pairs list))
      by true true = (agenda_holds, (equal, holds))
      by true false = (agenda_holds, (equal, with_g))
      by false c = ((carrying.reduces list holds g is, agenda_holds), (equal, holds))

    literal_holds : (o : Option Bool) → known_literal vars norm list g ≡ o →
        HoldsAt (literal_taken vars norm agenda pairs list g o)
    literal_holds None e =
        let whole = list ++ g ∷ [] in (
          each_joined T agenda (moving vars norm whole whole) agenda_holds
              (moving_holds whole with_g whole with_g),
          (equal, staying_holds whole whole with_g),
        )
    literal_holds (Some p) e = truth_holds p
        (λ is_false. carrying.refutes list holds g is (e ∙ ap Some is_false))

    truth_case : (next : Option Stage) (o : Option Bool) → truth_of g ≡ o →
        option_map (truth_taken vars norm agenda pairs list g) o ≡ Some next → HoldsAt next
    truth_case next None at h = cc
    truth_case next (Some p) at h =
        let same : truth_taken vars norm agenda pairs list g p ≡ next = cc in
        subst HoldsAt same (truth_holds p
        (λ is_false. carrying.closes (subst T (truth_there g p at ∙ ap truth is_false) is)))

    pair_case : (next : Option Stage) (o : Option Pair) → pair_of g ≡ o →
        option_map (λ pair. Some (pair_taken vars norm agenda pairs list g pair)) o ≡ Some next →
        HoldsAt next
    pair_case next None at h = cc
    pair_case next (Some p) at h =
        let same : Some (pair_taken vars norm agenda pairs list g p) ≡ next = cc in
        subst HoldsAt same (
          each_joined T list agenda holds agenda_holds,
          (each_joined E pairs (p ∷ []) equal (carrying.pairs g is p at, tt), tt),
        )

    there : (next : Option Stage) → case_taken vars norm agenda pairs list g ≡ Some next →
        HoldsAt next
    there next e =
        elim (either_there (option_map (truth_taken vars norm agenda pairs list g) (truth_of g)) _
        next e) [
          | inl h ↦ truth_case next (truth_of g) refl h
          | inr e ↦ elim (either_there (with_two And g
              (λ a b. Some (Some (and_taken vars norm agenda pairs list g a b)))) _ next e) [
                | inl h ↦
                    let at = with_two_there operations And g _ next h in
                    let both = carrying.parts at.a at.b (subst T at.is is) in
                    let same : Some (and_taken vars norm agenda pairs list g at.a at.b) ≡ next = let k =
                    at.gives in cc in
                    subst HoldsAt same ((both.0, (both.1, agenda_holds)), (equal, holds))
                | inr e ↦ elim (either_there (with_two Or g
                    (λ a b. Some (Some (or_taken vars norm agenda pairs list g)))) _ next e) [
                      | inl h ↦
                          let at = with_two_there operations Or g _ next h in
                          let same : Some (or_taken vars norm agenda pairs list g) ≡ next = let k =
                          at.gives in cc in
                          subst HoldsAt same or_holds
                      | inr h ↦ pair_case next (pair_of g) refl h
                    ]
              ]
        ]

    normed_holds : HoldsAt (normed_taken vars norm agenda pairs list g)
    normed_holds = whole (case_taken vars norm agenda pairs list g) refl where
      whole : (o : Option (Option Stage)) → case_taken vars norm agenda pairs list g ≡ o →
          HoldsAt (unwrap_or o (literal_taken vars norm agenda pairs list g
          (known_literal vars norm list g)))
      whole None e = literal_holds (known_literal vars norm list g) refl
      whole (Some next) e = there next e

  from_holds : (left : ℕ) (agenda : List Term) (pairs : Substitution) (list : List Term) →
      Each T agenda → Each E pairs → Each T list →
      HoldsIn (added_from vars norm left agenda pairs list)
  from_holds zero agenda pairs list agenda_holds equal holds = (equal, holds)
  from_holds (suc left) [] pairs list agenda_holds equal holds = (equal, holds)
  from_holds (suc left) (f ∷ agenda) pairs list agenda_holds equal holds =
      onward (from_holds left) (taken vars norm f agenda pairs list)
      (taken_holds (norm (substituted pairs f)) refl) where
        taken_holds : (o : Option Term) → norm (substituted pairs f) ≡ o →
            HoldsAt (taken_by vars norm agenda pairs list o)
        taken_holds None e = (agenda_holds.1, (equal, holds))
        taken_holds (Some g) e =
            normed_holds agenda pairs list g agenda_holds.1 equal holds
            (carrying.norms pairs equal f g e agenda_holds.0)

        onward : ((a : List Term) (p : Substitution) (l : List Term) → Each T a → Each E p →
            Each T l → HoldsIn (added_from vars norm left a p l)) →
            (next : Option Stage) → HoldsAt next →
            HoldsIn (and_on vars norm next (added_from vars norm left))
        onward go None is = is
        onward go (Some s) is = go s.agenda s.pairs s.list is.0 is.1.0 is.1.1

  -- what holds in a world and of a formula holds in the world with the formula added
  pub added_holds : (world : Settled) (f : Term) → HoldsIn world → T f →
      HoldsIn (added vars norm world f)
  added_holds Closed f is holds = is
  added_holds (Open pairs list) f is holds =
      from_holds max_members (f ∷ []) pairs list (holds, tt) is.0 is.1

  all_added_hold : (world : Settled) (fs : List Term) → HoldsIn world → Each T fs →
      HoldsIn (all_added vars norm world fs)
  all_added_hold world [] is holds = is
  all_added_hold world (f ∷ fs) is holds =
      all_added_hold (added vars norm world f) fs (added_holds world f is holds.0) holds.1

  pub settled_holds : (formulas : List Term) → Each T formulas →
      HoldsIn (settled_of vars norm formulas)
  settled_holds formulas holds = all_added_hold (Open [] []) formulas (tt, tt) holds
