-- A goal that is proved is true under every valuation that fits, and a residue has its value.
use Rattle.std.proofs.Common.{◌≡◌, ◌∙◌, ◌++◌, inl, inr, ℕ, zero, suc, Bool, true, false, List, [], ◌∷◌, Option, Some, None, refl, ap, sym, subst, if◌then◌else◌}
use Rattle.std.specs.Prelude.{not, is_some, option_and_then, unwrap_or}
use Rattle.std.proofs.lemmas.Bool.{true≢false, and_parts}
use Rattle.kat_value.specs.declared.op.Op.TheVariants.{Not, And, Or, Ite}
use Rattle.kat_value.specs.declared.types.Ty.{Ty}
use Rattle.kat_value.specs.declared.types.TypeDecl.{TypeDecl}
use Rattle.kat_value.specs.declared.value.Value.{Value}
use Rattle.kat_value.specs.declared.value.Value.TheVariants.{Bool as Truth}
use Rattle.kat_term.specs.declared.term.Term.{Term}
use Rattle.kat_term.specs.declared.term.Term.TheViews.{out-Term}
use Rattle.kat_term.specs.Parts.{ValuesByParts}
use Rattle.kat_term.specs.Types.{IsValuation}
use Rattle.kat_term.specs.Values.{Valuation, IsKept, value_of}
use Rattle.kat_term.specs.Views.{one, two, truth_of}
use Rattle.kat_term.specs.Worlds.{IsTrueUnder, AreTrueUnder}
use Rattle.kat_rules.specs.Values.{OperationValues}
use Rattle.kat_rules.specs.Widths.{is_bool}
use Rattle.kat_norm.specs.Substitution.{Substitution, substituted}
use Rattle.kat_known.specs.First.{first_where}
use Rattle.kat_known.specs.Kept.{IsAtMost}
use Rattle.kat_known.specs.Known.{known, known_atom}
use Rattle.kat_known.specs.Normal.{norm_in}
use Rattle.kat_known.specs.Views.{with_two, is_joint, is_atom}
use Rattle.kat_solver.specs.Add.{is_or, reduced_by, settled_of}
use Rattle.kat_solver.specs.Left.{answer_by, answer_of, left_in, left_by}
use Rattle.kat_solver.specs.Means.{AnswerMeans}
use Rattle.kat_solver.specs.Prove.{first_of_list, Asked, ask, Next, No, More, max_askings, max_splits, condition_of, is_ite, is_open, atom_of_ite, atom_by, split_atom, cases_of, split_at, if_true, both_sides, other_side, case_next, goal_next, next_by, strictly_reduced_by, next_of, and_more, all_proved, is_proved}
use Rattle.kat_solver.specs.Settled.{FitsSettled}
use Rattle.kat_solver.specs.declared.settled.Settled.{Settled}
use Rattle.kat_solver.specs.declared.settled.Settled.TheVariants.{Closed, Open}
use Rattle.kat_solver.proofs.AddKeeps.{keeps, atoms_keep, reduced_by_kept, normal_kept, added_fits, settled_fits}
use Rattle.kat_solver.specs.Below.{Below}
use Rattle.kat_solver.proofs.Lists.{Each, each_before}
use Rattle.kat_solver.proofs.Truths.{first_of_three, and_holds, or_holds, truth_holds}
use Rattle.kat_solver.proofs.ViewLaws.{with_two_there, three_there, either_there}

module _ (below : Below) (types : List TypeDecl) (vars : List Ty) (v : Valuation)
    (fits : IsValuation types vars v) where
  abbrev parts : ValuesByParts types v
  parts = below.parts.0 types v

  abbrev values : OperationValues types v
  values = below.values types v

  abbrev norm : Term → Option Term
  norm = norm_in vars

  -- a goal is at most true where its world is fitted
  abbrev pub GoalHolds : Asked → Type 0
  GoalHolds asked = FitsSettled types v asked.world → IsAtMost types v asked.goal true

  -- a goal is at most what its normal or reduced form is
  kept_most : (g h : Term) → IsKept (value_of types v g) (value_of types v h) →
      IsAtMost types v h true → IsAtMost types v g true
  kept_most g h kept most x has = most x (kept x has)

  most_at : (g h : Term) → g ≡ h → IsAtMost types v h true → IsAtMost types v g true
  most_at g h is most = subst (λ t. IsAtMost types v t true) (sym is) most

  -- the atom of a split has a truth
  abbrev IsDecided : Term → Type 0
  IsDecided a = (q : Bool) × (value_of types v a ≡ Some (Truth q))

  abbrev HasValue : Term → Type 0
  HasValue t = (x : Value) × (value_of types v t ≡ Some x)

  atom_decided : (a : Term) → is_atom vars a ≡ true → HasValue a → IsDecided a
  atom_decided a is has =
      let told = below.told types vars v fits a has.0 has.1
      (and_parts (is_bool vars a) (not (is_joint (out-Term a))) is).0 in
      (told.0, has.1 ∙ ap Some told.1)

  in_list : (test : Term → Bool) (list : List Term) (t : Term) → first_of_list test list ≡ Some t →
      AreTrueUnder types v list → IsTrueUnder types v t
  in_list test [] t e holds = cc
  in_list test (u ∷ us) t e holds = by (λ h. in_list test us t h holds.1) (test u) e where
    by : (first_of_list test us ≡ Some t → IsTrueUnder types v t) → (b : Bool) →
        (if b then Some u else first_of_list test us) ≡ Some t → IsTrueUnder types v t
    by go true h = let same : u ≡ t = cc in subst (IsTrueUnder types v) same holds.0
    by go false h = go h

  ite_decided : (list : List Term) (g a : Term) → atom_of_ite vars norm list g ≡ Some a →
      HasValue g → IsDecided a
  ite_decided list g a e has = by (first_where is_ite g) refl e where
    at_condition : (ite : Term) → HasValue ite → (o : Option Term) → condition_of ite ≡ o →
        option_and_then (first_where (is_open vars norm list)) o ≡ Some a → IsDecided a
    at_condition ite ite_has None is h = cc
    at_condition ite ite_has (Some c) is h =
        let at = three_there below.operations Ite ite c is in
        let c_has = first_of_three types v parts values Ite c at.b at.c ite_has.0
        (ap (value_of types v) (sym at.is) ∙ ite_has.1) in
        let found = below.found types v (is_open vars norm list) c a c_has.0 h c_has.1 in
        atom_decided a (and_parts (is_atom vars a)
        (not (is_some (known vars norm list a))) found.0).0 found.1

    by : (o : Option Term) → first_where is_ite g ≡ o →
        option_and_then (λ ite. option_and_then (first_where (is_open vars norm list))
        (condition_of ite)) o ≡ Some a → IsDecided a
    by None is h = cc
    by (Some ite) is h = at_condition ite (below.found types v is_ite g ite has.0 is has.1).1
        (condition_of ite) refl h

  split_decided : (list : List Term) (g a : Term) → AreTrueUnder types v list →
      split_atom vars norm list g ≡ Some a → HasValue g → IsDecided a
  split_decided list g a holds e has = by (first_of_list is_or list) refl e where
    by : (o : Option Term) → first_of_list is_or list ≡ o → atom_by vars norm list g o ≡ Some a →
        IsDecided a
    by None is h = ite_decided list g a h has
    by (Some formula) is h =
        let found = below.found types v (is_atom vars) formula a (Truth true) h
        (in_list is_or list formula is holds) in
        atom_decided a found.0 found.1

  split_holds : (world : Settled) (g : Term) (splits : ℕ) (o : Option Term) →
      FitsSettled types v world → ((a : Term) → o ≡ Some a → HasValue g → IsDecided a) →
      (goals : List Asked) (rest : ℕ) → split_at vars norm world g splits o ≡ More goals rest →
      Each GoalHolds goals → IsAtMost types v g true
  split_holds world g splits None is decided goals rest e each = cc
  split_holds world g zero (Some atom) is decided goals rest e each = cc
  split_holds world g (suc splits) (Some atom) is decided goals rest e each =
      let same : cases_of vars norm world g atom ≡ goals = cc in
      let both : Each GoalHolds (cases_of vars norm world g atom) =
      subst (Each GoalHolds) (sym same) each in
      λ x has. by both x has (decided atom refl (x, has)).0 (decided atom refl (x, has)).1 where
        by : Each GoalHolds (cases_of vars norm world g atom) → (x : Value) →
            value_of types v g ≡ Some x →
            (q : Bool) → value_of types v atom ≡ Some (Truth q) → Some (Truth true) ≡ Some x
        by both x has true at = both.0 (added_fits below types vars v fits world atom is at) x has
        by both x has false at = both.1.0
            (added_fits below types vars v fits world (one Not atom) is
            (values.negated atom false at)) x has

  module _ (pairs : Substitution) (list : List Term)
      (is : FitsSettled types v (Open pairs list)) where
    abbrev world : Settled
    world = Open pairs list

    true_case : (splits : ℕ) (g : Term) (goals : List Asked) (rest : ℕ) (o : Option Bool) →
        truth_of g ≡ o →
        option_and_then (if_true splits) o ≡ Some (More goals rest) → IsAtMost types v g true
    true_case splits g goals rest None at h = cc
    true_case splits g goals rest (Some true) at h = truth_holds types v parts values g at
    true_case splits g goals rest (Some false) at h = cc

    case_holds : (splits : ℕ) (g : Term) (goals : List Asked) (rest : ℕ) →
        case_next vars norm world splits g ≡ Some (More goals rest) →
        Each GoalHolds goals → IsAtMost types v g true
    case_holds splits g goals rest e each =
        elim (either_there (option_and_then (if_true splits) (truth_of g)) _ (More goals rest) e) [
          | inl h ↦ true_case splits g goals rest (truth_of g) refl h
          | inr e ↦ elim (either_there (with_two And g
              (λ a b. Some (More (both_sides world a b) splits))) _ (More goals rest) e) [
                | inl h ↦
                    let at = with_two_there below.operations And g _ (More goals rest) h in
                    let same : both_sides world at.a at.b ≡ goals = let k = at.gives in cc in
                    let both : Each GoalHolds (both_sides world at.a at.b) =
                    subst (Each GoalHolds) (sym same) each in
                    most_at g (two And at.a at.b) at.is
                    (and_holds types v parts values at.a at.b (both.0 is) (both.1.0 is))
                | inr h ↦
                    let at = with_two_there below.operations Or g _ (More goals rest) h in
                    let same : other_side vars norm world at.a at.b ≡ goals = let k = at.gives in cc in
                    let only : Each GoalHolds (other_side vars norm world at.a at.b) =
                    subst (Each GoalHolds) (sym same) each in
                    most_at g (two Or at.a at.b) at.is
                    (or_holds types v parts values at.a at.b
                    (λ is_not. only.0 (added_fits below types vars v fits world
                    (one Not at.a) is is_not)))
              ]
        ]

    goal_holds : (splits : ℕ) (g : Term) (goals : List Asked) (rest : ℕ) →
        goal_next vars norm world splits g ≡ More goals rest →
        Each GoalHolds goals → IsAtMost types v g true
    goal_holds splits g goals rest e each = whole (case_next vars norm world splits g) refl e where
      whole : (o : Option Next) → case_next vars norm world splits g ≡ o →
          unwrap_or o (split_at vars norm world g splits (split_atom vars norm list g))
          ≡ More goals rest → IsAtMost types v g true
      whole None o e = split_holds world g splits (split_atom vars norm list g) is
          (λ a h has. split_decided list g a is.1 h has) goals rest e each
      whole (Some next) o e = case_holds splits g goals rest (o ∙ ap Some e) each

    reduced_holds : (splits : ℕ) (goal : Term) (goals : List Asked) (rest : ℕ) →
        next_of vars norm world goal splits ≡ More goals rest →
        Each GoalHolds goals → IsAtMost types v goal true
    reduced_holds splits goal goals rest e each = by (norm (substituted pairs goal)) refl e where
      inner : (n : Term) → norm (substituted pairs goal) ≡ Some n → (o : Option Term) →
          strictly_reduced_by vars norm list n ≡ o →
          next_by vars norm world splits o ≡ More goals rest → IsAtMost types v goal true
      inner n is_n None at h = cc
      inner n is_n (Some g) at h = λ x has.
          goal_holds splits g goals rest h each x
          (below.strict_values types v (known_atom vars norm list) norm
          (atoms_keep below types vars v fits list is.1)
          (keeps below types vars v fits) n g at x
          (normal_kept below types vars v fits pairs is.0 goal n is_n x has))

      by : (o : Option Term) → norm (substituted pairs goal) ≡ o →
          next_by vars norm world splits (option_and_then (strictly_reduced_by vars norm list) o)
          ≡ More goals rest → IsAtMost types v goal true
      by None is_n h = cc
      by (Some n) is_n h = inner n is_n (strictly_reduced_by vars norm list n) refl h

  next_holds : (world : Settled) (goal : Term) (splits : ℕ) (goals : List Asked) (rest : ℕ) →
      next_of vars norm world goal splits ≡ More goals rest →
      Each GoalHolds goals → GoalHolds (ask world goal)
  next_holds Closed goal splits goals rest e each is = absurd is
  next_holds (Open pairs list) goal splits goals rest e each is =
      reduced_holds pairs list is splits goal goals rest e each

  -- all goals hold that are proved
  all_hold : (left splits : ℕ) (goals : List Asked) →
      all_proved vars norm left splits goals ≡ true → Each GoalHolds goals
  all_hold zero splits [] e = tt
  all_hold zero splits (asked ∷ others) e = absurd (true≢false (sym e))
  all_hold (suc left) splits [] e = tt
  all_hold (suc left) splits (asked ∷ others) e =
      by (all_hold left) (next_of vars norm asked.world asked.goal splits) refl e where
        by : ((splits : ℕ) (goals : List Asked) → all_proved vars norm left splits goals ≡ true →
            Each GoalHolds goals) →
            (next : Next) → next_of vars norm asked.world asked.goal splits ≡ next →
            and_more vars norm next (all_proved vars norm left) others ≡ true →
            Each GoalHolds (asked ∷ others)
        by go No is h = absurd (true≢false (sym h))
        by go (More goals rest) is h =
            let both = each_before GoalHolds goals others (go rest (goals ++ others) h) in
            (next_holds asked.world asked.goal splits goals rest is both.0, both.1)

  proved_holds : (world : Settled) (goal : Term) → is_proved vars norm world goal ≡ true →
      FitsSettled types v world → IsAtMost types v goal true
  proved_holds world goal e = (all_hold max_askings max_splits (ask world goal ∷ []) e).0

  answer_holds : (pairs : Substitution) (list : List Term) (goal : Term) →
      FitsSettled types v (Open pairs list) →
      (o : Option Term) → norm (substituted pairs goal) ≡ o →
      AnswerMeans types v goal (answer_of vars norm pairs list goal o)
  answer_holds pairs list goal is None e = λ x has. has
  answer_holds pairs list goal is (Some n) e =
      by (is_proved vars norm (Open pairs list) (reduced_by vars norm list n)) refl where
        kept : IsKept (value_of types v goal) (value_of types v (reduced_by vars norm list n))
        kept x has = reduced_by_kept below types vars v fits list is.1 n x
            (normal_kept below types vars v fits pairs is.0 goal n e x has)

        by : (b : Bool) → is_proved vars norm (Open pairs list) (reduced_by vars norm list n) ≡ b →
            AnswerMeans types v goal (answer_by b (reduced_by vars norm list n))
        by true h = kept_most goal (reduced_by vars norm list n) kept
            (proved_holds (Open pairs list) (reduced_by vars norm list n) h is)
        by false h = kept

  in_holds : (world : Settled) (goal : Term) → FitsSettled types v world →
      AnswerMeans types v goal (left_in vars norm world goal)
  in_holds Closed goal is = is
  in_holds (Open pairs list) goal is =
      answer_holds pairs list goal is (norm (substituted pairs goal)) refl

  -- an answer means what it says of a valuation that makes the formulas true
  pub left_means : (formulas : List Term) (goal : Term) → AreTrueUnder types v formulas →
      AnswerMeans types v goal (left_by vars norm formulas goal)
  left_means formulas goal holds =
      in_holds (settled_of vars norm formulas) goal
      (settled_fits below types vars v fits formulas holds)
