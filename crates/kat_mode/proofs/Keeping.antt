-- Where the modes read an assertion, each name that it uses is bound.
use Rattle.std.proofs.Common.{◌≡◌, ℕ, zero, suc, ◌||◌, ◌&&◌, Bool, true, false, not, if◌then◌else◌, List, [], ◌∷◌, ◌++◌, filter, map, take, drop, Option, None, Some, refl, sym, ap, subst, ◌∙◌}
use Rattle.std.specs.List.{AllByRecursion, drop-map}
use Rattle.std.specs.Option.{option_map}
use Rattle.std.specs.Str.{bytes_eq}
use Rattle.std.proofs.lemmas.Bool.{and_parts}
use Rattle.std.proofs.lemmas.Slice.Eq.{bytes_eq-Decides}
use Rattle.kat_ast.specs.declared.expr.Expr.{Expr}
use Rattle.kat_ast.specs.declared.assertion.Assertion.{Assertion}
use Rattle.kat_ast.specs.declared.assertion.Assertion.TheOpen.{Assertion-F, Pure, Register, Cell, Star, If, Exists, Predicate, Region}
use Rattle.kat_ast.specs.declared.assertion.Assertion.TheViews.{roll-Assertion}
use Rattle.kat_ast.specs.declared.assertion.Assertion.TheFolds.{map-Assertion, fold-roll-Assertion, fold_out-Assertion, ind-Assertion}
use Rattle.kat_syntax.specs.Tables.{Name}
use Rattle.kat_syntax.specs.Modes.{Used, used_in, names_of_parts, equating, is_in, without, first_in, Reading, Read, Stopped, Reader, and_read, unless_stopped, read_names, read_alone, read_value, read_equation, read_truth, read_values, read_args, read_all, join_branch, read_branches, leave, assertion_read, reading_of, leave_all, read_binding}
use Rattle.kat_mode.specs.Paths.{BoundNames, with_name, Paths, Uses, AreBound, Course, uses, binds_or_uses, value_course, truth_course, in_order, args_course, branches, assertion_course, course_of, CourseByLayers, AreAllBut, KeepsBound, ReadingKeepsBound, BindsAll}
use Rattle.kat_mode.specs.Scopes.{are_in, all_stay, layer_stays, stays_in, StaysIn}
use Rattle.kat_mode.proofs.Turning.{in_filtered}
use Rattle.kat_mode.proofs.UsedNames.{IsAlone, IsEquation, alone_in, equates_in}

-- names that are bound before are so behind
abbrev Narrows : List Name → List Name → Type 0
Narrows unbound behind = (x : Name) → is_in unbound x ≡ false → is_in behind x ≡ false

-- truths
neither : (a b : Bool) → (a || b) ≡ false → (a ≡ false) × (b ≡ false)
neither true b e = absurd (cc)
neither false b e = (refl, e)

by_left : (a b : Bool) → a ≡ false → (a && b) ≡ false
by_left true b e = absurd (cc)
by_left false b e = refl

by_right : (a b : Bool) → b ≡ true → (a && b) ≡ false → a ≡ false
by_right true true is e = e
by_right true false is e = absurd (cc)
by_right false b is e = refl

first_out : (a b c : Bool) → (a ≡ false → b ≡ false) → (a && (b || c)) ≡ false → b ≡ false
first_out true true c narrows e = e
first_out true false c narrows e = refl
first_out false b c narrows e = narrows refl

second_out : (a b c : Bool) → (a ≡ false → c ≡ false) → (a && (b || c)) ≡ false → c ≡ false
second_out true true c narrows e = absurd (cc)
second_out true false c narrows e = e
second_out false b c narrows e = narrows refl

is_false : (a : Bool) → (a ≡ true → (true ≡ false)) → a ≡ false
is_false true differs = differs refl
is_false false differs = refl

not_so : (a : Bool) → not a ≡ true → a ≡ false
not_so true e = absurd (cc)
not_so false e = refl

either_is : (P : Type 0) (a : Bool) → (a ≡ true → P) → (a ≡ false → P) → P
either_is P true first second = first refl
either_is P false first second = second refl

chosen : (c : Bool) (p q : Paths) → (c ≡ true → AreBound p) → (c ≡ false → AreBound q) → AreBound (if c then p else q)
chosen true p q first second = first refl
chosen false p q first second = second refl

if_not : (c b d : Bool) → c ≡ false → d ≡ true → (if c then b else d) ≡ true
if_not true b d e is = absurd (cc)
if_not false b d e is = is

if_or : (c d : Bool) → (c ≡ false → d ≡ true) → (if c then true else d) ≡ true
if_or true d is = refl
if_or false d is = is refl

-- names
pub same_name : (x y : Name) → bytes_eq x y ≡ true → x ≡ y
same_name x y e = (bytes_eq-Decides x y).0 e

same_as : (x : Name) → bytes_eq x x ≡ true
same_as x = (bytes_eq-Decides x x).1 refl

other_way : (x y : Name) → bytes_eq y x ≡ false → bytes_eq x y ≡ false
other_way x y e =
    is_false (bytes_eq x y) (λ same. sym ((bytes_eq-Decides y x).1 (sym (same_name x y same))) ∙ e)

still_in : (x y : Name) (unbound : List Name) → bytes_eq y x ≡ false → is_in (without x unbound) y ≡ false → is_in unbound y ≡ false
still_in x y unbound other e =
    by_right (is_in unbound y) (not (bytes_eq x y)) (ap not (other_way x y other))
    (sym (in_filtered (λ z. not (bytes_eq x z)) unbound y) ∙ e)

filtered_out : (test : Name → Bool) (unbound : List Name) → Narrows unbound (filter test unbound)
filtered_out test unbound x e =
    in_filtered test unbound x ∙ by_left (is_in unbound x) (test x) e

-- the names that are unbound behind a reading
abbrev unbound_in : Reading → List Name
unbound_in (Read unbound) = unbound
unbound_in (Stopped name) = []

-- readings that go on
read_one : (unbound behind : List Name) → Read unbound ≡ Read behind → unbound ≡ behind
read_one unbound behind e = ap unbound_in e

went_on : (stop : Option Name) (reading : Reading) (behind : List Name) → unless_stopped stop reading ≡ Read behind → (stop ≡ None) × (reading ≡ Read behind)
went_on None reading behind e = (refl, e)
went_on (Some x) reading behind e = absurd (let f : Stopped x ≡ Read behind = e in cc)

pub both_read : (reading : Reading) (next : Reader) (behind : List Name) → and_read reading next ≡ Read behind → (middle : List Name) × (reading ≡ Read middle) × (next middle ≡ Read behind)
both_read (Read middle) next behind e = (middle, refl, e)
both_read (Stopped x) next behind e = absurd (let f : Stopped x ≡ Read behind = e in cc)

none_there : (b : Bool) (x : Name) (found : Option Name) → (if b then Some x else found) ≡ None → (b ≡ false) × (found ≡ None)
none_there true x found e = absurd (let f : Some x ≡ None = e in cc)
none_there false x found e = (refl, e)

none_mapped : (f : Name → Name) (found : Option Name) → option_map f found ≡ None → found ≡ None
none_mapped f None e = refl
none_mapped f (Some x) e = absurd (let g : Some (f x) ≡ None = e in cc)

none_in : (unbound names : List Name) → first_in unbound names ≡ None → (x : Name) → is_in names x ≡ true → is_in unbound x ≡ false
none_in unbound [] e x is = absurd (cc)
none_in unbound (y ∷ names) e x is =
    let here = none_there (is_in unbound y) y (first_in unbound names) e in
    either_is (is_in unbound x ≡ false) (bytes_eq x y)
    (λ same. ap (is_in unbound) (same_name x y same) ∙ here.0)
    (λ other. none_in unbound names here.1 x (ap (λ b. b || is_in names x) (sym other) ∙ is))

-- names in scope
pub of_both : (scope first second : List Name) → are_in scope (first ++ second) ≡ true → (are_in scope first ≡ true) × (are_in scope second ≡ true)
of_both scope [] second e = (refl, e)
of_both scope (x ∷ first) second e =
    let here = and_parts (is_in scope x) (are_in scope (first ++ second)) e in
    let rest = of_both scope first second here.1 in
    (ap (λ b. b && are_in scope first) here.0 ∙ rest.0, rest.1)

pub of_joined : (scope first second : List Name) → are_in scope first ≡ true → are_in scope second ≡ true → are_in scope (first ++ second) ≡ true
of_joined scope [] second here more = more
of_joined scope (x ∷ first) second here more =
    let parts = and_parts (is_in scope x) (are_in scope first) here in
    ap (λ b. b && are_in scope (first ++ second)) parts.0 ∙ of_joined scope first second parts.1 more

of_split : (scope : List Name) (n : ℕ) (parts : List Used) → are_in scope (names_of_parts parts) ≡ true →
    (are_in scope (names_of_parts (take n parts)) ≡ true) × (are_in scope (names_of_parts (drop n parts)) ≡ true)
of_split scope zero parts e = (refl, e)
of_split scope (suc n) [] e = (refl, refl)
of_split scope (suc n) (part ∷ parts) e =
    let here = of_both scope part.names (names_of_parts parts) e in
    let rest = of_split scope n parts here.1 in
    (of_joined scope part.names (names_of_parts (take n parts)) here.0 rest.0, rest.1)

module _ (scope : List Name) where
  -- a course from names that are unbound to others
  abbrev Leads : Course → List Name → List Name → Type 0
  Leads course unbound behind = Narrows unbound behind × KeepsBound scope course unbound behind

  -- the modes are right of a course
  abbrev IsRight : Reader → Course → Type 0
  IsRight reader course =
      (unbound behind : List Name) → reader unbound ≡ Read behind → Leads course unbound behind

  -- where none of some names in scope is unbound, all are bound
  are_bound : (unbound : List Name) (bound : BoundNames) (names : List Name) → AreAllBut scope unbound bound → are_in scope names ≡ true → first_in unbound names ≡ None → AllByRecursion (λ x. bound x ≡ true) names
  are_bound unbound bound [] all within e = tt
  are_bound unbound bound (x ∷ names) all within e =
      let here = none_there (is_in unbound x) x (first_in unbound names) e in
      let parts = and_parts (is_in scope x) (are_in scope names) within in
      (all x parts.0 here.0, are_bound unbound bound names all parts.1 here.1)

  -- all names are used
  names_lead : (names unbound behind : List Name) → are_in scope names ≡ true → read_names names unbound ≡ Read behind → Leads (uses names) unbound behind
  names_lead names unbound behind within e =
      let on = went_on (first_in unbound names) (Read unbound) behind e in
      subst (Leads (uses names) unbound) (read_one unbound behind on.1)
      ((λ x is. is), λ bound rest all next. (are_bound unbound bound names all within on.0, next bound all))

  -- one behind the other
  then_lead : (first second : Course) (unbound middle behind : List Name) → Leads first unbound middle → Leads second middle behind → Leads (λ rest. first (second rest)) unbound behind
  then_lead first second unbound middle behind (n1, k1) (n2, k2) = (
    (λ x is. n2 x (n1 x is)),
    λ bound rest all next. k1 bound (second rest) all (λ later more. k2 later rest more next),
  )

  then_right : (reader next : Reader) (first second : Course) → IsRight reader first → IsRight next second → IsRight (λ u. and_read (reader u) next) (λ rest. first (second rest))
  then_right reader next first second right more unbound behind e =
      let parts = both_read (reader unbound) next behind e in
      then_lead first second unbound parts.0 behind (right unbound parts.0 parts.1) (more parts.0 behind parts.2)

  -- the name and the names of an equation are in scope
  equation_in : (equation : Name × List Name) (names : List Name) → names ≡ equation.0 ∷ equation.1 → are_in scope names ≡ true → (is_in scope equation.0 ≡ true) × (are_in scope equation.1 ≡ true)
  equation_in equation names is within =
      and_parts (is_in scope equation.0) (are_in scope equation.1) (ap (are_in scope) (sym is) ∙ within)

  -- an unbound name is bound by what is equal to it
  binding_leads : (equation : Name × List Name) (names unbound : List Name) → names ≡ equation.0 ∷ equation.1 → are_in scope equation.1 ≡ true → first_in unbound equation.1 ≡ None →
      Leads (binds_or_uses (Some equation) names) unbound (without equation.0 unbound)
  binding_leads equation names unbound is within none = (
    filtered_out (λ y. not (bytes_eq equation.0 y)) unbound,
    λ bound rest all next. chosen (bound equation.0) (Uses names bound (rest bound)) (Uses equation.1 bound (rest (with_name equation.0 true bound)))
        (λ here. (
          subst (AllByRecursion (λ x. bound x ≡ true)) (sym is) (here, are_bound unbound bound equation.1 all within none),
          next bound (λ y inside out. either_is (bound y ≡ true) (bytes_eq y equation.0)
              (λ same. ap bound (same_name y equation.0 same) ∙ here)
              (λ other. all y inside (still_in equation.0 y unbound other out))),
        ))
        (λ gone. (
          are_bound unbound bound equation.1 all within none,
          next (with_name equation.0 true bound) (λ y inside out. if_or (bytes_eq y equation.0) (bound y)
              (λ other. all y inside (still_in equation.0 y unbound other out))),
        )),
  )

  -- a name that is bound is used with the others
  using_leads : (equation : Name × List Name) (names unbound behind : List Name) → is_in scope equation.0 ≡ true → is_in unbound equation.0 ≡ false → Leads (uses names) unbound behind →
      Leads (binds_or_uses (Some equation) names) unbound behind
  using_leads equation names unbound behind inside out (n, k) = (
    n,
    λ bound rest all next. chosen (bound equation.0) (Uses names bound (rest bound)) (Uses equation.1 bound (rest (with_name equation.0 true bound)))
        (λ here. k bound rest all next)
        (λ gone. absurd (let f : true ≡ false = sym (all equation.0 inside out) ∙ gone in cc)),
  )

  equation_by : (equation : Name × List Name) (names unbound behind : List Name) (b : Bool) → is_in unbound equation.0 ≡ b → names ≡ equation.0 ∷ equation.1 → are_in scope names ≡ true →
      (if b then unless_stopped (option_map (λ y. equation.0) (first_in unbound equation.1)) (Read (without equation.0 unbound)) else read_names names unbound) ≡ Read behind →
      Leads (binds_or_uses (Some equation) names) unbound behind
  equation_by equation names unbound behind true out is within e =
      let on = went_on (option_map (λ y. equation.0) (first_in unbound equation.1)) (Read (without equation.0 unbound)) behind e in
      subst (Leads (binds_or_uses (Some equation) names) unbound) (read_one (without equation.0 unbound) behind on.1)
      (binding_leads equation names unbound is (equation_in equation names is within).1 (none_mapped (λ y. equation.0) (first_in unbound equation.1) on.0))
  equation_by equation names unbound behind false out is within e =
      using_leads equation names unbound behind (equation_in equation names is within).0 out (names_lead names unbound behind within e)

  truth_by : (equates : Option (Name × List Name)) (names : List Name) → IsEquation equates names → are_in scope names ≡ true → IsRight (λ u. read_equation equates (read_names names u) u) (binds_or_uses equates names)
  truth_by None names is within unbound behind e = names_lead names unbound behind within e
  truth_by (Some equation) names is within unbound behind e =
      equation_by equation names unbound behind (is_in unbound equation.0) refl (is equation refl) within e

  value_by : (alone : Option Name) (names : List Name) → IsAlone alone names → are_in scope names ≡ true → IsRight (λ u. read_alone alone (read_names names u) u) (binds_or_uses (equating alone []) names)
  value_by None names is within unbound behind e = names_lead names unbound behind within e
  value_by (Some x) names is within unbound behind e =
      equation_by (x, []) names unbound behind (is_in unbound x) refl (is x refl) within e

  truth_right : (e : Expr) → are_in scope (used_in e).names ≡ true → IsRight (read_truth (used_in e)) (truth_course (used_in e))
  truth_right e = truth_by (used_in e).equates (used_in e).names (equates_in e)

  value_right : (e : Expr) → are_in scope (used_in e).names ≡ true → IsRight (read_value (used_in e)) (value_course (used_in e))
  value_right e = value_by (used_in e).alone (used_in e).names (alone_in e)

  -- nothing is read
  nothing_leads : (unbound behind : List Name) → Read unbound ≡ Read behind → Leads (λ rest. rest) unbound behind
  nothing_leads unbound behind e =
      subst (Leads (λ rest. rest) unbound) (read_one unbound behind e)
      ((λ x is. is), λ bound rest all next. next bound all)

  values_right : (exprs : List Expr) → are_in scope (names_of_parts (map used_in exprs)) ≡ true → IsRight (read_values (map used_in exprs)) (in_order (map value_course (map used_in exprs)))
  values_right [] within unbound behind e = nothing_leads unbound behind e
  values_right (expr ∷ exprs) within unbound behind e =
      let parts = of_both scope (used_in expr).names (names_of_parts (map used_in exprs)) within in
      then_right (read_value (used_in expr)) (read_values (map used_in exprs)) (value_course (used_in expr)) (in_order (map value_course (map used_in exprs)))
      (value_right expr parts.0) (values_right exprs parts.1) unbound behind e

  args_right : (n : ℕ) (exprs : List Expr) → are_in scope (names_of_parts (map used_in exprs)) ≡ true → IsRight (read_args n (map used_in exprs)) (args_course n (map used_in exprs))
  args_right n exprs within unbound behind e =
      let parts = of_split scope n (map used_in exprs) within in
      then_right (read_names (names_of_parts (take n (map used_in exprs)))) (read_values (drop n (map used_in exprs)))
      (uses (names_of_parts (take n (map used_in exprs)))) (in_order (map value_course (drop n (map used_in exprs))))
      (λ u b. names_lead (names_of_parts (take n (map used_in exprs))) u b parts.0)
      (subst (λ us. IsRight (read_values us) (in_order (map value_course us))) (sym (drop-map used_in n exprs))
      (values_right (drop n exprs) (ap (λ us. are_in scope (names_of_parts us)) (sym (drop-map used_in n exprs)) ∙ parts.1)))
      unbound behind e

  -- both branches
  joined : (reading : Reading) (unbound first behind : List Name) → join_branch unbound first reading ≡ Read behind →
      (second : List Name) × (reading ≡ Read second) × (filter (λ x. is_in first x || is_in second x) unbound ≡ behind)
  joined (Read second) unbound first behind e =
      (second, refl, read_one (filter (λ x. is_in first x || is_in second x) unbound) behind e)
  joined (Stopped x) unbound first behind e = absurd (let f : Stopped x ≡ Read behind = e in cc)

  branches_lead : (a b : Course) (unbound first second : List Name) → Leads a unbound first → Leads b unbound second →
      Leads (branches a b) unbound (filter (λ x. is_in first x || is_in second x) unbound)
  branches_lead a b unbound first second (n1, k1) (n2, k2) = (
    filtered_out (λ x. is_in first x || is_in second x) unbound,
    λ bound rest all next. (
      k1 bound rest all (λ later more. next later (λ x inside out. more x inside
          (first_out (is_in unbound x) (is_in first x) (is_in second x) (n1 x) (sym (in_filtered (λ y. is_in first y || is_in second y) unbound x) ∙ out)))),
      k2 bound rest all (λ later more. next later (λ x inside out. more x inside
          (second_out (is_in unbound x) (is_in first x) (is_in second x) (n2 x) (sym (in_filtered (λ y. is_in first y || is_in second y) unbound x) ∙ out)))),
    ),
  )

  branches_right : (a b : Reader) (first second : Course) → IsRight a first → IsRight b second → IsRight (read_branches a b) (branches first second)
  branches_right a b first second right more unbound behind e =
      let parts = both_read (a unbound) (λ left. join_branch unbound left (b unbound)) behind e in
      let both = joined (b unbound) unbound parts.0 behind parts.2 in
      subst (Leads (branches first second) unbound) both.2
      (branches_lead first second unbound parts.0 both.0 (right unbound parts.0 parts.1) (more unbound both.0 both.1))

-- the scope of a name
left_by : (b : Bool) (x : Name) (unbound behind : List Name) → (if b then Stopped x else Read unbound) ≡ Read behind → (b ≡ false) × (unbound ≡ behind)
left_by true x unbound behind e = absurd (let f : Stopped x ≡ Read behind = e in cc)
left_by false x unbound behind e = (refl, read_one unbound behind e)

-- the course of what is in the scope of a name
abbrev within_scope : Name → Bool → Course → Course
within_scope x produced body rest bound =
    body (uses (x ∷ []) (λ later. rest (with_name x (bound x) later))) (with_name x produced bound)

if_in : (c d : Bool) → c ≡ false → (c || d) ≡ true → d ≡ true
if_in true d e is = absurd (cc)
if_in false d e is = is

scope_leads : (scope : List Name) (x : Name) (produced : Bool) (body : Course) (unbound middle : List Name) → is_in scope x ≡ false → is_in middle x ≡ false → Leads (x ∷ scope) body (x ∷ unbound) middle →
    Leads scope (within_scope x produced body) unbound middle
scope_leads scope x produced body unbound middle apart out (n, k) = (
  (λ y is. either_is (is_in middle y ≡ false) (bytes_eq y x)
      (λ same. ap (is_in middle) (same_name y x same) ∙ out)
      (λ other. n y (ap (λ b. b || is_in unbound y) other ∙ is))),
  λ bound rest all next. k (with_name x produced bound) (uses (x ∷ []) (λ later. rest (with_name x (bound x) later)))
      (λ y inside is. let each = neither (bytes_eq y x) (is_in unbound y) is in
      if_not (bytes_eq y x) produced (bound y) each.0 (all y (if_in (bytes_eq y x) (is_in scope y) each.0 inside) each.1))
      (λ later more. (
        (more x (ap (λ b. b || is_in scope x) (same_as x)) out, tt),
        next (with_name x (bound x) later) (λ y inside is.
            let other = is_false (bytes_eq y x) (λ same. sym inside ∙ ap (is_in scope) (same_name y x same) ∙ apart) in
            if_not (bytes_eq y x) (bound x) (later y) other
            (more y (ap (λ b. b || is_in scope y) other ∙ inside) is)),
      )),
)

scope_right : (scope : List Name) (x : Name) (produced : Bool) (reader : Reader) (body : Course) → is_in scope x ≡ false → IsRight (x ∷ scope) reader body →
    IsRight scope (λ u. and_read (reader (x ∷ u)) (leave x)) (within_scope x produced body)
scope_right scope x produced reader body apart right unbound behind e =
    let parts = both_read (reader (x ∷ unbound)) (leave x) behind e in
    let left = left_by (is_in parts.0 x) x parts.0 behind parts.2 in
    subst (Leads scope (within_scope x produced body) unbound) left.1
    (scope_leads scope x produced body unbound parts.0 apart left.0 (right (x ∷ unbound) parts.0 parts.1))

module _ (inputs : Name → ℕ) (produced : Bool) where
  -- the modes are right of an assertion that stays in scope
  abbrev IsRightIn : Reader → Course → (List Name → Bool) → Type 0
  IsRightIn reader course stays = (scope : List Name) → stays scope ≡ true → IsRight scope reader course

  abbrev IsRightOf : Assertion → Type 0
  IsRightOf a = IsRightIn (reading_of inputs a) (course_of inputs produced a) (stays_in a)

  abbrev Known : Type 0
  Known = (a : Assertion) × IsRightOf a

  all_right : (scope : List Name) (parts : List Known) → all_stay (map stays_in (map (λ e. e.0) parts)) scope ≡ true →
      IsRight scope (read_all (map (reading_of inputs) (map (λ e. e.0) parts))) (in_order (map (course_of inputs produced) (map (λ e. e.0) parts)))
  all_right scope [] stays unbound behind e = nothing_leads scope unbound behind e
  all_right scope (part ∷ parts) stays unbound behind e =
      let each = and_parts (stays_in part.0 scope) (all_stay (map stays_in (map (λ e. e.0) parts)) scope) stays in
      then_right scope (reading_of inputs part.0) (read_all (map (reading_of inputs) (map (λ e. e.0) parts)))
      (course_of inputs produced part.0) (in_order (map (course_of inputs produced) (map (λ e. e.0) parts)))
      (part.1 scope each.0) (all_right scope parts each.1) unbound behind e

  abbrev LayerIsRight : Assertion-F Assertion → Type 0
  LayerIsRight y =
      IsRightIn (assertion_read inputs (map-Assertion Assertion Reader (reading_of inputs) y))
      (assertion_course inputs produced (map-Assertion Assertion Course (course_of inputs produced) y))
      (layer_stays (map-Assertion Assertion (List Name → Bool) stays_in y))

  layer_right : (y : Assertion-F Known) → LayerIsRight (map-Assertion Known Assertion (λ e. e.0) y)
  layer_right (Pure e) scope stays = truth_right scope e stays
  layer_right (Register r e) scope stays = value_right scope e stays
  layer_right (Cell index e) scope stays =
      let each = and_parts (are_in scope (used_in index).names) (are_in scope (used_in e).names) stays in
      then_right scope (read_names (used_in index).names) (read_value (used_in e)) (uses (used_in index).names) (value_course (used_in e))
      (λ u b. names_lead scope (used_in index).names u b each.0) (value_right scope e each.1)
  layer_right (Star parts) scope stays = all_right scope parts stays
  layer_right (If test a b) scope stays =
      let each = and_parts (are_in scope (used_in test).names) (stays_in a.0 scope && stays_in b.0 scope) stays in
      let both = and_parts (stays_in a.0 scope) (stays_in b.0 scope) each.1 in
      then_right scope (read_names (used_in test).names) (read_branches (reading_of inputs a.0) (reading_of inputs b.0))
      (uses (used_in test).names) (branches (course_of inputs produced a.0) (course_of inputs produced b.0))
      (λ u b. names_lead scope (used_in test).names u b each.0)
      (branches_right scope (reading_of inputs a.0) (reading_of inputs b.0) (course_of inputs produced a.0) (course_of inputs produced b.0) (a.1 scope both.0) (b.1 scope both.1))
  layer_right (Exists x type body) scope stays =
      let each = and_parts (not (is_in scope x)) (stays_in body.0 (x ∷ scope)) stays in
      scope_right scope x produced (reading_of inputs body.0) (course_of inputs produced body.0) (not_so (is_in scope x) each.0) (body.1 (x ∷ scope) each.1)
  layer_right (Predicate p args) scope stays = args_right scope (inputs p) args stays
  layer_right (Region g args) scope stays = λ u b. names_lead scope (names_of_parts (map used_in args)) u b stays

  -- each name that an assertion uses is bound
  assertion_right : (a : Assertion) → IsRightOf a
  assertion_right = ind-Assertion IsRightOf (λ x y is.
      subst (λ s. IsRightIn (reading_of inputs (roll-Assertion x)) (course_of inputs produced (roll-Assertion x)) s) (sym (fold-roll-Assertion (List Name → Bool) layer_stays x))
      (subst (λ r. IsRightIn r (course_of inputs produced (roll-Assertion x)) (layer_stays (map-Assertion Assertion (List Name → Bool) stays_in x))) (sym (fold-roll-Assertion Reader (assertion_read inputs) x))
      (subst (λ c. IsRightIn (assertion_read inputs (map-Assertion Assertion Reader (reading_of inputs) x)) c (layer_stays (map-Assertion Assertion (List Name → Bool) stays_in x))) (sym (fold-roll-Assertion Course (assertion_course inputs produced) x))
      (subst LayerIsRight is (layer_right y)))))

-- the paths of an assertion, by its layer
pub course_by_layers : CourseByLayers
course_by_layers inputs produced assertion y is =
    fold_out-Assertion Course (assertion_course inputs produced) assertion
    ∙ ap (λ z. assertion_course inputs produced (map-Assertion Assertion Course (course_of inputs produced) z)) is

-- an assertion that the modes can read keeps its names bound
pub reading_keeps_bound : ReadingKeepsBound
reading_keeps_bound inputs produced assertion scope unbound behind stays e =
    (assertion_right inputs produced assertion scope stays unbound behind e).1

-- names that begin unbound, and are bound at the end
all_names : (scope names left : List Name) → Narrows names left → first_in left names ≡ None → (later : BoundNames) → AreAllBut scope left later → AreAllBut scope [] later
all_names scope names left narrows none later all x inside is =
    all x inside (either_is (is_in left x ≡ false) (is_in names x) (λ within. none_in left names none x within) (λ outside. narrows x outside))

ended : (scope : List Name) (course : Course) (names left : List Name) → first_in left names ≡ None → Leads scope course names left → KeepsBound scope course names []
ended scope course names left none (narrows, keeps) =
    λ bound rest all next. keeps bound rest all (λ later more. next later (all_names scope names left narrows none later more))

pub binding_binds : (inputs : Name → ℕ) (scope names : List Name) (a : Assertion) (behind : List Name) → StaysIn scope a → read_binding inputs names a ≡ Read behind → BindsAll inputs scope names a
binding_binds inputs scope names a behind stays e = record {
  stays = stays;
  binds = λ produced.
      let parts = both_read (reading_of inputs a names) (leave_all names) behind e in
      let on = went_on (first_in parts.0 names) (Read parts.0) behind parts.2 in
      ended scope (course_of inputs produced a) names parts.0 on.0 (assertion_right inputs produced a scope stays names parts.0 parts.1);
}

pub reading_binds : (inputs : Name → ℕ) (scope : List Name) (a : Assertion) (behind : List Name) → StaysIn scope a → reading_of inputs a [] ≡ Read behind → BindsAll inputs scope [] a
reading_binds inputs scope a behind stays e = record {
  stays = stays;
  binds = λ produced.
      let right = assertion_right inputs produced a scope stays [] behind e in
      λ bound rest all next. right.1 bound rest all (λ later more. next later (λ x inside is. more x inside (right.0 x is)));
}

pub both_bind : (inputs : Name → ℕ) (scope names inner : List Name) (pre post : Assertion) (behind : List Name) → StaysIn scope pre → StaysIn inner post →
    and_read (read_binding inputs names pre) (λ unbound. reading_of inputs post []) ≡ Read behind →
    BindsAll inputs scope names pre × BindsAll inputs inner [] post
both_bind inputs scope names inner pre post behind stays more e =
    let parts = both_read (read_binding inputs names pre) (λ unbound. reading_of inputs post []) behind e in
    (binding_binds inputs scope names pre parts.0 stays parts.1, reading_binds inputs inner post behind more parts.2)
