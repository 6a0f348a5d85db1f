-- Names that turn, one more at the end; and which are unbound behind them.
use Rattle.std.proofs.Common.{◌≡◌, ◌||◌, ◌&&◌, Bool, true, false, not, if◌then◌else◌, List, [], ◌∷◌, ◌++◌, filter, refl, sym, ap, ◌∙◌, append_assoc}
use Rattle.std.specs.Str.{bytes_eq}
use Rattle.std.proofs.lemmas.Slice.Eq.{bytes_eq-Decides}
use Rattle.std.proofs.lemmas.List.{append-nil}
use Rattle.kat_syntax.specs.Tables.{Name}
use Rattle.kat_syntax.specs.Modes.{is_in, without}
use Rattle.kat_mode.specs.Turning.{is_unbound, unbound_too, bound_too, all_unbound, all_bound, bound_among}
use Rattle.kat_mode.specs.Reading.{AreUnbound, GoesOn}

not_twice : (a b c : Bool) →
    (if a then not (if b then not c else c) else (if b then not c else c)) ≡
    (if b then not (if a then not c else c) else (if a then not c else c))
not_twice true true c = refl
not_twice true false c = refl
not_twice false true c = refl
not_twice false false c = refl

-- one more name that turned counts as the first
pub turned_more : (turned : List Name) (y x : Name) →
    is_unbound (turned ++ y ∷ []) x ≡
    (if bytes_eq x y then not (is_unbound turned x) else is_unbound turned x)
turned_more [] y x = refl
turned_more (z ∷ turned) y x =
    ap (λ b. if bytes_eq x z then not b else b) (turned_more turned y x)
    ∙ not_twice (bytes_eq x z) (bytes_eq x y) (is_unbound turned x)

-- two tests that follow from each other are one
one_truth : (a b : Bool) → (a ≡ true → b ≡ true) → (b ≡ true → a ≡ true) → a ≡ b
one_truth true true f g = refl
one_truth false false f g = refl
one_truth true false f g = sym (f refl)
one_truth false true f g = g refl

same_either_way : (x y : Name) → bytes_eq x y ≡ bytes_eq y x
same_either_way x y =
    one_truth (bytes_eq x y) (bytes_eq y x)
    (λ e. (bytes_eq-Decides y x).1 (sym ((bytes_eq-Decides x y).0 e)))
    (λ e. (bytes_eq-Decides x y).1 (sym ((bytes_eq-Decides y x).0 e)))

same_is_bound : (b c d : Bool) → c ≡ d → (b ≡ true → c ≡ false) →
    (b || c) ≡ (if b then not d else d)
same_is_bound true true d is bound = absurd (let e = bound refl in cc)
same_is_bound true false d is bound = ap not is
same_is_bound false c d is bound = is

same_is_unbound : (b c d : Bool) → c ≡ d → (b ≡ true → c ≡ true) → (b || c) ≡ d
same_is_unbound true c d is unbound = sym (unbound refl) ∙ is
same_is_unbound false c d is unbound = is

unbound_by : (unbound turned : List Name) (x : Name) (b : Bool) → is_unbound turned x ≡ b →
    AreUnbound unbound turned → AreUnbound (x ∷ unbound) (if b then turned else turned ++ x ∷ [])
unbound_by unbound turned x true is here = λ y.
    same_is_unbound (bytes_eq y x) (is_in unbound y) (is_unbound turned y) (here y)
    (λ e. here y ∙ ap (is_unbound turned) ((bytes_eq-Decides y x).0 e) ∙ is)
unbound_by unbound turned x false is here = λ y.
    same_is_bound (bytes_eq y x) (is_in unbound y) (is_unbound turned y) (here y)
    (λ e. here y ∙ ap (is_unbound turned) ((bytes_eq-Decides y x).0 e) ∙ is)
    ∙ sym (turned_more turned x y)

-- one more name is unbound
pub one_unbound : (unbound turned : List Name) (x : Name) → AreUnbound unbound turned →
    AreUnbound (x ∷ unbound) (unbound_too turned x)
one_unbound unbound turned x here = unbound_by unbound turned x (is_unbound turned x) refl here

-- all names of a list but these
kept_or_not : (b c d e : Bool) → (b ≡ true → c ≡ d) →
    (if c then (b || (e && d)) else (e && d)) ≡ ((b || e) && d)
kept_or_not true true d e same = same refl
kept_or_not true false true e same = absurd (let f = same refl in cc)
kept_or_not true false false true same = refl
kept_or_not true false false false same = refl
kept_or_not false true d e same = refl
kept_or_not false false d e same = refl

in_if : (c : Bool) (y : Name) (names : List Name) (x : Name) →
    is_in (if c then y ∷ names else names) x ≡
    (if c then (bytes_eq x y || is_in names x) else is_in names x)
in_if true y names x = refl
in_if false y names x = refl

-- whether a name is among those of a list that pass a test
pub in_filtered : (test : Name → Bool) (names : List Name) (x : Name) →
    is_in (filter test names) x ≡ (is_in names x && test x)
in_filtered test [] x = refl
in_filtered test (y ∷ names) x =
    in_if (test y) y (filter test names) x
    ∙ ap (λ b. if test y then (bytes_eq x y || b) else b) (in_filtered test names x)
    ∙ kept_or_not (bytes_eq x y) (test y) (test x) (is_in names x)
    (λ e. ap test (sym ((bytes_eq-Decides x y).0 e)))

bound_here : (b c d : Bool) → c ≡ d → (b ≡ true → d ≡ true) →
    (c && not b) ≡ (if b then not d else d)
bound_here true true d is unbound = ap not (sym (unbound refl) ∙ refl) ∙ refl
bound_here true false d is unbound = absurd (let e = unbound refl in cc)
bound_here false true d is unbound = is
bound_here false false d is unbound = is

-- a name that is unbound is bound
pub one_bound : (unbound turned : List Name) (x : Name) → is_unbound turned x ≡ true →
    AreUnbound unbound turned → AreUnbound (without x unbound) (turned ++ x ∷ [])
one_bound unbound turned x is here = λ y.
    in_filtered (λ z. not (bytes_eq x z)) unbound y
    ∙ ap (λ b. is_in unbound y && not b) (same_either_way x y)
    ∙ bound_here (bytes_eq y x) (is_in unbound y) (is_unbound turned y) (here y)
    (λ e. ap (is_unbound turned) ((bytes_eq-Decides y x).0 e) ∙ is)
    ∙ sym (turned_more turned x y)

if_bound : (b : Bool) (turned : List Name) (x : Name) → b ≡ true →
    (if b then turned ++ x ∷ [] else turned) ≡ turned ++ x ∷ []
if_bound true turned x is = refl
if_bound false turned x is = absurd (cc)

-- it turns
pub bound_turns : (turned : List Name) (x : Name) → is_unbound turned x ≡ true →
    bound_too turned x ≡ turned ++ x ∷ []
bound_turns turned x is = if_bound (is_unbound turned x) turned x is

behind_one : (turned : List Name) (x : Name) (new : List Name) → GoesOn (turned ++ x ∷ []) new →
    GoesOn turned new
behind_one turned x new (more, is) = (x ∷ more, is ∙ append_assoc turned (x ∷ []) more)

bound_on_by : (turned : List Name) (x : Name) (names : List Name) (b : Bool) →
    GoesOn (turned ++ x ∷ []) (all_bound (turned ++ x ∷ []) names) →
    GoesOn turned (all_bound turned names) →
    GoesOn turned (all_bound (if b then turned ++ x ∷ [] else turned) names)
bound_on_by turned x names true longer same = behind_one turned x
    (all_bound (turned ++ x ∷ []) names) longer
bound_on_by turned x names false longer same = same

-- names that are bound turn behind all others
pub all_bound_on : (turned : List Name) (names : List Name) → GoesOn turned (all_bound turned names)
all_bound_on turned [] = ([], sym (append-nil turned))
all_bound_on turned (x ∷ names) =
    bound_on_by turned x names (is_unbound turned x) (all_bound_on (turned ++ x ∷ []) names)
    (all_bound_on turned names)

bound_one_more : (b c d : Bool) → (b ≡ true → d ≡ true) →
    ((if b then not d else d) && not c) ≡ (d && not (b || c))
bound_one_more true true true is = refl
bound_one_more true false true is = refl
bound_one_more true c false is = absurd (let e = is refl in cc)
bound_one_more false c d is = refl

bound_already : (b c d : Bool) → (b ≡ true → d ≡ false) → (d && not c) ≡ (d && not (b || c))
bound_already true c false is = refl
bound_already true c true is = absurd (let e = is refl in cc)
bound_already false c d is = refl

and_true : (b : Bool) → b ≡ (b && true)
and_true true = refl
and_true false = refl

all_bound_by : (turned : List Name) (x : Name) (names : List Name) (y : Name) (b : Bool) →
    is_unbound turned x ≡ b →
    is_unbound (all_bound (turned ++ x ∷ []) names) y ≡
    (is_unbound (turned ++ x ∷ []) y && not (is_in names y)) →
    is_unbound (all_bound turned names) y ≡ (is_unbound turned y && not (is_in names y)) →
    is_unbound (all_bound (if b then turned ++ x ∷ [] else turned) names) y ≡
    (is_unbound turned y && not (bytes_eq y x || is_in names y))
all_bound_by turned x names y true is longer same =
    longer
    ∙ ap (λ b. b && not (is_in names y)) (turned_more turned x y)
    ∙ bound_one_more (bytes_eq y x) (is_in names y) (is_unbound turned y)
    (λ e. ap (is_unbound turned) ((bytes_eq-Decides y x).0 e) ∙ is)
all_bound_by turned x names y false is longer same =
    same
    ∙ bound_already (bytes_eq y x) (is_in names y) (is_unbound turned y)
    (λ e. ap (is_unbound turned) ((bytes_eq-Decides y x).0 e) ∙ is)

-- those are unbound behind names that are bound that were so and are none of them
pub all_are_bound : (turned names : List Name) (y : Name) →
    is_unbound (all_bound turned names) y ≡ (is_unbound turned y && not (is_in names y))
all_are_bound turned [] y = and_true (is_unbound turned y)
all_are_bound turned (x ∷ names) y =
    all_bound_by turned x names y (is_unbound turned x) refl
    (all_are_bound (turned ++ x ∷ []) names y) (all_are_bound turned names y)

never_by : (b : Bool) (in_more unbound : Bool) → (b || in_more) ≡ false →
    (in_more ≡ false → unbound ≡ false) → (if b then not unbound else unbound) ≡ false
never_by true in_more unbound out rest = absurd (cc)
never_by false in_more unbound out rest = rest out

pub never_turned : (more : List Name) (y : Name) → is_in more y ≡ false → is_unbound more y ≡ false
never_turned [] y out = refl
never_turned (x ∷ more) y out = never_by (bytes_eq y x) (is_in more y) (is_unbound more y) out
    (λ o. never_turned more y o)

-- a name that did not turn again is as it was
pub not_turned : (turned more : List Name) (y : Name) → is_in more y ≡ false →
    is_unbound (turned ++ more) y ≡ is_unbound turned y
not_turned [] more y out = never_turned more y out
not_turned (x ∷ turned) more y out = ap (λ b. if bytes_eq y x then not b else b)
    (not_turned turned more y out)

-- where a name was unbound and is bound by both, it is bound; where it was unbound and stays so
-- behind one, it is
both_bind : (m t0 t1 t2 : Bool) → (m ≡ false → t1 ≡ t0) →
    (t0 && not ((m && not t1) && not t2)) ≡ (t0 && (t1 || t2))
both_bind m false t1 t2 same = refl
both_bind true true true t2 same = refl
both_bind true true false true same = refl
both_bind true true false false same = refl
both_bind false true true t2 same = refl
both_bind false true false t2 same = absurd (let e = same refl in cc)

-- behind an `if`: what is unbound before it, and behind one of its branches
pub join : (unbound first second t0 m1 m2 : List Name) → AreUnbound unbound t0 →
    AreUnbound first (t0 ++ m1) → AreUnbound second (t0 ++ m2) →
    AreUnbound (filter (λ x. is_in first x || is_in second x) unbound)
    (all_bound t0 (bound_among (t0 ++ m2) (bound_among (t0 ++ m1) m1)))
join unbound first second t0 m1 m2 here one two = λ y.
    let t1 = t0 ++ m1 in
    let t2 = t0 ++ m2 in
    in_filtered (λ x. is_in first x || is_in second x) unbound y
    ∙ ap (λ b. b && (is_in first y || is_in second y)) (here y)
    ∙ ap (λ b. is_unbound t0 y && (b || is_in second y)) (one y)
    ∙ ap (λ b. is_unbound t0 y && (is_unbound t1 y || b)) (two y)
    ∙ sym (both_bind (is_in m1 y) (is_unbound t0 y) (is_unbound t1 y) (is_unbound t2 y)
    (not_turned t0 m1 y))
    ∙ ap (λ b. is_unbound t0 y && not (b && not (is_unbound t2 y)))
    (sym (in_filtered (λ x. not (is_unbound t1 x)) m1 y))
    ∙ ap (λ b. is_unbound t0 y && not b)
    (sym (in_filtered (λ x. not (is_unbound t2 x)) (bound_among t1 m1) y))
    ∙ sym (all_are_bound t0 (bound_among t2 (bound_among t1 m1)) y)

one_more_unbound : (t : List Name) (y x : Name) (b : Bool) → is_unbound t x ≡ b →
    is_unbound (if b then t else t ++ x ∷ []) y ≡ (bytes_eq y x || is_unbound t y)
one_more_unbound t y x true is =
    sym (same_is_unbound (bytes_eq y x) (is_unbound t y) (is_unbound t y) refl
    (λ e. ap (is_unbound t) ((bytes_eq-Decides y x).0 e) ∙ is))
one_more_unbound t y x false is =
    turned_more t x y
    ∙ sym (same_is_bound (bytes_eq y x) (is_unbound t y) (is_unbound t y) refl
    (λ e. ap (is_unbound t) ((bytes_eq-Decides y x).0 e) ∙ is))

swap_or : (a b c : Bool) → (a || (b || c)) ≡ ((b || a) || c)
swap_or true true c = refl
swap_or true false c = refl
swap_or false true c = refl
swap_or false false c = refl

-- which are unbound behind names that become so
pub all_are_unbound : (turned names : List Name) (y : Name) →
    is_unbound (all_unbound turned names) y ≡ (is_in names y || is_unbound turned y)
all_are_unbound turned [] y = refl
all_are_unbound turned (x ∷ names) y =
    all_are_unbound (unbound_too turned x) names y
    ∙ ap (λ b. is_in names y || b) (one_more_unbound turned y x (is_unbound turned x) refl)
    ∙ swap_or (is_in names y) (bytes_eq y x) (is_unbound turned y)

or_false : (b : Bool) → b ≡ (b || false)
or_false true = refl
or_false false = refl

-- names that begin unbound
pub begin_unbound : (names : List Name) → AreUnbound names (all_unbound [] names)
begin_unbound names = λ y. or_false (is_in names y) ∙ sym (all_are_unbound [] names y)
