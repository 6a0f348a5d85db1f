-- A table of flags in which the flag of one name is turned.
use Rattle.std.proofs.Common.{◌≡◌, ℕ, zero, suc, ◌+◌, ◌<◌, ◌≤◌, ◌-◌, length, length-drop, take, take_all, drop, arith, Bool, true, false, cond, not, if◌then◌else◌, List, [], ◌∷◌, ◌++◌, Option, Some, refl, sym, ap, ◌∙◌, ◌||◌, is_some}
use Rattle.std.specs.Prelude.{unwrap_or}
use Rattle.std.specs.Borrow.{Bor}
use Rattle.std.specs.List.{drop-map}
use Rattle.std.specs.Str.{bytes_eq}
use Rattle.std.proofs.lemmas.Slice.Eq.{bytes_eq-Decides}
use Rattle.indexmap.specs.IndexMap.{insert_entry}
use Rattle.kat_syntax.specs.Tables.{Name}
use Rattle.kat_syntax.specs.Modes.{is_in}
use Rattle.kat_mode.specs.Flags.{HasFlags, flag_in}
use Rattle.kat_mode.specs.Names.{texts}
use Rattle.kat_mode.specs.Turning.{is_unbound, all_but_last}
use Rattle.kat_mode.proofs.Turning.{turned_more}

same_key : (b : Bool) (c : Bool) (v old : Option Bool) (rest : Option Bool) → c ≡ b →
    cond b v rest ≡ cond c v (cond b old rest)
same_key true true v old rest is = refl
same_key true false v old rest is = absurd (cc)
same_key false true v old rest is = absurd (cc)
same_key false false v old rest is = refl

other_key : (b c : Bool) (v old rest : Option Bool) → (b ≡ true → c ≡ true → ⊥) →
    cond b old (cond c v rest) ≡ cond c v (cond b old rest)
other_key true true v old rest apart = absurd (apart refl refl)
other_key true false v old rest apart = refl
other_key false c v old rest apart = refl

inserted_by : (e : Bor Name × Bool) (es more : List (Bor Name × Bool)) (k : Bor Name) (v : Bool)
    (x : Name) (b : Bool) → bytes_eq k.now e.0.now ≡ b →
    flag_in more x ≡ cond (bytes_eq x k.now) (Some v) (flag_in es x) →
    flag_in (if b then (e.0, v) ∷ es else e ∷ more) x ≡ cond (bytes_eq x k.now) (Some v)
    (cond (bytes_eq x e.0.now) (Some e.1) (flag_in es x))
inserted_by e es more k v x true is rest =
    same_key (bytes_eq x e.0.now) (bytes_eq x k.now) (Some v) (Some e.1) (flag_in es x)
    (ap (bytes_eq x) ((bytes_eq-Decides k.now e.0.now).0 is))
inserted_by e es more k v x false is rest =
    ap (cond (bytes_eq x e.0.now) (Some e.1)) rest
    ∙ other_key (bytes_eq x e.0.now) (bytes_eq x k.now) (Some v) (Some e.1) (flag_in es x)
    (λ p q. let same = sym ((bytes_eq-Decides x k.now).0 q) ∙ (bytes_eq-Decides x e.0.now).0 p in
    let both = (bytes_eq-Decides k.now e.0.now).1 same in absurd (cc))

-- what is found behind an insertion
pub inserted : (es : List (Bor Name × Bool)) (k : Bor Name) (v : Bool) (x : Name) →
    flag_in (insert_entry (λ (a b : Bor Name). bytes_eq a.now b.now) es k v) x ≡
    cond (bytes_eq x k.now) (Some v) (flag_in es x)
inserted [] k v x = refl
inserted (e ∷ es) k v x =
    inserted_by e es (insert_entry (λ (a b : Bor Name). bytes_eq a.now b.now) es k v) k v x
    (bytes_eq k.now e.0.now) refl (inserted es k v x)

flag_by : (b : Bool) (v : Bool) (f : Option Bool) (u : Bool) → unwrap_or f false ≡ u →
    (b ≡ true → v ≡ not u) → unwrap_or (cond b (Some v) f) false ≡ (if b then not u else u)
flag_by true v f u is turns = turns refl
flag_by false v f u is turns = is

-- the flags behind a name that turned
pub turned_flags : (es new : List (Bor Name × Bool)) (k : Bor Name) (was : Bool)
    (turned : List Name) → ((x : Name) → unwrap_or (flag_in es x) false ≡ is_unbound turned x) →
    was ≡ unwrap_or (flag_in es k.now) false →
    new ≡ insert_entry (λ (a b : Bor Name). bytes_eq a.now b.now) es k (not was) → (x : Name) →
    unwrap_or (flag_in new x) false ≡ is_unbound (turned ++ k.now ∷ []) x
turned_flags es new k was turned flags was_is inserts x =
    ap (λ n. unwrap_or (flag_in n x) false) inserts
    ∙ ap (λ f. unwrap_or f false) (inserted es k (not was) x)
    ∙ flag_by (bytes_eq x k.now) (not was) (flag_in es x) (is_unbound turned x) (flags x)
    (λ e. ap not (was_is ∙ flags k.now ∙ ap (is_unbound turned)
    (sym ((bytes_eq-Decides x k.now).0 e))))
    ∙ sym (turned_more turned k.now x)

has_by : (b : Bool) (v : Bool) (f : Option Bool) (c : Bool) → (c ≡ true → is_some f ≡ true) →
    (c || b) ≡ true → is_some (cond b (Some v) f) ≡ true
has_by true v f c has among = refl
has_by false v f true has among = has refl
has_by false v f false has among = absurd (cc)

or_last : (a b c : Bool) → (a || (b || c)) ≡ ((a || b) || c)
or_last true b c = refl
or_last false b c = refl

or_nothing : (a : Bool) → (a || false) ≡ (false || a)
or_nothing true = refl
or_nothing false = refl

in_more : (turned : List Name) (y x : Name) →
    is_in (turned ++ y ∷ []) x ≡ (is_in turned x || bytes_eq x y)
in_more [] y x = or_nothing (bytes_eq x y)
in_more (z ∷ turned) y x = ap (λ b. bytes_eq x z || b) (in_more turned y x) ∙ or_last (bytes_eq x z)
    (is_in turned x) (bytes_eq x y)

-- a name turned
pub turned_has : (es new : List (Bor Name × Bool)) (k : Bor Name) (was : Bool)
    (turned : List Name) → HasFlags es turned → was ≡ unwrap_or (flag_in es k.now) false →
    new ≡ insert_entry (λ (a b : Bor Name). bytes_eq a.now b.now) es k (not was) →
    HasFlags new (turned ++ k.now ∷ [])
turned_has es new k was turned has was_is inserts = record {
  flags_are = turned_flags es new k was turned has.flags_are was_is inserts;
  has_all = λ x among.
      ap (λ n. is_some (flag_in n x)) inserts ∙ ap is_some (inserted es k (not was) x)
      ∙ has_by (bytes_eq x k.now) (not was) (flag_in es x) (is_in turned x) (has.has_all x)
      (sym (in_more turned k.now x) ∙ among);
}

twice : (b u : Bool) → (if b then not (if b then not u else u) else (if b then not u else u)) ≡ u
twice true true = refl
twice true false = refl
twice false u = refl

first_in_more : (a b : Bool) → a ≡ true → (a || b) ≡ true
first_in_more true b is = refl
first_in_more false b is = absurd (cc)

-- the last name that turned turns back
pub turned_back_has : (es new : List (Bor Name × Bool)) (k : Bor Name) (was : Bool)
    (before : List Name) → HasFlags es (before ++ k.now ∷ []) →
    was ≡ unwrap_or (flag_in es k.now) false →
    new ≡ insert_entry (λ (a b : Bor Name). bytes_eq a.now b.now) es k (not was) →
    HasFlags new before
turned_back_has es new k was before has was_is inserts =
    let more = turned_has es new k was (before ++ k.now ∷ []) has was_is inserts in
    record {
      flags_are = λ x. more.flags_are x ∙ turned_more (before ++ k.now ∷ []) k.now x
          ∙ ap (λ u. if bytes_eq x k.now then not u else u) (turned_more before k.now x) ∙ twice
          (bytes_eq x k.now) (is_unbound before x);
      has_all = λ x among. more.has_all x
          (in_more (before ++ k.now ∷ []) k.now x ∙ first_in_more (is_in (before ++ k.now ∷ []) x)
          (bytes_eq x k.now)
          (in_more before k.now x ∙ first_in_more (is_in before x) (bytes_eq x k.now) among));
    }

last_or : (a b : Bool) → b ≡ true → (a || b) ≡ true
last_or true b is = refl
last_or false b is = is

-- the last name that turned has a flag
pub last_has : (es : List (Bor Name × Bool)) (k : Name) (before : List Name) →
    HasFlags es (before ++ k ∷ []) → is_some (flag_in es k) ≡ true
last_has es k before has = has.has_all k
    (in_more before k k ∙ last_or (is_in before k) (bytes_eq k k) ((bytes_eq-Decides k k).1 refl))

pub without_last : (names : List Name) (x : Name) → names ≡ all_but_last (names ++ x ∷ [])
without_last [] x = refl
without_last (y ∷ []) x = refl
without_last (y ∷ z ∷ names) x = ap (λ ns. y ∷ ns) (without_last (z ∷ names) x)

pub one_shorter : (names : List Name) → 0 < length names →
    length (all_but_last names) + 1 ≡ length names
one_shorter [] some = absurd (omega arith)
one_shorter (x ∷ []) some = refl
one_shorter (x ∷ y ∷ names) some = omega (arith, one_shorter (y ∷ names) (omega arith))

pub first_ones : (n : ℕ) (names : List Name) → n < length names →
    take n (all_but_last names) ≡ take n names
first_ones zero names some = refl
first_ones (suc n) [] some = absurd (omega arith)
first_ones (suc n) (x ∷ []) some = absurd (omega arith)
first_ones (suc n) (x ∷ y ∷ names) some = ap (λ ns. x ∷ ns) (first_ones n (y ∷ names) (omega arith))

same_length : (names : List (Bor Name)) → length (texts names) ≡ length names
same_length [] = refl
same_length (x ∷ names) = omega (arith, same_length names)

-- more turned than are to stay
pub more_turned : (turns len : ℕ) (inside : List (Bor Name)) (now : List Name) → turns < len →
    len ≡ length inside → texts inside ≡ now → turns < length now
more_turned turns len inside now more is view =
    omega (arith, same_length inside, ap length view)

pub one_back : (turns : ℕ) (start now new : List Name) →
    (take turns now ≡ take turns start) × (turns ≤ length now) → turns < length now →
    new ≡ all_but_last now →
    (take turns new ≡ take turns start) × (turns ≤ length new)
one_back turns start now new so_far more is = (
  ap (take turns) is ∙ first_ones turns now more ∙ so_far.0,
  omega (arith, one_shorter now (omega arith), ap length is),
)

pub fewer : (turns : ℕ) (now new : List Name) → turns < length now → new ≡ all_but_last now →
    length new < length now
fewer turns now new more is = omega (arith, one_shorter now (omega arith), ap length is)

-- the texts of what stands behind the first so many
pub texts_behind : (n : ℕ) (names : List (Bor Name)) →
    texts (take (length names - n) (drop n names)) ≡ drop n (texts names)
texts_behind n names =
    ap texts (take_all (length names - n) (drop n names) (omega (arith, length-drop n names)))
    ∙ sym (drop-map (λ (name : Bor Name). name.now) n names)
