-- The least entry that matches is the one that is found.
use Rattle.std.proofs.Common.{◌≡◌, ℕ, zero, suc, ◌<◌, ◌≤◌, ◌&&◌, Bool, true, false, cond, List, [], ◌∷◌}
use Rattle.std.proofs.Common.{Some, nat_le, nat_lt, map, refl, ap, ◌∙◌, sym, subst, arith, find, zip}
use Rattle.std.proofs.Common.{le-leb, lt-ltb, leb-true, ltb-true}
use Rattle.std.proofs.lemmas.Bool.{and_parts, and_from}
use Rattle.kat_machines.specs.declared.pmp.Entry.{Entry}
use Rattle.kat_machines.specs.declared.pmp.Priv.{Priv}
use Rattle.kat_machines.specs.declared.pmp.Priv.TheVariants.{User, Machine}
use Rattle.kat_machines.specs.declared.pmp.Access.{Access}
use Rattle.kat_machines.specs.Pmp.{allows, granted, is_granted, is_tor, matches}
use Rattle.kat_machines.specs.ByNumber.{IsDecidedBy, IsDecidedByNone, Matches, address_before, entry_at, granted_by, is_free}

-- the entry that is found among entries whose first begins at the bottom grants the access
abbrev found : ℕ → List Entry → Priv → Access → ℕ → Bool
found bottom es mode kind index =
    granted (find (matches index) (zip (bottom ∷ map (λ e. e.addr) es) es)) mode kind

-- where the range of an entry begins, that of the first at the bottom
abbrev begins : ℕ → List Entry → ℕ → ℕ
begins bottom es zero = bottom
begins bottom es (suc i) = (entry_at es i).addr

-- an entry matches, where the first begins at the bottom
record Meets (bottom : ℕ) (es : List Entry) (index i : ℕ) : Type 0 where
  pub tor : is_tor (entry_at es i).cfg ≡ true
  pub from : begins bottom es i ≤ index
  pub below : index < (entry_at es i).addr

next : (bottom : ℕ) (e : Entry) (es : List Entry) (i : ℕ)
    → begins bottom (e ∷ es) (suc i) ≡ begins e.addr es i
next bottom e es zero = refl
next bottom e es (suc i) = refl

onwards : (bottom : ℕ) (e : Entry) (es : List Entry) (index i : ℕ)
    → Meets bottom (e ∷ es) index (suc i) → Meets e.addr es index i
onwards bottom e es index i m = record {
  tor = m.tor;
  from = subst (λ b. b ≤ index) (next bottom e es i) m.from;
  below = m.below;
}

backwards : (bottom : ℕ) (e : Entry) (es : List Entry) (index i : ℕ)
    → Meets e.addr es index i → Meets bottom (e ∷ es) index (suc i)
backwards bottom e es index i m = record {
  tor = m.tor;
  from = subst (λ b. b ≤ index) (sym (next bottom e es i)) m.from;
  below = m.below;
}

-- the test of the first entry says whether it matches
test_true : (bottom : ℕ) (e : Entry) (es : List Entry) (index : ℕ)
    → Meets bottom (e ∷ es) index 0 → matches index (bottom, e) ≡ true
test_true bottom e es index m =
    and_from (is_tor e.cfg) (nat_le bottom index && nat_lt index e.addr) m.tor
    (and_from (nat_le bottom index) (nat_lt index e.addr) (le-leb bottom index m.from)
    (lt-ltb index e.addr m.below))

test_met : (bottom : ℕ) (e : Entry) (es : List Entry) (index : ℕ)
    → matches index (bottom, e) ≡ true → Meets bottom (e ∷ es) index 0
test_met bottom e es index is =
    let both = and_parts (is_tor e.cfg) (nat_le bottom index && nat_lt index e.addr) is in
    let within = and_parts (nat_le bottom index) (nat_lt index e.addr) both.1 in
    record {
      tor = both.0;
      from = leb-true bottom index within.0;
      below = ltb-true index e.addr within.1;
    }

-- by the test of the first entry
by_test : (b : Bool) (P : Type 0) → (b ≡ true → P) → (b ≡ false → P) → P
by_test true P yes_ no_ = yes_ refl
by_test false P yes_ no_ = no_ refl

first_found : (bottom : ℕ) (e : Entry) (es : List Entry) (mode : Priv) (kind : Access) (index : ℕ)
    → matches index (bottom, e) ≡ true
    → found bottom (e ∷ es) mode kind index ≡ is_granted e.cfg mode kind
first_found bottom e es mode kind index is =
    ap (λ (b : Bool). granted (cond b (Some (bottom, e)) (find (matches index) (zip (e.addr ∷ map (λ x. x.addr) es) es))) mode kind) is

first_passed : (bottom : ℕ) (e : Entry) (es : List Entry) (mode : Priv) (kind : Access) (index : ℕ)
    → matches index (bottom, e) ≡ false
    → found bottom (e ∷ es) mode kind index ≡ found e.addr es mode kind index
first_passed bottom e es mode kind index is =
    ap (λ (b : Bool). granted (cond b (Some (bottom, e)) (find (matches index) (zip (e.addr ∷ map (λ x. x.addr) es) es))) mode kind) is

least_found : (es : List Entry) (bottom : ℕ) (mode : Priv) (kind : Access) (index i : ℕ)
    → Meets bottom es index i → ((k : ℕ) → k < i → ¬ Meets bottom es index k)
    → found bottom es mode kind index ≡ granted_by es i mode kind
least_found [] bottom mode kind index i m least = let h = m.below in absurd (omega arith)
least_found (e ∷ es) bottom mode kind index zero m least =
    first_found bottom e es mode kind index (test_true bottom e es index m)
least_found (e ∷ es) bottom mode kind index (suc i) m least =
    by_test (matches index (bottom, e)) (found bottom (e ∷ es) mode kind index ≡ granted_by es i mode kind)
    (λ is. absurd (least 0 (omega arith) (test_met bottom e es index is)))
    (λ is. first_passed bottom e es mode kind index is
    ∙ least_found es e.addr mode kind index i (onwards bottom e es index i m)
    (λ k h n. least (suc k) (omega arith) (backwards bottom e es index k n)))

none_found : (es : List Entry) (bottom : ℕ) (mode : Priv) (kind : Access) (index : ℕ)
    → ((k : ℕ) → ¬ Meets bottom es index k) → found bottom es mode kind index ≡ is_free mode
none_found [] bottom User kind index none = refl
none_found [] bottom Machine kind index none = refl
none_found (e ∷ es) bottom mode kind index none =
    by_test (matches index (bottom, e)) (found bottom (e ∷ es) mode kind index ≡ is_free mode)
    (λ is. absurd (none 0 (test_met bottom e es index is)))
    (λ is. first_passed bottom e es mode kind index is
    ∙ none_found es e.addr mode kind index (λ k n. none (suc k) (backwards bottom e es index k n)))

-- the bottom of the first entry is 0
begins_before : (entries : List Entry) (i : ℕ) → begins 0 entries i ≡ address_before entries i
begins_before entries zero = refl
begins_before entries (suc i) = refl

meets : (entries : List Entry) (index i : ℕ) → Matches entries index i → Meets 0 entries index i
meets entries index i m = record {
  tor = m.tor;
  from = subst (λ b. b ≤ index) (sym (begins_before entries i)) m.from;
  below = m.below;
}

met : (entries : List Entry) (index i : ℕ) → Meets 0 entries index i → Matches entries index i
met entries index i m = record {
  tor = m.tor;
  from = subst (λ b. b ≤ index) (begins_before entries i) m.from;
  below = m.below;
}

pub decided : (entries : List Entry) (mode : Priv) (kind : Access) (index i : ℕ)
    → IsDecidedBy entries index i → allows entries mode kind index ≡ granted_by entries i mode kind
decided entries mode kind index i d =
    least_found entries 0 mode kind index i (meets entries index i d.matches)
    (λ k h m. d.least k h (met entries index k m))

pub undecided : (entries : List Entry) (mode : Priv) (kind : Access) (index : ℕ)
    → IsDecidedByNone entries index → allows entries mode kind index ≡ is_free mode
undecided entries mode kind index none =
    none_found entries 0 mode kind index (λ k m. none k (met entries index k m))
