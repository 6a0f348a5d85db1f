-- What lines tell that show what changed, each with its key.
use Rattle.std.proofs.Common.{◌≡◌, ◌≢◌, ℕ, Bool, true, false, List, [], ◌∷◌, ◌++◌, get_or, if◌then◌else◌, inl, inr, refl, sym, ap, ◌∙◌, append_assoc}
use Rattle.std.specs.List.{AllByRecursion, AllZip}
use Rattle.std.proofs.lemmas.Bool.{cases_Bool, cond-true, cond-false}

-- keys of which each is apart from those behind it
abbrev pub AreApart : (K : Type 0) → (K → K → Type 0) → List K → Type 0
AreApart K Apart [] = Unit {0}
AreApart K Apart (key ∷ keys) = AllByRecursion (Apart key) keys × AreApart K Apart keys

-- keys, their values, whether a value is not shown, and the line of a key with its value
module _ (K V : Type 0) (same : V → V → Bool) (line : K → V → List ℕ) where
  -- a line for each key whose value is not the one before
  abbrev pub changed : List K → List V → List V → List ℕ
  changed (key ∷ keys) (old ∷ before) (new ∷ after) =
      (if same old new then [] else line key new) ++ changed keys before after
  changed _ _ _ = []

  -- what the lines owe, which begin with this byte: a value that is not shown is known, the lines
  -- of two keys that are apart differ, and the line of a known key tells its value
  pub record Tells (byte : ℕ) (Apart : K → K → Type 0) (IsOf : K → V → Type 0) : Type 0 where
    pub hides : (old u v : V) → same old u ≡ true → same old v ≡ true → u ≡ v
    pub begins : (key : K) (v : V) (r : List ℕ) → get_or (line key v ++ r) 0 0 ≡ byte
    pub keys : (j k : K) (u v : V) (r s : List ℕ) → Apart j k → line j u ++ r ≡ line k v ++ s → ⊥
    pub values :
        (key : K) (u v : V) (r s : List ℕ) → IsOf key u → IsOf key v →
        line key u ++ r ≡ line key v ++ s → (u ≡ v) × (r ≡ s)

  -- what is not shown, and what is
  hidden : (key : K) (old new : V) (lines r : List ℕ) → same old new ≡ true →
      ((if same old new then [] else line key new) ++ lines) ++ r ≡ lines ++ r
  hidden key old new lines r h = ap (λ front. (front ++ lines) ++ r)
      (cond-true (same old new) [] (line key new) h)

  shown : (key : K) (old new : V) (lines r : List ℕ) → same old new ≡ false →
      ((if same old new then [] else line key new) ++ lines) ++ r ≡ line key new ++ (lines ++ r)
  shown key old new lines r h =
      ap (λ front. (front ++ lines) ++ r) (cond-false (same old new) [] (line key new) h)
      ∙ append_assoc (line key new) lines r

  module _ (byte : ℕ) (Apart : K → K → Type 0) (IsOf : K → V → Type 0)
      (tells : Tells byte Apart IsOf) where
    -- lines do not begin as what begins neither as they do nor as what follows them
    pub changed_begin : (other : ℕ) (keys : List K) (before after : List V) (r : List ℕ) →
        byte ≢ other → get_or r 0 0 ≢ other → get_or (changed keys before after ++ r) 0 0 ≢ other
    changed_begin other [] before after r ne h = h
    changed_begin other (key ∷ keys) [] after r ne h = h
    changed_begin other (key ∷ keys) (old ∷ before) [] r ne h = h
    changed_begin other (key ∷ keys) (old ∷ before) (new ∷ after) r ne h =
        elim (cases_Bool (same old new)) [
          | inl a ↦ λ e.
              changed_begin other keys before after r ne h
              (sym (ap (λ l. get_or l 0 0) (hidden key old new (changed keys before after) r a))
              ∙ e)
          | inr a ↦ λ e.
              ne (sym (tells.begins key new (changed keys before after ++ r))
              ∙ sym (ap (λ l. get_or l 0 0) (shown key old new (changed keys before after) r a))
              ∙ e)
        ]

    -- lines of other keys, and what begins with no line, do not begin with the line of this key
    no_line : (key : K) (v : V) (behind : List ℕ) (keys : List K) (before after : List V)
        (r : List ℕ) → AllByRecursion (Apart key) keys → get_or r 0 0 ≢ byte →
        line key v ++ behind ≡ changed keys before after ++ r → ⊥
    no_line key v behind [] before after r apart h e =
        h (sym (ap (λ l. get_or l 0 0) e) ∙ tells.begins key v behind)
    no_line key v behind (other ∷ keys) [] after r apart h e =
        h (sym (ap (λ l. get_or l 0 0) e) ∙ tells.begins key v behind)
    no_line key v behind (other ∷ keys) (old ∷ before) [] r apart h e =
        h (sym (ap (λ l. get_or l 0 0) e) ∙ tells.begins key v behind)
    no_line key v behind (other ∷ keys) (old ∷ before) (new ∷ after) r apart h e =
        elim (cases_Bool (same old new)) [
          | inl a ↦
              no_line key v behind keys before after r apart.1 h
              (e ∙ hidden other old new (changed keys before after) r a)
          | inr a ↦
              tells.keys key other v new behind (changed keys before after ++ r) apart.0
              (e ∙ shown other old new (changed keys before after) r a)
        ]

    no_values : (vs : List V) → AllZip IsOf [] vs → vs ≡ []
    no_values [] p = refl
    no_values (v ∷ vs) p = absurd p

    -- the lines tell the values, where those before are known
    pub changed_told : (keys : List K) (before us vs : List V) (r s : List ℕ) →
        AreApart K Apart keys → AllZip IsOf keys before → AllZip IsOf keys us →
        AllZip IsOf keys vs → get_or r 0 0 ≢ byte → get_or s 0 0 ≢ byte →
        changed keys before us ++ r ≡ changed keys before vs ++ s → (us ≡ vs) × (r ≡ s)
    changed_told [] before us vs r s apart o p q f g e =
        (no_values us p ∙ sym (no_values vs q), e)
    changed_told (key ∷ keys) [] us vs r s apart o p q f g e = absurd o
    changed_told (key ∷ keys) (old ∷ before) [] vs r s apart o p q f g e = absurd p
    changed_told (key ∷ keys) (old ∷ before) (u ∷ us) [] r s apart o p q f g e = absurd q
    changed_told (key ∷ keys) (old ∷ before) (u ∷ us) (v ∷ vs) r s apart o p q f g e =
        let left : List ℕ = changed keys before us in
        let right : List ℕ = changed keys before vs in
        let below : left ++ r ≡ right ++ s → (us ≡ vs) × (r ≡ s) =
        changed_told keys before us vs r s apart.1 o.1 p.1 q.1 f g in
        elim (cases_Bool (same old u)) [
          | inl a ↦ elim (cases_Bool (same old v)) [
            | inl b ↦
                let rest = below (sym (hidden key old u left r a) ∙ e ∙ hidden key old v right s b)
                in
                let head : u ≡ v = tells.hides old u v a b in
                let tail : us ≡ vs = rest.0 in
                (cc, rest.1)
            | inr b ↦
                absurd (no_line key v (right ++ s) keys before us r apart.0 f
                (sym (shown key old v right s b) ∙ sym e ∙ hidden key old u left r a))
          ]
          | inr a ↦ elim (cases_Bool (same old v)) [
            | inl b ↦
                absurd (no_line key u (left ++ r) keys before vs s apart.0 g
                (sym (shown key old u left r a) ∙ e ∙ hidden key old v right s b))
            | inr b ↦
                let parts = tells.values key u v (left ++ r) (right ++ s) p.0 q.0
                (sym (shown key old u left r a) ∙ e ∙ shown key old v right s b) in
                let rest = below parts.1 in
                let head : u ≡ v = parts.0 in
                let tail : us ≡ vs = rest.0 in
                (cc, rest.1)
          ]
        ]
