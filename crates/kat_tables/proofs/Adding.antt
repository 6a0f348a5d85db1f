-- What is found when a name is added to the table.
use Rattle.std.proofs.Common.{◌≡◌, Bool, true, false, cond, if◌then◌else◌, [], ◌∷◌, Option, Some, refl, sym, ap, ◌∙◌}
use Rattle.std.specs.Borrow.{Bor}
use Rattle.std.specs.Str.{bytes_eq}
use Rattle.std.proofs.lemmas.Slice.Eq.{bytes_eq-Decides}
use Rattle.indexmap.specs.IndexMap.{insert_entry}
use Rattle.kat_syntax.specs.Tables.{Name}
use Rattle.kat_tables.specs.Meanings.{Entries, found_in, IsPut}

-- the name that is there already is this one
same_key : {V : Type 0} (b c : Bool) (v old rest : Option V) → c ≡ b →
    cond b v rest ≡ cond c v (cond b old rest)
same_key true true v old rest is = refl
same_key true false v old rest is = absurd (cc)
same_key false true v old rest is = absurd (cc)
same_key false false v old rest is = refl

-- another name
other_key : {V : Type 0} (b c : Bool) (v old rest : Option V) → (b ≡ true → c ≡ true → ⊥) →
    cond b old (cond c v rest) ≡ cond c v (cond b old rest)
other_key true true v old rest apart = absurd (apart refl refl)
other_key true false v old rest apart = refl
other_key false c v old rest apart = refl

inserted_by : {V : Type 0} (e : Bor Name × V) (es more : Entries V) (k : Bor Name) (v : V)
    (x : Name) (b : Bool) → bytes_eq k.now e.0.now ≡ b →
    found_in more x ≡ cond (bytes_eq x k.now) (Some v) (found_in es x) →
    found_in (if b then (e.0, v) ∷ es else e ∷ more) x
    ≡ cond (bytes_eq x k.now) (Some v) (cond (bytes_eq x e.0.now) (Some e.1) (found_in es x))
inserted_by e es more k v x true is rest =
    same_key (bytes_eq x e.0.now) (bytes_eq x k.now) (Some v) (Some e.1) (found_in es x)
    (ap (bytes_eq x) ((bytes_eq-Decides k.now e.0.now).0 is))
inserted_by e es more k v x false is rest =
    ap (cond (bytes_eq x e.0.now) (Some e.1)) rest
    ∙ other_key (bytes_eq x e.0.now) (bytes_eq x k.now) (Some v) (Some e.1) (found_in es x)
    (λ p q. let same = sym ((bytes_eq-Decides x k.now).0 q) ∙ (bytes_eq-Decides x e.0.now).0 p in
    let both = (bytes_eq-Decides k.now e.0.now).1 same in
    absurd (cc))

-- what is found behind an insertion
pub inserted : {V : Type 0} (es : Entries V) (k : Bor Name) (v : V) (x : Name) →
    found_in (insert_entry (λ (a b : Bor Name). bytes_eq a.now b.now) es k v) x
    ≡ cond (bytes_eq x k.now) (Some v) (found_in es x)
inserted [] k v x = refl
inserted (e ∷ es) k v x =
    inserted_by e es (insert_entry (λ (a b : Bor Name). bytes_eq a.now b.now) es k v) k v x
    (bytes_eq k.now e.0.now) refl (inserted es k v x)

-- an insertion lets the name be this
pub put_once : {V : Type 0} (es now : Entries V) (k : Bor Name) (v : V) (name : Name) →
    k.now ≡ name →
    now ≡ insert_entry (λ (a b : Bor Name). bytes_eq a.now b.now) es k v → IsPut es name v now
put_once es now k v name same inserts = λ x.
    ap (λ n. found_in n x) inserts ∙ inserted es k v x
    ∙ ap (λ n. cond (bytes_eq x n) (Some v) (found_in es x)) same
