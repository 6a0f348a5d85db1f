-- Disjoint unions of fragments.
use Rattle.std.proofs.Common.{◌≡◌, ◌==◌, ℕ, Bool, true, false, Option, Some, None, refl, sym, ap₂, subst, ◌∙◌, eqb-true, if◌then◌else◌}
use Rattle.std.proofs.Math.Path.{fun_ext}
use Rattle.kat_value.specs.declared.value.Value.{Value}
use Rattle.kat_syntax.specs.Fragments.{Fragment, JoinAt, Join, nothing, one_register}
use Rattle.kat_claims.specs.Fragments.{JoinsAreUnions}

-- a union at one place, in the other order
swapped_at : {A : Type 0} (p f g : Option A) → JoinAt p f g → JoinAt p g f
swapped_at p None None e = e
swapped_at p None (Some w) e = e
swapped_at p (Some v) None e = e
swapped_at p (Some v) (Some w) e = absurd e

-- a union in the other order
pub swapped : {p f g : Fragment} → Join p f g → Join p g f
swapped {p} {f} {g} h = record {
  registers = λ at. swapped_at _ _ _ (h.registers at);
  cells = λ index. swapped_at _ _ _ (h.cells index);
}

-- what one of two has at a place
abbrev pub joined_at : {A : Type 0} → Option A → Option A → Option A
joined_at None g = g
joined_at (Some v) g = Some v

-- what one of two fragments has
abbrev pub joined : Fragment → Fragment → Fragment
joined f g = record {
  registers = λ at. joined_at (f.registers at) (g.registers at);
  cells = λ index. joined_at (f.cells index) (g.cells index);
}

-- the first part and the others together, and the others
regrouped_at :
    {A : Type 0} (p f a b g : Option A) → JoinAt p f g → JoinAt f a b →
    JoinAt p a (joined_at b g) × JoinAt (joined_at b g) b g
regrouped_at p f None None g h k = (subst (λ x. JoinAt p x g) k h, refl)
regrouped_at p f None (Some w) None h k = (subst (λ x. JoinAt p x None) k h, refl)
regrouped_at p f None (Some w) (Some u) h k = absurd (subst (λ x. JoinAt p x (Some u)) k h)
regrouped_at p f (Some v) None g h k = (subst (λ x. JoinAt p x g) k h, refl)
regrouped_at p f (Some v) (Some w) g h k = absurd k

-- p is f and g, and f is a and b: so p is a, and b with g
pub regroup :
    {p f g a b : Fragment} → Join p f g → Join f a b →
    (rest : Fragment) × Join p a rest × Join rest b g
regroup {p} {f} {g} {a} {b} h k = (
  joined b g,
  record {
    registers = λ at. (regrouped_at _ _ _ _ _ (h.registers at) (k.registers at)).0;
    cells = λ index. (regrouped_at _ _ _ _ _ (h.cells index) (k.cells index)).0;
  },
  record {
    registers = λ at. (regrouped_at _ _ _ _ _ (h.registers at) (k.registers at)).1;
    cells = λ index. (regrouped_at _ _ _ _ _ (h.cells index) (k.cells index)).1;
  },
)

-- what one part has where this is true, and the other elsewhere
pub split_place :
    {A : Type 0} (b : Bool) (o : Option A) →
    JoinAt o (if b then o else None) (if b then None else o)
split_place true None = refl
split_place true (Some v) = refl
split_place false o = refl

-- a fragment without a register
abbrev pub without : ℕ → Fragment → Fragment
without r f = record f { registers = λ at. if at == r then None else f.registers at }

-- is what is left of it where the register is taken off
pub taken_off :
    (f : Fragment) (r : ℕ) (v : Value) → f.registers r ≡ Some v →
    Join f (one_register r v) (without r f)
taken_off f r v there = record { registers = λ at. by at (at == r) refl; cells = λ i. refl }
  where
    by :
        (at : ℕ) (b : Bool) → (at == r) ≡ b →
        JoinAt (f.registers at) (if b then Some v else None) (if b then None else f.registers at)
    by at true is = subst (λ k. f.registers k ≡ Some v) (sym (eqb-true at r is)) there
    by at false is = refl

-- nothing at a place adds nothing
alone_at : {A : Type 0} (o : Option A) → JoinAt o o None
alone_at None = refl
alone_at (Some v) = refl

-- nothing adds nothing
pub with_nothing : (p : Fragment) → Join p p nothing
with_nothing p = record {
  registers = λ at. alone_at (p.registers at);
  cells = λ index. alone_at (p.cells index);
}

-- two unions of the same parts at one place
same_at : {A : Type 0} (p q f g : Option A) → JoinAt p f g → JoinAt q f g → p ≡ q
same_at p q None g h k = h ∙ sym k
same_at p q (Some v) None h k = h ∙ sym k
same_at p q (Some v) (Some w) h k = absurd h

-- fragments that agree everywhere
same_fragment :
    {p q : Fragment} → p.registers ≡ q.registers → p.cells ≡ q.cells → p ≡ q
same_fragment {p} {q} r c =
    ap₂ (λ (registers : ℕ → Option Value) (cells : ℕ → Option ℕ).
    record { registers = registers; cells = cells }) r c

-- a union is determined by its parts
pub determined : {p q f g : Fragment} → Join p f g → Join q f g → p ≡ q
determined {p} {q} {f} {g} h k = same_fragment
    (fun_ext (λ at. same_at _ _ _ _ (h.registers at) (k.registers at)))
    (fun_ext (λ index. same_at _ _ _ _ (h.cells index) (k.cells index)))

-- unions of disjoint fragments are an algebra
pub joins_are_unions : JoinsAreUnions
joins_are_unions = record {
  symmetric = swapped;
  associative = regroup;
  unit = with_nothing;
  determined = determined;
}
