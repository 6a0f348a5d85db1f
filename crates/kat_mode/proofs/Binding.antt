-- Names that values and equations bind; and what is left of a list.
use Rattle.std.proofs.Common.{◌≡◌, ℕ, ◌+◌, ◌<◌, Bool, true, false, if◌then◌else◌, List, [], ◌∷◌, length, drop, get_or, suc, drop-cons, Option, None, Some, Ok, refl, sym, ap, subst, ◌∙◌, arith}
use Rattle.std.specs.Option.{option_map}
use Rattle.kat_syntax.specs.Tables.{Name}
use Rattle.kat_syntax.specs.Modes.{Reading, Read, Stopped, bind_or, first_in, is_in, leave, read_alone, read_equation, read_names, read_value, unless_stopped, Used, without}
use Rattle.kat_mode.specs.Turning.{is_unbound, bound_too}
use Rattle.kat_mode.specs.Reading.{AreUnbound, Ends, Follows}
use Rattle.kat_mode.proofs.Turning.{one_bound, bound_turns}
use Rattle.kat_mode.proofs.Going.{all_left}

-- what is left of a list begins with the item at hand
pub rest_is : {A : Type 0} (xs : List A) (i : ℕ) (x : A) → i < length xs → x ≡ get_or xs i x →
    drop i xs ≡ x ∷ drop (i + 1) xs
rest_is xs i x within is =
    drop-cons xs i x within ∙ ap (λ y. y ∷ drop (suc i) xs) (sym is)
    ∙ ap (λ n. x ∷ drop n xs) (let e : suc i ≡ i + 1 = omega arith in e)

left_by : (x : Name) (u t : List Name) (b : Bool) → is_unbound t x ≡ b → AreUnbound u t →
    is_in u x ≡ b
left_by x u t b is here = here x ∙ is

if_true : {A : Type 0} (b : Bool) (x y : A) → b ≡ true → (if b then x else y) ≡ x
if_true true x y is = refl
if_true false x y is = absurd (cc)

if_false : {A : Type 0} (b : Bool) (x y : A) → b ≡ false → (if b then x else y) ≡ y
if_false true x y is = absurd (cc)
if_false false x y is = refl

bound_is_left : (x : Name) (u old : List Name) → is_unbound old x ≡ false → AreUnbound u old →
    leave x u ≡ Read u
bound_is_left x u old is here = if_false (is_in u x) (Stopped x) (Read u)
    (left_by x u old false is here)

-- a bound name is none
pub bound_goes_on : (x : Name) (old : List Name) → is_unbound old x ≡ false →
    Follows (leave x) old old (Ok tt)
bound_goes_on x old is = λ u here. subst (Ends old old (Ok tt))
    (sym (bound_is_left x u old is here)) (all_left (λ v. Read v) old u here)

-- an unbound name that is bound by a value
bound_ends : (x : Name) (u old new : List Name) (reading : Reading) → is_unbound old x ≡ true →
    AreUnbound u old → new ≡ bound_too old x → Ends old new (Ok tt) (bind_or x reading u)
bound_ends x u old new reading is here turns = (
  without x u,
  if_true (is_in u x) (Read (without x u)) reading (left_by x u old true is here),
  subst (AreUnbound (without x u)) (sym (turns ∙ bound_turns old x is))
      (one_bound u old x is here),
  (x ∷ [], turns ∙ bound_turns old x is),
)

-- a value that is an unbound name
pub value_binds : (used : Used) (x : Name) (old new : List Name) → used.alone ≡ Some x →
    is_unbound old x ≡ true → new ≡ bound_too old x → Follows (read_value used) old new (Ok tt)
value_binds used x old new alone is turns =
    λ u here. subst (λ a. Ends old new (Ok tt) (read_alone a (read_names used.names u) u))
    (sym alone) (bound_ends x u old new (read_names used.names u) is here turns)

equation_holds : (x : Name) (names : List Name) (u old new : List Name) (first : Option Name) →
    is_unbound old x ≡ true → AreUnbound u old → new ≡ bound_too old x →
    Ends old old (Ok tt) (unless_stopped first (Read u)) →
    Ends old new (Ok tt) (unless_stopped (option_map (λ y. x) first) (Read (without x u)))
equation_holds x names u old new None is here turns asks = (
  without x u,
  refl,
  subst (AreUnbound (without x u)) (sym (turns ∙ bound_turns old x is))
      (one_bound u old x is here),
  (x ∷ [], turns ∙ bound_turns old x is),
)
equation_holds x names u old new (Some y) is here turns (v, read, there, on) = absurd (cc)

-- all names in what a name is equal to are bound
pub equation_binds : (x : Name) (names old new : List Name) → is_unbound old x ≡ true →
    new ≡ bound_too old x → Follows (read_names names) old old (Ok tt) →
    Follows (read_equation (Some (x, names)) (Stopped x)) old new (Ok tt)
equation_binds x names old new is turns asks =
    λ u here. subst (Ends old new (Ok tt))
    (sym (if_true (is_in u x)
    (unless_stopped (option_map (λ y. x) (first_in u names)) (Read (without x u))) (Stopped x)
    (left_by x u old true is here)))
    (equation_holds x names u old new (first_in u names) is here turns (asks u here))
