-- Both branches of an `if`, and the scope of a name.
use Rattle.std.proofs.Common.{◌≡◌, ◌≤◌, ◌||◌, ◌&&◌, Bool, true, false, if◌then◌else◌, List, [], ◌∷◌, ◌++◌, length, take, drop, filter, Result, Ok, Err, refl, sym, ap, subst, ◌∙◌, arith, length-append}
use Rattle.std.proofs.Math.Seq.{take-append_seam, drop-append_seam}
use Rattle.std.proofs.lemmas.List.{append-nil}
use Rattle.kat_syntax.specs.Tables.{Name}
use Rattle.kat_syntax.specs.Modes.{Reading, Reader, and_read, is_in, join_branch, read_branches}
use Rattle.kat_mode.specs.declared.stop.Stop.{Stop}
use Rattle.kat_mode.specs.declared.stop.Stop.TheVariants.{At, Memory}
use Rattle.kat_mode.specs.Turning.{is_unbound, unbound_too, all_bound, bound_among}
use Rattle.kat_mode.specs.Reading.{AreUnbound, GoesOn, Ends, Follows}
use Rattle.kat_mode.proofs.Turning.{in_filtered, never_turned, join, all_bound_on, one_unbound}
use Rattle.kat_mode.proofs.Going.{further_ends}

-- names that never turned are bound, so those that are unbound are among those that turned
among_turned : (a b : Bool) → (a ≡ false → b ≡ false) → (a && b) ≡ b
among_turned true b bound = refl
among_turned false b bound = sym (bound refl)

-- behind any names that turned some are unbound
pub some_unbound : (turned : List Name) → AreUnbound (filter (is_unbound turned) turned) turned
some_unbound turned = λ x.
    in_filtered (is_unbound turned) turned x
    ∙ among_turned (is_in turned x) (is_unbound turned x) (never_turned turned x)

on_of : (old new : List Name) (reading : Reading) → Ends old new (Ok tt) reading → GoesOn old new
on_of old new reading (u, read, here, on) = on

-- what was read goes on
pub goes_on : (part : Reader) (old new : List Name) → Follows part old new (Ok tt) → GoesOn old new
goes_on part old new follows =
    on_of old new (part (filter (is_unbound old) old))
    (follows (filter (is_unbound old) old) (some_unbound old))

pub not_fewer : (old new : List Name) → GoesOn old new → length old ≤ length new
not_fewer old new (more, is) = omega (arith, ap length is, length-append old more)

pub turned_back : (old new : List Name) → GoesOn old new → take (length old) new ≡ old
turned_back old new (more, is) = ap (take (length old)) is ∙ take-append_seam old more

behind : (old new : List Name) (more : List Name) → new ≡ old ++ more → drop (length old) new ≡ more
behind old new more is = ap (drop (length old)) is ∙ drop-append_seam old more

-- the names that both branches bind
abbrev pub both_bound : List Name → List Name → List Name → List Name
both_bound t0 t1 t2 = bound_among t2 (bound_among t1 (drop (length t0) t1))

same_both : (t0 t1 t2 m1 : List Name) → t1 ≡ t0 ++ m1 →
    both_bound t0 t1 t2 ≡ bound_among t2 (bound_among (t0 ++ m1) m1)
same_both t0 t1 t2 m1 is =
    ap (λ m. bound_among t2 (bound_among t1 m)) (behind t0 t1 m1 is)
    ∙ ap (λ t. bound_among t2 (bound_among t m1)) is

joined : (a b : Reader) (u t0 t1 t2 : List Name) → AreUnbound u t0 → Ends t0 t1 (Ok tt) (a u) →
    Ends t0 t2 (Ok tt) (b u) →
    Ends t0 (all_bound t0 (both_bound t0 t1 t2)) (Ok tt) (read_branches a b u)
joined a b u t0 t1 t2 here (first, ra, ha, (m1, on1)) (second, rb, hb, (m2, on2)) = (
  filter (λ x. is_in first x || is_in second x) u,
  ap (λ r. and_read r (λ behind. join_branch u behind (b u))) ra ∙ ap (join_branch u first) rb,
  subst (AreUnbound (filter (λ x. is_in first x || is_in second x) u))
      (ap (all_bound t0) (ap (λ t. bound_among t (bound_among (t0 ++ m1) m1)) (sym on2) ∙ sym
      (same_both t0 t1 t2 m1 on1)))
      (join u first second t0 m1 m2 here (subst (AreUnbound first) on1 ha)
      (subst (AreUnbound second) on2 hb)),
  all_bound_on t0 (both_bound t0 t1 t2),
)

-- both branches were read
pub both_branches : (a b : Reader) (t0 t1 t2 : List Name) → Follows a t0 t1 (Ok tt) →
    Follows b t0 t2 (Ok tt) →
    Follows (read_branches a b) t0 (all_bound t0 (both_bound t0 t1 t2)) (Ok tt)
both_branches a b t0 t1 t2 first second = λ u here. joined a b u t0 t1 t2 here (first u here)
    (second u here)

second_stops : (a b : Reader) (u t0 t1 t2 end : List Name) (error : Stop) →
    Ends t0 t1 (Ok tt) (a u) → Ends t0 t2 (Err error) (b u) →
    Ends t0 end (Err error) (read_branches a b u)
second_stops a b u t0 t1 t2 end (At x) (first, ra, ha, on) stops =
    ap (λ r. and_read r (λ behind. join_branch u behind (b u))) ra ∙ ap (join_branch u first) stops
second_stops a b u t0 t1 t2 end Memory first stops = tt

-- the second branch stops
pub second_branch_stops : (a b : Reader) (t0 t1 t2 end : List Name) (error : Stop) →
    Follows a t0 t1 (Ok tt) → Follows b t0 t2 (Err error) →
    Follows (read_branches a b) t0 end (Err error)
second_branch_stops a b t0 t1 t2 end error first second =
    λ u here. second_stops a b u t0 t1 t2 end error (first u here) (second u here)

unbound_by : (t : List Name) (x : Name) (b : Bool) → GoesOn t (if b then t else t ++ x ∷ [])
unbound_by t x true = ([], sym (append-nil t))
unbound_by t x false = (x ∷ [], refl)

-- what is read where one more name is unbound
pub within_scope : (body : Reader) (x : Name) (t0 t2 : List Name)
    (result : Result (Unit {0}) Stop) → Follows body (unbound_too t0 x) t2 result →
    Follows (λ u. body (x ∷ u)) t0 t2 result
within_scope body x t0 t2 result follows =
    λ u here. further_ends t0 (unbound_too t0 x) t2 result (body (x ∷ u))
    (unbound_by t0 x (is_unbound t0 x)) (follows (x ∷ u) (one_unbound u t0 x here))
