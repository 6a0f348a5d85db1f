-- Pieces that a sink takes one behind the other.
use Rattle.std.proofs.Common.{◌≡◌, ℕ, ◌+◌, List, [], ◌++◌, length, take, min, Option, None, Some, Ok, Err, refl, ap, sym, ◌∙◌, append_assoc, arith}
use Rattle.std.proofs.Math.Seq.{take-append-add}
use Rattle.std.proofs.lemmas.List.{append-nil, take_min, take-append-le}
use Rattle.kat_io.specs.Contents.{with_bytes, Grew}
use Rattle.kat_io.specs.SinkErrors.{faults_after_error}
use Rattle.kat_io.specs.WriteLaws.{WritesJoin, GaveUpInMore, GaveUpAtOnce}

with_both : (held : Option (List ℕ)) (front back : List ℕ) →
    with_bytes (with_bytes held front) back ≡ with_bytes held (front ++ back)
with_both None front back = refl
with_both (Some bytes) front back = ap Some (append_assoc bytes front back)

with_none : (held : Option (List ℕ)) → held ≡ with_bytes held []
with_none None = refl
with_none (Some bytes) = ap (λ x. Some x) (sym (append-nil bytes))

-- a prefix of a front is one of the whole
grew_more : (old new : Option (List ℕ)) (front back : List ℕ) →
    Grew old new front → Grew old new (front ++ back)
grew_more old new front back (n, e) =
    let shorter = sym (take-append-le (min n (length front)) front back (omega arith)) in
    (min n (length front), e ∙ ap (with_bytes old) (sym (take_min n front) ∙ shorter))

-- a front, and behind it a prefix of the rest
grew_after : (old between new : Option (List ℕ)) (front back : List ℕ) →
    between ≡ with_bytes old front → Grew between new back → Grew old new (front ++ back)
grew_after old between new front back first (n, e) =
    let part : List ℕ = take n back in (
      length front + n,
      e
          ∙ ap (λ held. with_bytes held part) first
          ∙ with_both old front part
          ∙ ap (with_bytes old) (sym (take-append-add front back n)),
    )

pub writes_join : WritesJoin
writes_join (Ok done) first second old between new a b = record {
  faults = b.faults ∙ a.faults;
  whole = b.whole
      ∙ ap (λ held. with_bytes held second) a.whole
      ∙ with_both old.contents first second;
  front = tt;
}
writes_join (Err error) first second old between new a b = record {
  faults = b.faults ∙ ap (faults_after_error error) a.faults;
  whole = tt;
  front = grew_after old.contents between.contents new.contents first second a.whole b.front;
}

pub gave_up_in_more : GaveUpInMore
gave_up_in_more error piece more old new a =
    let front = grew_more old.contents new.contents piece more a.front in
    record { faults = a.faults; whole = tt; front = front }

pub gave_up_at_once : GaveUpAtOnce
gave_up_at_once piece seen =
    record { faults = refl; whole = tt; front = (0, with_none seen.contents) }
