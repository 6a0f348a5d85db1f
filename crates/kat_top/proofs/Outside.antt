-- What came of an input whose bytes are told: it was taken or refused by them, or something outside
-- failed.
use Rattle.std.proofs.Common.{◌≡◌, ℕ, ◌≤◌, ◌<◌, ◌⊎◌, inl, inr, List, length, Option, None, Some, Ok, Err, refl, ap, sym, subst, ◌∙◌, arith}
use Rattle.std.specs.Prelude.{IsSome, IfSome}
use Rattle.kat_io.specs.Counts.{Rose}
use Rattle.kat_io.specs.Seen.{FilesSeen}
use Rattle.kat_top.specs.declared.fault.Fault.{Fault}
use Rattle.kat_top.specs.declared.inputs.InputError.{InputError}
use Rattle.kat_top.specs.declared.inputs.InputError.TheVariants as why
use Rattle.kat_top.specs.declared.status.Status.TheVariants as status
use Rattle.kat_top.specs.Answers.{Answer, answer_of_fault, answer_of_error, out_of_memory}
use Rattle.kat_top.specs.FileLaws.{FileLaws}
use Rattle.kat_top.specs.Given.{StopsAt}
use Rattle.kat_top.specs.Inputs.{Input, Thing, IsReadAs, IsRefusedAs}
use Rattle.kat_top.specs.Limits.{most_bytes}
use Rattle.kat_top.specs.Judging.{Told, IsTakenAs, IsRefused}
use Rattle.kat_top.specs.Loading.{WereRead, Came, Loads}
use Rattle.kat_top.specs.Owed.{RefusedWith}
use Rattle.kat_top.proofs.Judged.{one_thing, one_fault, not_both}

-- a read failed and was counted, or memory ran out
abbrev pub IsOutside : Answer → FilesSeen → FilesSeen → Type 0
IsOutside answer before after = ((answer.status ≡ status.ReadFault) × Rose before.faults after.faults) ⊎ (answer ≡ out_of_memory)

pub rose_before : (a b c : ℕ) → a ≤ b → Rose b c → Rose a c
rose_before a b c le rose = omega arith

pub outside_before : (answer : Answer) (before between after : FilesSeen) → before.faults ≤ between.faults → IsOutside answer between after → IsOutside answer before after
outside_before answer before between after le (inl x) = inl (x.0, rose_before before.faults between.faults after.faults le x.1)
outside_before answer before between after le (inr x) = inr x

-- the bytes of a file that tells them
pub some_bytes : (t : Option (List ℕ)) → IsSome t → (bytes : List ℕ) × (t ≡ Some bytes)
some_bytes (Some bytes) is = (bytes, refl)
some_bytes None is = absurd (cc)

-- bytes that were read are those that are told
are_told : (t : Option (List ℕ)) (told bytes : List ℕ) → t ≡ Some told → WereRead t bytes → t ≡ Some bytes
are_told t told bytes is read = is ∙ ap Some (sym (subst (λ u. IfSome u (λ s. bytes ≡ s)) is read.as_told))

pub taken_is : (earlier : List Thing) (input : Input) (thing : Thing) (before after : FilesSeen) (bytes : List ℕ) →
    before.told input.name ≡ Some bytes → Loads earlier input (Ok thing) before after → IsTakenAs before.told earlier input thing
taken_is earlier input thing before after bytes is loads = record {
  bytes = loads.came.bytes;
  is_told = are_told (before.told input.name) bytes loads.came.bytes is loads.came.were_read;
  few = loads.came.were_read.few;
  reads = loads.came.reads;
}

error_is : (earlier : List Thing) (input : Input) (error : InputError) (before after : FilesSeen) (answer : Answer) (bytes : List ℕ) →
    before.told input.name ≡ Some bytes → Came earlier input (Err error) before after → answer ≡ answer_of_error error →
    IsOutside answer before after ⊎ RefusedWith before.told answer earlier input
error_is earlier input why.Memory before after answer bytes is came said = inl (inr said)
error_is earlier input (why.Fault fault) before after answer bytes is (inl failed) said =
    inl (inl (ap (λ (a : Answer). a.status) (said ∙ ap answer_of_fault failed.said_is), failed.rose))
error_is earlier input (why.Fault fault) before after answer bytes is (inr (inl long)) said =
    inr (inl (
      record { bytes = bytes; is_told = is; many = subst (λ t. IfSome t (λ b. most_bytes < length b)) is long.many },
      said ∙ ap answer_of_fault long.said_is,
    ))
error_is earlier input (why.Fault fault) before after answer bytes is (inr (inr refused)) said =
    inr (inr (
      fault,
      record {
        bytes = refused.bytes;
        is_told = are_told (before.told input.name) bytes refused.bytes is refused.were_read;
        few = refused.were_read.few;
        refuses = refused.refuses;
      },
      said,
    ))

pub stop_is : (earlier : List Thing) (input : Input) (before after : FilesSeen) (answer : Answer) (bytes : List ℕ) →
    before.told input.name ≡ Some bytes → StopsAt earlier input before after answer →
    IsOutside answer before after ⊎ RefusedWith before.told answer earlier input
stop_is earlier input before after answer bytes is stop =
    error_is earlier input stop.error before after answer bytes is stop.loads.came stop.answer_is

pub same_bytes : (t : Option (List ℕ)) (a b : List ℕ) → t ≡ Some a → t ≡ Some b → a ≡ b
same_bytes t a b x y = cc

module _ (told : Told) (input : Input) where
  pub few_or_many : (a b : List ℕ) → told input.name ≡ Some a → told input.name ≡ Some b → length a ≤ most_bytes → most_bytes < length b → ⊥
  few_or_many a b x y few many =
      let e : length a ≡ length b = ap length (same_bytes (told input.name) a b x y) in omega arith

module _ (laws : FileLaws) (told : Told) (earlier : List Thing) (input : Input) where
  pub same_thing : (a b : Thing) → IsTakenAs told earlier input a → IsTakenAs told earlier input b → a ≡ b
  same_thing a b x y =
      let e = same_bytes (told input.name) y.bytes x.bytes y.is_told x.is_told in
      one_thing laws earlier input.kind x.bytes a b x.reads (subst (λ bytes. IsReadAs earlier input.kind bytes b) e y.reads)

  same_fault : (a b : Fault) → IsRefused told earlier input a → IsRefused told earlier input b → a ≡ b
  same_fault a b x y =
      let e = same_bytes (told input.name) y.bytes x.bytes y.is_told x.is_told in
      one_fault laws earlier input.kind x.bytes a b x.refuses (subst (λ bytes. IsRefusedAs earlier input.kind bytes b) e y.refuses)

  pub not_refused : (thing : Thing) (answer : Answer) → IsTakenAs told earlier input thing → RefusedWith told answer earlier input → ⊥
  not_refused thing answer x (inl long) = few_or_many told input x.bytes long.0.bytes x.is_told long.0.is_told x.few long.0.many
  not_refused thing answer x (inr (said, y, is)) =
      let e = same_bytes (told input.name) y.bytes x.bytes y.is_told x.is_told in
      not_both laws earlier input.kind x.bytes thing said x.reads (subst (λ bytes. IsRefusedAs earlier input.kind bytes said) e y.refuses)

  pub refused_once : (a b : Answer) → RefusedWith told a earlier input → RefusedWith told b earlier input → a ≡ b
  refused_once a b (inl x) (inl y) = x.1 ∙ sym y.1
  refused_once a b (inl x) (inr (said, y, is)) = absurd (few_or_many told input y.bytes x.0.bytes y.is_told x.0.is_told y.few x.0.many)
  refused_once a b (inr (said, x, is)) (inl y) = absurd (few_or_many told input x.bytes y.0.bytes x.is_told y.0.is_told x.few y.0.many)
  refused_once a b (inr (r, x, is)) (inr (s, y, other)) = is ∙ ap answer_of_fault (same_fault r s x y) ∙ sym other
