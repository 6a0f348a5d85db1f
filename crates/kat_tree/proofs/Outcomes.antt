-- From characters to bytes.
use Rattle.std.proofs.Common.{◌≡◌, ◌≢◌, ℕ, zero, suc, ◌≤◌, ◌<◌, List, length, take, take_all, Result, Ok, Err, sym, ap, ◌∙◌, subst, refl, arith, ⊎_elim}
use Rattle.std.specs.Prelude.{IfOk, IfErr}
use Rattle.std.specs.Str.{IsUtf8, is_utf8, IsValidUpTo, chars}
use Rattle.std.proofs.lemmas.Bool.{cases_Bool, both_ways, cases_eq, cases_lt}
use Rattle.std.proofs.lemmas.Str.{IsUtf8-from_is_utf8, is_utf8-from_IsUtf8, utf8_valid_len-IsValidUpTo, IsUtf8-nil}
use Rattle.kat_tree.specs.declared.error.TreeError.{TreeError}
use Rattle.kat_tree.specs.declared.error.TreeError.TheVariants.{NotText, Unclosed, Stray, BadToken, Deep, Memory}
use Rattle.kat_tree.specs.declared.tree.Tree.{Tree}
use Rattle.kat_tree.specs.Spelling.{Spells}
use Rattle.kat_tree.specs.Faults.{ReadsAs, IsFirstFault, Owes}
use Rattle.kat_tree.specs.Machine.{Fails, Gives, run, start}
use Rattle.kat_tree.proofs.Exact.{run_reads, reads_same}
use Rattle.kat_tree.proofs.Outcome.{reads_run}

-- what is owed for a text is how its characters read
owed_from : (bytes : List ℕ) (r : Result Tree TreeError) → IsUtf8 bytes → ReadsAs (chars bytes) r → Owes bytes r
owed_from bytes (Ok t) utf8 reads = (utf8, reads)
owed_from bytes (Err (NotText n)) utf8 reads = absurd reads
owed_from bytes (Err (Unclosed n)) utf8 reads = (utf8, reads)
owed_from bytes (Err (Stray n)) utf8 reads = (utf8, reads)
owed_from bytes (Err (BadToken n)) utf8 reads = (utf8, reads)
owed_from bytes (Err (Deep n)) utf8 reads = (utf8, reads)
owed_from bytes (Err Memory) utf8 reads = absurd reads

owed_reads : (bytes : List ℕ) (r : Result Tree TreeError) → IsUtf8 bytes → Owes bytes r → ReadsAs (chars bytes) r
owed_reads bytes (Ok t) utf8 owes = owes.1
owed_reads bytes (Err (NotText n)) utf8 owes = absurd (owes.0 utf8)
owed_reads bytes (Err (Unclosed n)) utf8 owes = owes.1
owed_reads bytes (Err (Stray n)) utf8 owes = owes.1
owed_reads bytes (Err (BadToken n)) utf8 owes = owes.1
owed_reads bytes (Err (Deep n)) utf8 owes = owes.1
owed_reads bytes (Err Memory) utf8 owes = absurd owes

-- what is not a text has one fault alone
owed_no_text : (bytes : List ℕ) (r : Result Tree TreeError) (n : ℕ) → (IsUtf8 bytes → ⊥) → IsValidUpTo bytes n → Owes bytes r → Err (NotText n) ≡ r
owed_no_text bytes (Ok t) n no_text valid owes = absurd (no_text owes.0)
owed_no_text bytes (Err (NotText m)) n no_text valid owes =
    ap (λ k. Err (NotText k)) (sym (utf8_valid_len-IsValidUpTo bytes n valid) ∙ utf8_valid_len-IsValidUpTo bytes m owes.1)
owed_no_text bytes (Err (Unclosed m)) n no_text valid owes = absurd (no_text owes.0)
owed_no_text bytes (Err (Stray m)) n no_text valid owes = absurd (no_text owes.0)
owed_no_text bytes (Err (BadToken m)) n no_text valid owes = absurd (no_text owes.0)
owed_no_text bytes (Err (Deep m)) n no_text valid owes = absurd (no_text owes.0)
owed_no_text bytes (Err Memory) n no_text valid owes = absurd owes

-- what a reader returned is what is owed
pub gives_ok : (bytes : List ℕ) (r : Result Tree TreeError) → IsUtf8 bytes → Gives r (run 0 start (chars bytes)) → IfOk r (Spells bytes)
gives_ok bytes (Ok t) utf8 gives = owed_from bytes (Ok t) utf8 (subst (ReadsAs (chars bytes)) gives (run_reads (chars bytes)))
gives_ok bytes (Err e) utf8 gives = tt

fails_first : (bytes : List ℕ) (e : TreeError) → IsUtf8 bytes → Fails e (run 0 start (chars bytes)) → e ≢ Memory → IsFirstFault bytes e
fails_first bytes (NotText n) utf8 fails other = owed_from bytes (Err (NotText n)) utf8 (subst (ReadsAs (chars bytes)) fails (run_reads (chars bytes)))
fails_first bytes (Unclosed n) utf8 fails other = owed_from bytes (Err (Unclosed n)) utf8 (subst (ReadsAs (chars bytes)) fails (run_reads (chars bytes)))
fails_first bytes (Stray n) utf8 fails other = owed_from bytes (Err (Stray n)) utf8 (subst (ReadsAs (chars bytes)) fails (run_reads (chars bytes)))
fails_first bytes (BadToken n) utf8 fails other = owed_from bytes (Err (BadToken n)) utf8 (subst (ReadsAs (chars bytes)) fails (run_reads (chars bytes)))
fails_first bytes (Deep n) utf8 fails other = owed_from bytes (Err (Deep n)) utf8 (subst (ReadsAs (chars bytes)) fails (run_reads (chars bytes)))
fails_first bytes Memory utf8 fails other = absurd (other refl)

pub gives_fault : (bytes : List ℕ) (r : Result Tree TreeError) → IsUtf8 bytes → Gives r (run 0 start (chars bytes)) → IfErr r (λ fault. fault ≢ Memory → IsFirstFault bytes fault)
gives_fault bytes (Ok t) utf8 gives = tt
gives_fault bytes (Err e) utf8 gives = λ other. fails_first bytes e utf8 gives other

pub gives_owed : (bytes : List ℕ) (r owed : Result Tree TreeError) → IsUtf8 bytes → Gives r (run 0 start (chars bytes)) → Owes bytes owed → Gives r owed
gives_owed bytes r owed utf8 gives owes = subst (Gives r) (reads_run (chars bytes) owed (owed_reads bytes owed utf8 owes)) gives

pub no_text_owed : (bytes : List ℕ) (owed : Result Tree TreeError) (n : ℕ) → (IsUtf8 bytes → ⊥) → IsValidUpTo bytes n → Owes bytes owed → Gives {A = Tree} (Err (NotText n)) owed
no_text_owed bytes owed n no_text valid owes = sym (owed_no_text bytes owed n no_text valid owes)

-- the longest front up to a place that is a text
abbrev LongestBelow : List ℕ → ℕ → ℕ → Type 0
LongestBelow bytes k n = (n ≤ k) × (IsUtf8 (take n bytes) × ((m : ℕ) → n < m → m ≤ k → IsUtf8 (take m bytes) → ⊥))

longer : (bytes : List ℕ) (k n : ℕ) → LongestBelow bytes k n → (IsUtf8 (take (suc k) bytes) → ⊥) → LongestBelow bytes (suc k) n
longer bytes k n is none =
    let below = is.0 in (
      omega arith,
      (
        is.1.0,
        λ m above most utf8. ⊎_elim
            (λ same. none (subst (λ i. IsUtf8 (take i bytes)) same utf8))
            (λ other. is.1.1 m above (omega arith) utf8)
            (cases_eq m (suc k)),
      ),
    )

longest_below : (bytes : List ℕ) (k : ℕ) → (n : ℕ) × LongestBelow bytes k n
longest_below bytes zero = (0, (omega arith, (IsUtf8-nil, λ m above most utf8. absurd (omega arith))))
longest_below bytes (suc k) = ⊎_elim
    (λ is. (suc k, (omega arith, (IsUtf8-from_is_utf8 (take (suc k) bytes) is, λ m above most utf8. absurd (omega arith)))))
    (λ is. let below = longest_below bytes k in
    (below.0, longer bytes k below.0 below.1 (λ utf8. both_ways (is_utf8 (take (suc k) bytes)) is (is_utf8-from_IsUtf8 (take (suc k) bytes) utf8))))
    (cases_Bool (is_utf8 (take (suc k) bytes)))

valid_front : (bytes : List ℕ) → (IsUtf8 bytes → ⊥) → (n : ℕ) × IsValidUpTo bytes n
valid_front bytes no_text =
    let is = longest_below bytes (length bytes) in
    let whole : (m : ℕ) → length bytes ≤ m → IsUtf8 (take m bytes) → ⊥ = λ m past utf8. no_text (subst IsUtf8 (take_all m bytes past) utf8) in (
      is.0,
      record {
        short = ⊎_elim (λ less. less) (λ past. absurd (whole is.0 past is.1.1.0)) (cases_lt is.0 (length bytes));
        front = is.1.1.0;
        longest = λ m above utf8. ⊎_elim (λ less. let h : m ≤ length bytes = omega arith in is.1.1.1 m above h utf8) (λ past. whole m past utf8) (cases_lt m (length bytes));
      },
    )

-- something is owed for all bytes
pub something_owed : (bytes : List ℕ) → (r : Result Tree TreeError) × Owes bytes r
something_owed bytes = ⊎_elim
    (λ is. (run 0 start (chars bytes), owed_from bytes (run 0 start (chars bytes)) (IsUtf8-from_is_utf8 bytes is) (run_reads (chars bytes))))
    (λ is. let no_text : IsUtf8 bytes → ⊥ = λ utf8. both_ways (is_utf8 bytes) is (is_utf8-from_IsUtf8 bytes utf8) in
    let valid = valid_front bytes no_text in (Err (NotText valid.0), (no_text, valid.1)))
    (cases_Bool (is_utf8 bytes))

-- one outcome is owed for bytes, and no second
pub owed_same : (bytes : List ℕ) (r s : Result Tree TreeError) → Owes bytes r → Owes bytes s → r ≡ s
owed_same bytes r s first second = ⊎_elim
    (λ is. let utf8 = IsUtf8-from_is_utf8 bytes is in reads_same (chars bytes) r s (owed_reads bytes r utf8 first) (owed_reads bytes s utf8 second))
    (λ is. let no_text : IsUtf8 bytes → ⊥ = λ utf8. both_ways (is_utf8 bytes) is (is_utf8-from_IsUtf8 bytes utf8) in
    let valid = valid_front bytes no_text in
    sym (owed_no_text bytes r valid.0 no_text valid.1 first) ∙ owed_no_text bytes s valid.0 no_text valid.1 second)
    (cases_Bool (is_utf8 bytes))

ok_same : (t u : Tree) (r s : Result Tree TreeError) → r ≡ Ok t → s ≡ Ok u → r ≡ s → t ≡ u
ok_same t u r s first second e = cc

pub one_tree : (bytes : List ℕ) (first second : Tree) → Spells bytes first → Spells bytes second → first ≡ second
one_tree bytes first second a b = ok_same first second (Ok first) (Ok second) refl refl (owed_same bytes (Ok first) (Ok second) a b)
