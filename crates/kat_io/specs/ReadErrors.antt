-- What a read says by its answer.
use Rattle.std.specs.Prelude.{ℕ, ◌≡◌, ◌+◌, ◌<◌, ◌⊎◌, List, [], ◌∷◌, ◌++◌, length, Option, IfSome, Result, Ok, Err, ⊤}
use Rattle.kat_io.specs.declared.reading.ReadError.{ReadError}
use Rattle.kat_io.specs.declared.reading.ReadError.TheVariants.{Failed, TooLong, Memory}
use Rattle.kat_io.specs.Counts.{next_count}

-- the count of faults behind a read: a read that failed is one more
abbrev pub faults_after_read : {T : Type 0} → Result T ReadError → ℕ → ℕ
faults_after_read (Ok done) faults = faults
faults_after_read (Err Failed) faults = next_count faults
faults_after_read (Err (TooLong taken)) faults = faults
faults_after_read (Err Memory) faults = faults

-- the number of overlong reads behind a read: one that found too many bytes is one more
abbrev pub overlong_after_read : {T : Type 0} → Result T ReadError → ℕ → ℕ
overlong_after_read (Ok done) overlong = overlong
overlong_after_read (Err Failed) overlong = overlong
overlong_after_read (Err (TooLong taken)) overlong = next_count overlong
overlong_after_read (Err Memory) overlong = overlong

-- the reads that were made, with their names and limits, in order
abbrev pub ReadList : Type 0
ReadList = List (List ℕ × ℕ)

-- the read was added at the end of the list of reads; only for want of memory may it be missing
abbrev pub IsNoted : {T : Type 0} → Result T ReadError → ReadList → ReadList → List ℕ × ℕ → Type 0
IsNoted (Ok done) old new read = new ≡ old ++ read ∷ []
IsNoted (Err Failed) old new read = new ≡ old ++ read ∷ []
IsNoted (Err (TooLong taken)) old new read = new ≡ old ++ read ∷ []
IsNoted (Err Memory) old new read = (new ≡ old ++ read ∷ []) ⊎ (new ≡ old)

-- the fact of the number of bytes that were taken, where the error is that they were too many
abbrev pub IfTooLong : ReadError → (ℕ → Type 0) → Type 0
IfTooLong Failed P = ⊤
IfTooLong (TooLong taken) P = P taken
IfTooLong Memory P = ⊤

-- one byte more than the limit was taken, and bytes that are told are more than the limit
pub record WentPast (told : Option (List ℕ)) (limit taken : ℕ) : Type 0 where
  pub taken_is : taken ≡ limit + 1
  pub longer : IfSome told (λ bytes. limit < length bytes)

-- the read gives this answer, unless memory ran out
abbrev pub Answers : {T : Type 0} → Result T ReadError → Result T ReadError → Type 0
Answers (Ok done) wanted = wanted ≡ Ok done
Answers (Err Failed) wanted = wanted ≡ Err Failed
Answers (Err (TooLong taken)) wanted = wanted ≡ Err (TooLong taken)
Answers (Err Memory) wanted = ⊤
