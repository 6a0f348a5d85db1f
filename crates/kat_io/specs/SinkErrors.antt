-- What a write says by its answer.
use Rattle.std.specs.Prelude.{ℕ, ◌≡◌, Result, Ok, Err, ⊤}
use Rattle.kat_io.specs.declared.writing.SinkError.{SinkError}
use Rattle.kat_io.specs.declared.writing.SinkError.TheVariants.{Failed, Memory}
use Rattle.kat_io.specs.Counts.{next_count}

-- the count of faults behind a write that gave up: a write that failed is one more
abbrev pub faults_after_error : SinkError → ℕ → ℕ
faults_after_error Failed faults = next_count faults
faults_after_error Memory faults = faults

-- the count of faults behind a write
abbrev pub faults_after_write : {T : Type 0} → Result T SinkError → ℕ → ℕ
faults_after_write (Ok done) faults = faults
faults_after_write (Err error) faults = faults_after_error error faults

-- the write gives this answer, unless memory ran out
abbrev pub Answers : {T : Type 0} → Result T SinkError → Result T SinkError → Type 0
Answers (Ok done) wanted = wanted ≡ Ok done
Answers (Err Failed) wanted = wanted ≡ Err Failed
Answers (Err Memory) wanted = ⊤
