-- The job that the words after the program's name ask for.
use Rattle.std.specs.Prelude.{◌≡◌, ◌≤◌, ℕ, Bool, ◌||◌, ◌==◌, if◌then◌else◌, is_some}
use Rattle.std.specs.Prelude.{List, [], ◌∷◌, length, codes, Option, Some, None, Result, MatchResult}
use Rattle.std.specs.Option.{option_map}
use Rattle.std.specs.Str.{bytes_eq}
use Rattle.clap.specs.Words.{Row, Text, all_of, fault_of, first_of, matches_of}
use Rattle.kat_words.specs.Command.{words_command}
use Rattle.kat_words.specs.Limits.{most_calls, most_cycles, most_devices, most_generated}
use Rattle.kat_words.specs.Numbers.{devices_of, number_within}
use Rattle.kat_words.specs.declared.asked.Job.{Job}
use Rattle.kat_words.specs.declared.asked.Job.TheVariants.{Check, Print, Verify, Replay, Run, Gen}
use Rattle.kat_words.specs.declared.asked.WordsError.{WordsError}
use Rattle.kat_words.specs.declared.asked.WordsError.TheVariants.{Usage}

-- what the words give for each argument of the command
pub record Given : Type 0 where
  pub job : Option Text
  pub files : Option (List Text)
  pub cycles : Option Text
  pub calls : Option Text
  pub devices : Option Text

-- what the command's matches have for each argument
abbrev pub given_of : List Row → Given
given_of rows = record {
  job = first_of (codes "job") rows;
  files = all_of (codes "files") rows;
  cycles = first_of (codes "cycles") rows;
  calls = first_of (codes "calls") rows;
  devices = first_of (codes "devices") rows;
}

-- the number of an option's word, from low to high; none where the option is not given
abbrev pub number_given : ℕ → ℕ → Option Text → Option ℕ
number_given low high None = None
number_given low high (Some word) = number_within low high word

-- the devices of the option's word; the empty list where the option is not given
abbrev pub devices_given : Option Text → Option (List ℕ)
devices_given None = Some []
devices_given (Some word) = devices_of word

-- the run with these numbers, where all are there
abbrev pub run_with :
    Text → Text → Option ℕ → Option ℕ → Option (List ℕ) → Option Job
run_with spec image (Some cycles) (Some calls) (Some devices) =
    Some (Run spec image cycles calls devices)
run_with spec image _ _ _ = None

-- `run SPEC IMAGE --cycles N --calls N [--devices LIST]`
abbrev pub run_of : Given → List Text → Option Job
run_of g (spec ∷ image ∷ []) =
    run_with spec image (number_given 0 most_cycles g.cycles)
    (number_given 1 most_calls g.calls) (devices_given g.devices)
run_of g _ = None

-- `gen N`
abbrev pub gen_of : Text → Option Job
gen_of word = option_map Gen (number_within 1 most_generated word)

-- the jobs of one word
abbrev pub job_of_one : Text → Text → Option Job
job_of_one job file =
    if bytes_eq job (codes "check") then Some (Check file)
    else (if bytes_eq job (codes "print") then Some (Print file)
    else (if bytes_eq job (codes "verify") then Some (Verify file)
    else (if bytes_eq job (codes "gen") then gen_of file else None)))

-- the jobs without options
abbrev pub plain_of : Text → List Text → Option Job
plain_of job (file ∷ []) = job_of_one job file
plain_of job (spec ∷ report ∷ []) =
    if bytes_eq job (codes "replay") then Some (Replay spec report) else None
plain_of job _ = None

-- whether an option is given
abbrev pub has_option : Given → Bool
has_option g = is_some g.cycles || (is_some g.calls || is_some g.devices)

-- the job of this name, of these words behind it
abbrev pub job_named : Given → Option Text → Option (List Text) → Option Job
job_named g (Some job) (Some files) =
    if bytes_eq job (codes "run") then run_of g files
    else (if has_option g then None else plain_of job files)
job_named g _ _ = None

-- the job that is asked for by what is given
abbrev pub job_given : Given → Option Job
job_given g = job_named g g.job g.files

-- whether the command takes the words
abbrev pub takes_words : List Text → Bool
takes_words words = length (fault_of words_command words) == 0

-- the job of the words; none where the command does not take them, or what it finds is no job
unfoldable pub job_of : List Text → Option Job
job_of words =
    if takes_words words then job_given (given_of (matches_of words_command words)) else None

-- this value, or Usage exactly where there is none, or memory ran out
abbrev pub Gives : {T : Type 0} → Option T → Result T WordsError → Type 0
Gives wanted = λ r. MatchResult r (λ x. wanted ≡ Some x) (λ e. e ≡ Usage → wanted ≡ None)

-- the numbers of a run within their limits
pub record IsRunWithin (cycles calls : ℕ) (devices : List ℕ) : Type 0 where
  pub few_cycles : cycles ≤ most_cycles
  pub some_calls : 1 ≤ calls
  pub few_calls : calls ≤ most_calls
  pub few_devices : length devices ≤ most_devices

-- the number of `gen` within its limits
pub record IsGenWithin (number : ℕ) : Type 0 where
  pub some : 1 ≤ number
  pub few : number ≤ most_generated

-- each number of a job is within its limits
abbrev pub IsWithinLimits : Job → Type 0
IsWithinLimits (Run spec image cycles calls devices) = IsRunWithin cycles calls devices
IsWithinLimits (Gen number) = IsGenWithin number
IsWithinLimits _ = Unit {0}
