-- What plain words ask for, in words of their own.
use Rattle.std.specs.Prelude.{◌≡◌, ◌==◌, Bool, false, not, List, [], ◌∷◌, codes, Some}
use Rattle.clap.specs.Words.{Text}
use Rattle.kat_words.specs.Jobs.{job_of, run_with}
use Rattle.kat_words.specs.Limits.{most_calls, most_cycles}
use Rattle.kat_words.specs.Numbers.{number_within}

-- a word that is not empty and does not begin with a hyphen (45)
abbrev pub is_plain : Text → Bool
is_plain [] = false
is_plain (byte ∷ bytes) = not (byte == 45)

-- `run SPEC IMAGE --cycles N --calls N`
abbrev pub words_of_run : Text → Text → Text → Text → List Text
words_of_run spec image cycles calls =
    codes "run" ∷ spec ∷ image ∷ codes "--cycles" ∷ cycles ∷ codes "--calls" ∷ calls ∷ []

-- these words are the run with these numbers, if they are within their limits, and else no job
abbrev pub RunIsRead : Text → Text → Text → Text → Type 0
RunIsRead spec image cycles calls =
    job_of (words_of_run spec image cycles calls)
    ≡ run_with spec image (number_within 0 most_cycles cycles)
    (number_within 1 most_calls calls) (Some [])
