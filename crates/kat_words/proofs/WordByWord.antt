-- What the definition of the job comes to for words that are partly written out.
use Rattle.std.proofs.Common.{◌≡◌, ◌==◌, ◌∙◌, ℕ, ap, ap₂, sym, refl, true, false, true≢false}
use Rattle.std.proofs.Common.{List, [], ◌∷◌, Some, None, length, is_some, codes, if◌then◌else◌}
use Rattle.std.specs.List.{fold}
use Rattle.clap.specs.Words.{Text, built, fault_of, matches_of}
use Rattle.clap.specs.Faults.{check_fault, defaults_fault, entered_fault, settle_fault}
use Rattle.clap.specs.Faults.{turn_fault, walk_fault}
use Rattle.clap.specs.Kinds.{Kinds, or_else}
use Rattle.clap.specs.Walk.{Walk, idle, positional, settled, walk_from}
use Rattle.clap.specs.Walk.{nothing_held, walked, finished}
use Rattle.clap.specs.Simple.{Shape, entered}
use Rattle.clap.proofs.SimpleLemmas.{is_false}
use Rattle.clap.proofs.OnLiterals.{clap_on_literals}
use Rattle.kat_words.specs.Command.{words_command}
use Rattle.kat_words.specs.Law.{RunIsRead, is_plain, words_of_run}
use Rattle.kat_words.specs.declared.asked.Job.TheVariants.{Check}
use Rattle.kat_words.specs.Jobs.{Given, given_of, job_given, job_of}

-- a word of clap's: its first byte and the rest, where the first is no hyphen
abbrev IsNoHyphen : ℕ → Type 0
IsNoHyphen byte = (byte == 45) ≡ false

abbrev shape : Shape
shape = (built words_command).top

-- where clap is after one word more
abbrev next : Walk → Text → Walk
next w word = walked shape.rules [] w word

-- clap takes the word and is there after it
abbrev HasStep : Walk → Text → Walk → Type 0
HasStep w word after = (turn_fault shape [] w word ≡ []) × (next w word ≡ after)

-- behind `run`
abbrev behind_run : Walk
behind_run = record {
  held = record { rows = []; pending = Some (codes "job", codes "run" ∷ []); skip = 0 };
  waiting = idle;
  position = 2;
  is_trailing = false;
  stopped = None;
}

-- behind `run` and these files
abbrev behind_files : List Text → Walk
behind_files files = record {
  held = record {
    rows = (settled shape.rules behind_run.held).rows;
    pending = Some (codes "files", files);
    skip = 0;
  };
  waiting = positional;
  position = 2;
  is_trailing = false;
  stopped = None;
}

run_step : HasStep (walk_from nothing_held) (codes "run") behind_run
unfolding clap_on_literals
run_step = (refl, refl)

spec_step : (a : ℕ) (spec : Text) → IsNoHyphen a
    → HasStep behind_run (a ∷ spec) (behind_files ((a ∷ spec) ∷ []))
unfolding clap_on_literals
spec_step a spec e = (simp e refl, simp e refl)

image_step : (spec : Text) (a : ℕ) (image : Text) → IsNoHyphen a
    → HasStep (behind_files (spec ∷ [])) (a ∷ image) (behind_files (spec ∷ (a ∷ image) ∷ []))
unfolding clap_on_literals
image_step spec a image e = (simp e refl, simp e refl)

-- behind `--cycles` too
abbrev behind_cycles : Text → Text → Walk
behind_cycles spec image = next (behind_files (spec ∷ image ∷ [])) (codes "--cycles")

-- behind an option's value
abbrev behind_count : Walk → Text → Text → Walk
behind_count w id word =
    record w { held = record w.held { pending = Some (id, word ∷ []) }; waiting = idle }

-- behind the number of cycles
abbrev behind_number : Text → Text → Text → Walk
behind_number spec image cycles = behind_count (behind_cycles spec image) (codes "cycles") cycles

-- behind `--calls` too
abbrev behind_calls : Text → Text → Text → Walk
behind_calls spec image cycles = next (behind_number spec image cycles) (codes "--calls")

-- behind the number of calls
abbrev behind_all : Text → Text → Text → Text → Walk
behind_all spec image cycles calls =
    behind_count (behind_calls spec image cycles) (codes "calls") calls

cycles_step : (spec image : Text)
    → HasStep (behind_files (spec ∷ image ∷ [])) (codes "--cycles") (behind_cycles spec image)
unfolding clap_on_literals
cycles_step spec image = (refl, refl)

cycles_word_step : (spec image : Text) (c : ℕ) (cs : Text) → IsNoHyphen c
    → HasStep (behind_cycles spec image) (c ∷ cs) (behind_number spec image (c ∷ cs))
unfolding clap_on_literals
cycles_word_step spec image c cs e = (simp e refl, simp e refl)

calls_step : (spec image cycles : Text)
    → HasStep (behind_number spec image cycles) (codes "--calls") (behind_calls spec image cycles)
unfolding clap_on_literals
calls_step spec image cycles = (refl, refl)

calls_word_step : (spec image cycles : Text) (c : ℕ) (cs : Text) → IsNoHyphen c
    → HasStep (behind_calls spec image cycles) (c ∷ cs) (behind_all spec image cycles (c ∷ cs))
unfolding clap_on_literals
calls_word_step spec image cycles c cs e = (simp e refl, simp e refl)

-- what clap finds at fault once all words are read
abbrev rest_fault : Walk → Kinds
rest_fault w = or_else (entered_fault (built words_command) w.stopped)
    (or_else (settle_fault shape.rules false w.held)
    (or_else (defaults_fault (settled shape.rules w.held).rows shape.rules)
    (check_fault shape (finished shape.rules w.held)
    (is_some (entered (built words_command) w.stopped)))))

-- clap takes the words and is there after them
abbrev Ends : Walk → List Text → Walk → Type 0
Ends w words after =
    (walk_fault shape [] w words ≡ []) × (fold (walked shape.rules []) w words ≡ after)

ends : (w : Walk) → Ends w [] w
unfolding walk_fault
ends w = (refl, refl)

one_more : (w v after : Walk) (word : Text) (rest : List Text) → HasStep w word v
    → Ends v rest after → Ends w (word ∷ rest) after
unfolding walk_fault
one_more w v after word rest s e = (
  ap₂ (λ a (u : Walk). or_else a (walk_fault shape [] u rest)) s.0 s.1 ∙ e.0,
  ap (λ (u : Walk). fold (walked shape.rules []) u rest) s.1 ∙ e.1,
)

-- clap takes the words and finds this in them
abbrev Finds : List Text → Walk → Type 0
Finds words w = (fault_of words_command words ≡ [])
    × (matches_of words_command words ≡ finished shape.rules w.held)

-- the words are taken where the walk ends well
found_where : (words : List Text) (w : Walk) → Ends (walk_from nothing_held) words w
    → rest_fault w ≡ [] → Finds words w
found_where words w e r = (
  ap₂ (λ a (u : Walk). or_else a (rest_fault u)) e.0 e.1 ∙ r,
  ap (λ (u : Walk). finished shape.rules u.held) e.1,
)

rest_none : (spec image cycles calls : Text)
    → rest_fault (behind_all spec image cycles calls) ≡ []
unfolding clap_on_literals
rest_none spec image cycles calls = refl

-- a run without devices
abbrev run_given : Text → Text → Text → Text → Given
run_given spec image cycles calls = record {
  job = Some (codes "run");
  files = Some (spec ∷ image ∷ []);
  cycles = Some cycles;
  calls = Some calls;
  devices = None;
}

rows_given : (spec image cycles calls : Text)
    → given_of (finished shape.rules (behind_all spec image cycles calls).held)
    ≡ run_given spec image cycles calls
unfolding clap_on_literals
rows_given spec image cycles calls = refl

-- the words of a run end behind its number of calls
run_ends : (a b c d : ℕ) (spec image cycles calls : Text) → IsNoHyphen a → IsNoHyphen b
    → IsNoHyphen c → IsNoHyphen d
    → Ends (walk_from nothing_held) (words_of_run (a ∷ spec) (b ∷ image) (c ∷ cycles) (d ∷ calls))
    (behind_all (a ∷ spec) (b ∷ image) (c ∷ cycles) (d ∷ calls))
run_ends a b c d spec image cycles calls e f g h =
    let s : Text = a ∷ spec in
    let i : Text = b ∷ image in
    let n : Text = c ∷ cycles in
    one_more _ _ _ _ _ run_step
    (one_more _ _ _ _ _ (spec_step a spec e)
    (one_more _ _ _ _ _ (image_step s b image f)
    (one_more _ _ _ _ _ (cycles_step s i)
    (one_more _ _ _ _ _ (cycles_word_step s i c cycles g)
    (one_more _ _ _ _ _ (calls_step s i n)
    (one_more _ _ _ _ _ (calls_word_step s i n d calls h) (ends _)))))))

-- what clap finds decides the job
job_where : (words : List Text) (w : Walk) → Finds words w
    → job_of words ≡ job_given (given_of (finished shape.rules w.held))
unfolding job_of
job_where words w found =
    ap₂ (λ faults rows. if length faults == 0 then job_given (given_of rows) else None)
    found.0 found.1

run_of_bytes : (a b c d : ℕ) (spec image cycles calls : Text) → IsNoHyphen a → IsNoHyphen b
    → IsNoHyphen c → IsNoHyphen d
    → RunIsRead (a ∷ spec) (b ∷ image) (c ∷ cycles) (d ∷ calls)
run_of_bytes a b c d spec image cycles calls e f g h =
    let after : Walk = behind_all (a ∷ spec) (b ∷ image) (c ∷ cycles) (d ∷ calls) in
    let rest = rest_none (a ∷ spec) (b ∷ image) (c ∷ cycles) (d ∷ calls) in
    let ended = run_ends a b c d spec image cycles calls e f g h in
    job_where _ after (found_where _ after ended rest)
    ∙ ap job_given (rows_given (a ∷ spec) (b ∷ image) (c ∷ cycles) (d ∷ calls))

pub run_of_words : (spec image cycles calls : Text) → is_plain spec ≡ true → is_plain image ≡ true
    → is_plain cycles ≡ true → is_plain calls ≡ true → RunIsRead spec image cycles calls
run_of_words (a ∷ spec) (b ∷ image) (c ∷ cycles) (d ∷ calls) e f g h =
    run_of_bytes a b c d spec image cycles calls
    (is_false _ e) (is_false _ f) (is_false _ g) (is_false _ h)
run_of_words [] _ _ _ e f g h = absurd (true≢false (sym e))
run_of_words _ [] _ _ e f g h = absurd (true≢false (sym f))
run_of_words _ _ [] _ e f g h = absurd (true≢false (sym g))
run_of_words _ _ _ [] e f g h = absurd (true≢false (sym h))

check_of_bytes : (x : ℕ) (xs : Text) → IsNoHyphen x
    → job_of (codes "check" ∷ (x ∷ xs) ∷ []) ≡ Some (Check (x ∷ xs))
unfolding clap_on_literals job_of
check_of_bytes x xs e = simp e refl

pub check_of_words : (file : Text) → is_plain file ≡ true
    → job_of (codes "check" ∷ file ∷ []) ≡ Some (Check file)
check_of_words (x ∷ xs) e = check_of_bytes x xs (is_false _ e)
check_of_words [] e = absurd (true≢false (sym e))
