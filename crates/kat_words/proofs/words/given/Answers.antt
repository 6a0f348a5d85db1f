use Rattle.std.proofs.Common.{◌∙◌, ◌≡◌, codes, map, List, Option}
use Rattle.std.specs.Borrow.{Bor}
use Rattle.std.specs.Option.{option_map}
use Rattle.clap.specs.Words.{Text, all_of, first_of, found_of, rows_of}
use Rattle.clap.proofs.WalkLemmas.{first_value-rows, raw_values-rows}
use Rattle.kat_words.proofs.words.given.Goals as goal

-- the text behind a word, if it is there
abbrev text_in : Option (Bor Text) → Option Text
text_in = option_map (λ s. s.now)

-- the texts behind words, if they are there
abbrev texts_in : Option (Bor (List (Bor Text))) → Option (List Text)
texts_in = option_map (λ s. map (λ t. t.now) s.now)

pub returns : goal.returns
returns c =
    let f = found_of c.args.matches.now in
    let job_is : text_in c.get_str-job.result ≡ first_of (codes "job") (rows_of f) =
    c.get_str-job.ensures ∙ first_value-rows f (codes "job") in
    let files_are : texts_in c.get_strs-files.result ≡ all_of (codes "files") (rows_of f) =
    c.get_strs-files.ensures ∙ raw_values-rows f (codes "files") in
    let cycles_is : text_in c.get_str-cycles.result ≡ first_of (codes "cycles") (rows_of f) =
    c.get_str-cycles.ensures ∙ first_value-rows f (codes "cycles") in
    let calls_is : text_in c.get_str-calls.result ≡ first_of (codes "calls") (rows_of f) =
    c.get_str-calls.ensures ∙ first_value-rows f (codes "calls") in
    let devices_is : text_in c.get_str-devices.result ≡ first_of (codes "devices") (rows_of f) =
    c.get_str-devices.ensures ∙ first_value-rows f (codes "devices") in
    λ i. record {
      job = job_is i;
      files = files_are i;
      cycles = cycles_is i;
      calls = calls_is i;
      devices = devices_is i;
    }
