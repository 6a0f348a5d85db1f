-- What a caller's words give, as the job reads it.
use Rattle.std.specs.Prelude.{map}
use Rattle.std.specs.Option.{option_map}
use Rattle.kat_words.specs.Jobs.{Given}
use Rattle.kat_words.specs.declared.words.WordsGiven.{WordsGiven}

-- the texts behind what is given
abbrev pub seen_given : WordsGiven → Given
seen_given g = record {
  job = option_map (λ s. s.now) g.job;
  files = option_map (λ s. map (λ t. t.now) s.now) g.files;
  cycles = option_map (λ s. s.now) g.cycles;
  calls = option_map (λ s. s.now) g.calls;
  devices = option_map (λ s. s.now) g.devices;
}
