use Rattle.std.proofs.Common.{◌≡◌, ◌++◌, ◌+◌, ◌-◌, ◌/◌, ◌^◌, ◌≤◌}
use Rattle.std.specs.String.{string_bytes, string_len, string_capacity}
use Rattle.kat_text.specs.Hexadecimal.{hex_digits}
use Rattle.kat_text.proofs.builder.TextBuilder.push_hexadecimal.Given as goal

abbrev pub invariant-loop-done : goal.invariant-loop-done
invariant-loop-done l = record {
  written : string_bytes l.self-inside.text ≡ string_bytes l.initial.self-inside.text ++ hex_digits l.done (l.number / 16 ^ (l.digits - l.done));
  room : string_len l.self-inside.text + (l.digits - l.done) ≤ string_capacity l.self-inside.text;
}
