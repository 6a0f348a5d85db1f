use Rattle.std.proofs.Common.{◌≡◌, ◌<◌, ◌^◌, drop}
use Rattle.kat_image.specs.Lines.{bytes_behind}
use Rattle.kat_image.proofs.numbers.number_of_bytes.Given as goal

-- the bytes that are still to come make the number whole, which has a byte for each that was read
abbrev pub invariant-loop-byte : goal.invariant-loop-byte
invariant-loop-byte l =
    (bytes_behind l.number (drop l.byte-index l.bytes) ≡ bytes_behind 0 l.bytes) × (l.number < 256 ^ l.byte-index)
