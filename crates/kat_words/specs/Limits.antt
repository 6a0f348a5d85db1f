-- How far the numbers among the words may go.
use Rattle.std.specs.Prelude.{ℕ}

-- how many digits a number may have, leading zeros among them
abbrev pub most_digits : ℕ
most_digits = 20

-- the most cycles that a run may be asked for
abbrev pub most_cycles : ℕ
most_cycles = 1000000

-- the most calls that a cycle may be given
abbrev pub most_calls : ℕ
most_calls = 64

-- the most devices in a list
abbrev pub most_devices : ℕ
most_devices = 16

-- the greatest number of a device
abbrev pub most_device : ℕ
most_device = 4294967295

-- the greatest number that `gen` takes
abbrev pub most_generated : ℕ
most_generated = 500
