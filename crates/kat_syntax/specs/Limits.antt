-- The limits on specifications.
use Rattle.std.specs.Prelude.{ℕ}

-- the most declarations that a specification may have
abbrev pub most_declarations : ℕ
most_declarations = 4096

-- the most protected places, registers and cells together
abbrev pub most_protected : ℕ
most_protected = 64

-- the most code cells
abbrev pub most_code : ℕ
most_code = 256

-- the most fields of a record
abbrev pub most_fields : ℕ
most_fields = 32

-- the greatest size of a type
abbrev pub greatest_size : ℕ
greatest_size = 256

-- the most cells of a memory
abbrev pub most_cells : ℕ
most_cells = 1048576

-- the most cycles of a block
abbrev pub most_within : ℕ
most_within = 256
