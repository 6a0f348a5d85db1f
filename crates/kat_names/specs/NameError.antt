-- What an answer of `Table::add` says.
use Rattle.std.specs.Prelude.{ℕ, Option, None, Some, Result, Ok, Err}
use Rattle.kat_names.specs.declared.names.NameError.{NameError}
use Rattle.kat_names.specs.declared.names.NameError.TheVariants.{Twice, Memory}

-- the position at which the name stands already, where the answer is that it does
abbrev pub twice_of : Result ℕ NameError → Option ℕ
twice_of (Ok _) = None
twice_of (Err (Twice position)) = Some position
twice_of (Err Memory) = None
