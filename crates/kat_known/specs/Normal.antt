-- The normal form of a term under no substitution, where no limit is passed.
use Rattle.std.specs.Prelude.{List, [], Option, Some, None, Result, Ok, Err}
use Rattle.kat_value.specs.declared.types.Ty.{Ty}
use Rattle.kat_term.specs.declared.kind.Kind.{Kind}
use Rattle.kat_term.specs.declared.term.Term.{Term}
use Rattle.kat_norm.specs.Norm.{norm_of}

-- what passes no limit
abbrev pub within_limits : Result Term Kind → Option Term
within_limits (Ok normal) = Some normal
within_limits (Err limit) = None

-- the normal form of a term over variables of these types, where no limit is passed
abbrev pub norm_in : List Ty → Term → Option Term
norm_in vars t = within_limits (norm_of vars [] t)
