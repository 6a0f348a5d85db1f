use Rattle.std.proofs.Common.{◌≡◌, drop}
use Rattle.kat_syntax.specs.Declares.{typed_params}
use Rattle.kat_syntax.specs.TypesWritten.{local_type}
use Rattle.kat_tables.proofs.params.type_in.Given as goal

-- none of the parameters so far has the name
abbrev pub invariant-loop-param : goal.invariant-loop-param
invariant-loop-param l =
    local_type (typed_params l.tables l.decl (drop l.param-index l.params)) l.name
    ≡ local_type (typed_params l.tables l.decl l.params) l.name
