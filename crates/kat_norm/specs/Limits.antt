-- The limits on a normal form.
use Rattle.std.specs.Prelude.{ℕ, nat_lt, if◌then◌else◌, Option, Some, None}
use Rattle.kat_term.specs.declared.kind.Kind.{Kind}
use Rattle.kat_term.specs.declared.kind.Kind.TheVariants.{Nodes, Depth}
use Rattle.kat_term.specs.declared.term.Term.{Term}
use Rattle.kat_term.specs.Limits.{max_nodes, max_depth}
use Rattle.kat_term.specs.Sizes.{nodes, depth}

-- the most rules that one normal form takes
unfoldable pub max_rules : ℕ
max_rules = 1000000

-- the first limit on its size that a term passes
abbrev pub limit_of : Term → Option Kind
limit_of t =
    if nat_lt max_nodes (nodes t) then Some Nodes
    else if nat_lt max_depth (depth t) then Some Depth else None
