-- What is counted over the declarations before one, as far as a u64 counts.
use Rattle.std.specs.Prelude.{◌≡◌, ℕ, ◌+◌, ◌-◌, ◌^◌, min, List, [], map, sum_by, take}
use Rattle.kat_syntax.specs.Around.{Around}
use Rattle.kat_syntax.specs.Memories.{protected_by, code_of_decl}
use Rattle.kat_syntax.specs.TypesWritten.{sizes_with}
use Rattle.kat_typing.specs.declared.limits.Totals.{Totals}

-- a count that stands still at the greatest u64
abbrev pub most_u64 : ℕ → ℕ
most_u64 n = min n (2 ^ 64 - 1)

-- the sizes of the types that are declared before
abbrev pub sizes_before : Around → List ℕ
sizes_before around = sizes_with around.decls 0 [] (take around.number around.decls)

-- what stands around the declaration behind
abbrev pub next : Around → Around
next around = record { decls = around.decls; number = around.number + 1 }

-- the places that are protected, the code cells, and the sizes of the types, of the declarations
-- before
pub record IsTotals (around : Around) (totals : Totals) : Type 0 where
  pub protected : totals.protected
      ≡ most_u64 (sum_by protected_by (take around.number around.decls))
  pub code : totals.code ≡ most_u64 (sum_by code_of_decl (take around.number around.decls))
  pub sizes : totals.sizes ≡ map most_u64 (sizes_before around)
