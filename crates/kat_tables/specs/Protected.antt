-- The protected ranges, kept so that one of them with a given cell is found by halving.
use Rattle.std.specs.Prelude.{◌≡◌, ℕ, max, nat_le, nat_lt, if◌then◌else◌, List, [], ◌∷◌, filter_map, Option, None, Some}
use Rattle.std.specs.List.{list_any}
use Rattle.std.specs.List.Sorted.{IsNonDecreasingBy}
use Rattle.kat_ast.specs.declared.decl.CellsKind.TheVariants as cells
use Rattle.kat_ast.specs.declared.decl.DeclForm.{DeclForm}
use Rattle.kat_ast.specs.declared.decl.DeclForm.TheVariants as d
use Rattle.kat_syntax.specs.Memories.{protects, ranges_of}
use Rattle.kat_tables.specs.declared.protected.Reach.{Reach}

-- the protected cells that a declaration has
abbrev pub reach_of : DeclForm → Option Reach
reach_of (d.Cells cells.Protected lo hi) = Some (record { lo = lo; hi = hi })
reach_of _ = None

-- the protected cells of declarations, in order
abbrev pub reaches_of : List DeclForm → List Reach
reaches_of decls = filter_map reach_of decls

-- ranges each with the greatest end of those up to it, and of this end
abbrev pub raised : ℕ → List Reach → List Reach
raised hi [] = []
raised hi (reach ∷ more) =
    record { lo = reach.lo; hi = max hi reach.hi } ∷ raised (max hi reach.hi) more

-- the end of the last range that begins at this cell or before it, or the end that is given
abbrev pub end_at : ℕ → ℕ → List Reach → ℕ
end_at n hi [] = hi
end_at n hi (reach ∷ more) = if nat_le reach.lo n then end_at n reach.hi more else hi

-- ranges by their first cells that answer which cells declarations protect
pub record IsProtected (decls : List DeclForm) (reaches : List Reach) : Type 0 where
  pub sorted : IsNonDecreasingBy (λ (reach : Reach). reach.lo) reaches
  pub answers : (n : ℕ) →
      nat_lt n (end_at n 0 reaches) ≡ list_any (protects n) (ranges_of decls)
