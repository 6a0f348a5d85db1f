-- Regions without some of their cells.
use Rattle.std.specs.Prelude.{◌≡◌, ◌&&◌, not, ℕ, Bool, List, Some}
use Rattle.std.specs.List.{list_any}
use Rattle.kat_value.specs.Equality.{value_eq}
use Rattle.kat_value.specs.declared.value.Value.{Value}
use Rattle.kat_value.specs.declared.value.Value.TheVariants.{Bits as Number}
use Rattle.kat_ast.specs.declared.decl.DeclForm.{DeclForm}
use Rattle.kat_syntax.specs.Cycle.{bound}
use Rattle.kat_syntax.specs.Evaluation.{Locals}
use Rattle.kat_syntax.specs.Fragments.{Fragment}
use Rattle.kat_syntax.specs.Holds.{HasCellsWhere, RegionDecl, guards, index_width, region_of}
use Rattle.kat_syntax.specs.Tables.{Name}

-- whether an index is one of these holes
abbrev pub is_hole : List DeclForm → List Value → ℕ → Bool
is_hole decls holes i = list_any (λ hole. value_eq hole (Number (index_width decls) i)) holes

-- whether a region has the cell at an index: its guard is true there, and no hole is
abbrev pub has_cell : List DeclForm → RegionDecl → Locals → List Value → ℕ → Bool
has_cell decls region locals holes i = guards decls region locals i && not (is_hole decls holes i)

-- a fragment is a region with arguments of these values, without the cells at these holes
abbrev pub IsRegionWithout : List DeclForm → Name → List Value → List Value → Fragment → Type 0
IsRegionWithout decls x values holes f =
    (region : RegionDecl) × (region_of decls x ≡ Some region)
    × (locals : Locals) × (bound region.params values ≡ Some locals)
    × HasCellsWhere decls (has_cell decls region locals holes) f
