-- Names that are borrowed, as names.
use Rattle.std.specs.Prelude.{List, map}
use Rattle.std.specs.Borrow.{Bor}
use Rattle.kat_syntax.specs.Tables.{Name}

-- the names that references stand for
abbrev pub texts : List (Bor Name) → List Name
texts names = map (λ (name : Bor Name). name.now) names
