-- The parameters of a function that was called, with their values.
use Rattle.std.specs.Prelude.{◌≡◌, ℕ, List, [], ◌∷◌, length}
use Rattle.kat_value.specs.declared.value.Value.{Value}
use Rattle.kat_ast.specs.declared.type_name.Param.{Param}
use Rattle.kat_syntax.specs.Evaluation as meaning
use Rattle.kat_syntax.specs.NamedItems.{Item}
use Rattle.kat_syntax.specs.RunTables.{FindsPositions, param_names}

-- parameters with values, as far as both go
abbrev pub paired : List Param → List Value → meaning.Locals
paired [] values = []
paired (param ∷ params) [] = []
paired (param ∷ params) (value ∷ values) = (param.name, value) ∷ paired params values

-- as many values as parameters, and a table of their positions
pub record IsFrame
    (params : List Param) (positions : List (Item ℕ)) (values : List Value) : Type 0 where
  pub counts : length values ≡ length params
  pub finds : FindsPositions (param_names params) positions
