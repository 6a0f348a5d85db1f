-- The state from which an image starts.
use Rattle.std.specs.Prelude.{List, map, replicate, unwrap_or}
use Rattle.kat_value.specs.declared.types.Ty.{Ty}
use Rattle.kat_value.specs.declared.types.TypeDecl.{TypeDecl}
use Rattle.kat_value.specs.declared.value.Value.{Value}
use Rattle.kat_value.specs.declared.value.Value.TheVariants.{Unit}
use Rattle.kat_ast.specs.Spec.{Spec}
use Rattle.kat_syntax.specs.FirstValues.{first_value}
use Rattle.kat_syntax.specs.Machine.{MachineState}
use Rattle.kat_syntax.specs.States.{register_types, first_index, cell_count}
use Rattle.kat_syntax.specs.TypeTable.{types_of_decls}

-- the first value of a type, or unit where it has no values
abbrev pub first_or_unit : List TypeDecl → Ty → Value
first_or_unit types type = unwrap_or (first_value types type) Unit

-- every register has the first value of its type, and every cell 0
abbrev pub start_of : Spec → MachineState
start_of spec = record {
  registers = map (first_or_unit (types_of_decls spec.decls)) (register_types spec.decls);
  lo = first_index spec.decls;
  cells = replicate (cell_count spec.decls) 0;
}
