use Rattle.std.proofs.Common.{ap, sym, ◌∙◌}
use Rattle.std.specs.Option.{option_map}
use Rattle.kat_value.specs.declared.value.Value.TheVariants.{Rec}
use Rattle.kat_state.proofs.first_values.first_of_decl.Goals as goal

pub returns-in-Union : goal.returns-in-Union
returns-in-Union c = rw c.in-Union.is (c.first_made.ensures c.in-Union.name)

pub returns-in-Some : goal.returns-in-Some
returns-in-Some c = rw c.in-Rec.is (ap (option_map (Rec c.args.position)) (sym c.in-Some.is ∙ c.in_ok-fields-in-Rec.ensures))
