-- What an answer of `poke` says.
use Rattle.std.specs.Prelude.{◌≡◌, Result, Ok, Err}
use Rattle.kat_syntax.specs.Machine.{MachineState}
use Rattle.kat_syntax.specs.OutsideWrites as write
use Rattle.kat_syntax.specs.OutsideWrites.{Poked}
use Rattle.kat_state.specs.declared.state.PokeError.{PokeError}
use Rattle.kat_state.specs.declared.state.PokeError.TheVariants.{NoPlace, NoFit}

-- the answer is what the write comes to; the state is as before where it was refused
abbrev pub IsPoked : Result (Unit {0}) PokeError → Poked → MachineState → MachineState → Type 0
IsPoked (Ok done) poked before after = poked ≡ write.Wrote after
IsPoked (Err NoPlace) poked before after = (poked ≡ write.NoPlace) × (after ≡ before)
IsPoked (Err NoFit) poked before after = (poked ≡ write.NoFit) × (after ≡ before)
