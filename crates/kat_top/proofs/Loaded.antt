-- What comes of an input, from its bytes.
use Rattle.std.proofs.Common.{ℕ, inl, inr, List, Result, Ok, Err}
use Rattle.kat_io.specs.Seen.{FilesSeen}
use Rattle.kat_top.specs.declared.inputs.InputError.{InputError}
use Rattle.kat_top.specs.declared.inputs.InputError.TheVariants as why
use Rattle.kat_top.specs.Inputs.{Name, Kind, Thing}
use Rattle.kat_top.specs.Jobs.{input}
use Rattle.kat_top.specs.Loading.{LoadsBytes, ComesOf, Loads}

-- the bytes were had, and this comes of them
pub loaded : (earlier : List Thing) (kind : Kind) (name : Name) (bytes : List ℕ) (outcome : Result Thing InputError) (before after : FilesSeen) →
    LoadsBytes name (Ok bytes) before after → ComesOf earlier kind bytes outcome → Loads earlier (input kind name) outcome before after
loaded earlier kind name bytes (Ok thing) before after loads comes =
    record { kept = loads.kept; noted = loads.noted; came = record { bytes = bytes; uncounted = loads.came.uncounted; were_read = loads.came.were_read; reads = comes } }
loaded earlier kind name bytes (Err (why.Fault said)) before after loads comes =
    record { kept = loads.kept; noted = loads.noted; came = inr (inr (record { bytes = bytes; uncounted = loads.came.uncounted; were_read = loads.came.were_read; refuses = comes })) }
loaded earlier kind name bytes (Err why.Memory) before after loads comes = record { kept = loads.kept; noted = inr loads.noted; came = tt }

-- the bytes were not had
pub not_loaded : (earlier : List Thing) (kind : Kind) (name : Name) (error : InputError) (before after : FilesSeen) →
    LoadsBytes name (Err error) before after → Loads earlier (input kind name) (Err error) before after
not_loaded earlier kind name (why.Fault said) before after loads = record {
  kept = loads.kept;
  noted = loads.noted;
  came = elim loads.came [ inl failed ↦ inl failed | inr long ↦ inr (inl long) ];
}
not_loaded earlier kind name why.Memory before after loads = record { kept = loads.kept; noted = loads.noted; came = tt }
