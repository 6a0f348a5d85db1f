use Rattle.std.proofs.Common.{◌≡◌, take}
use Rattle.kat_chunk.proofs.chunks.copy_items.Given as goal

abbrev pub invariant-loop-chunk : goal.invariant-loop-chunk
invariant-loop-chunk l = l.copies ≡ take l.chunk-index l.chunks
