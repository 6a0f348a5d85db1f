use Rattle.kat_io.proofs.memory.MemoryFiles.is_next_failing.Goals as goal

-- the number that is sought is that of the next read
pub returns : goal.returns
returns c = rw (c.contains.ensures.value, c.deref.ensures.value, c.next_number.ensures, ← c.self.view_is)
