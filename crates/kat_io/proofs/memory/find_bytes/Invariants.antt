use Rattle.std.proofs.Common.{◌≡◌, drop}
use Rattle.kat_io.specs.FilesInMemory.{bytes_of}
use Rattle.kat_io.proofs.memory.find_bytes.Given as goal

-- the name is sought in the files that are left
abbrev pub invariant-loop-file : goal.invariant-loop-file
invariant-loop-file l = bytes_of (drop l.file-index l.files) l.name ≡ bytes_of l.files l.name
