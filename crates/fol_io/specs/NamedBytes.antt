-- Files by their names.
use Rattle.std.specs.Prelude.{ℕ, List, Option, find}
use Rattle.std.specs.Str.{bytes_eq}
use Rattle.fol_io.specs.Counts.{raised}
use Rattle.fol_io.specs.declared.mem_shelf.NamedBytes.{NamedBytes}

-- the first file of the name
abbrev pub file_under : List NamedBytes → List ℕ → Option NamedBytes
file_under files name = find (λ file. bytes_eq file.name name) files

-- the file after one more fault
abbrev pub with_fault : NamedBytes → NamedBytes
with_fault file = record file { faults = raised 1 file.faults }
