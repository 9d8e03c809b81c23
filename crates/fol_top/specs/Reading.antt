-- How the reading of the files can end the work.
use Rattle.std.specs.Prelude.{ℕ, List, Option}
use Rattle.fol_io.specs.Counts.{Rose}
use Rattle.fol_io.specs.Shelf.{IsTooLong}
use Rattle.fol_top.specs.Inputs.{Faults, Held, ReadingEnds, size_limit}
use Rattle.fol_top.specs.declared.ending.Ending.{Ending}
use Rattle.fol_top.specs.declared.ending.Ending.TheVariants.{ReadFault, NoMemory, TooLong}

-- of one file: what its shelf holds, its count of faults before and after, and the count of bytes taken before and after
abbrev pub ReadEnds : Option (List ℕ) → ℕ → ℕ → ℕ → ℕ → Ending → Type 0
ReadEnds held faults faults_later taken taken_later ReadFault = Rose faults faults_later
ReadEnds held faults faults_later taken taken_later TooLong = IsTooLong held size_limit taken taken_later
ReadEnds held faults faults_later taken taken_later NoMemory = Unit {0}
ReadEnds held faults faults_later taken taken_later _ = ⊥

-- of the files of these names, in order, with the number of reads before and after
abbrev pub ReadsEnd : Held → Faults → Faults → ℕ → ℕ → ℕ → ℕ → List (List ℕ) → Ending → Type 0
ReadsEnd held faults faults_later taken taken_later reads reads_later names ReadFault = ReadingEnds held reads reads_later names (λ name. Rose (faults name) (faults_later name))
ReadsEnd held faults faults_later taken taken_later reads reads_later names TooLong = ReadingEnds held reads reads_later names (λ name. IsTooLong (held name) size_limit taken taken_later)
ReadsEnd held faults faults_later taken taken_later reads reads_later names NoMemory = Unit {0}
ReadsEnd held faults faults_later taken taken_later reads reads_later names _ = ⊥
