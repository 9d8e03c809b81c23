-- How the writing of an output can end the work.
use Rattle.std.specs.Prelude.{ℕ, ◌≡◌, List, Option}
use Rattle.fol_io.specs.Counts.{Rose}
use Rattle.fol_io.specs.Sink.{Received, ReceivedInPieces}
use Rattle.fol_top.specs.declared.ending.Ending.{Ending}
use Rattle.fol_top.specs.declared.ending.Ending.TheVariants.{Written, WriteFault, NoMemory}

-- what the output may be, what the sink received before and now, and its counts of faults and of pieces before and later
abbrev pub OutputEnds : (List ℕ → Type 0) → Option (List ℕ) → Option (List ℕ) → ℕ → ℕ → ℕ → ℕ → Ending → Type 0
OutputEnds IsThis before now faults later puts puts_later Written = (bytes : List ℕ) × IsThis bytes × Received before now bytes
OutputEnds IsThis before now faults later puts puts_later WriteFault = (bytes : List ℕ) × IsThis bytes × ReceivedInPieces before now puts puts_later bytes × Rose faults later
OutputEnds IsThis before now faults later puts puts_later NoMemory = now ≡ before
OutputEnds IsThis before now faults later puts puts_later _ = ⊥

-- the same where the output is these bytes
abbrev pub WriteEnds : Option (List ℕ) → Option (List ℕ) → ℕ → ℕ → ℕ → ℕ → List ℕ → Ending → Type 0
WriteEnds before now faults later puts puts_later bytes ending = OutputEnds (λ b. b ≡ bytes) before now faults later puts puts_later ending
