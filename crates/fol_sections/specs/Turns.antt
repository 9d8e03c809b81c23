-- What a chunk more or less of a section does to numbers of its loaded chunks.
use Rattle.std.specs.Prelude.{ℕ}
use Rattle.fol_sections.specs.declared.turns.Turn.{Turn}
use Rattle.fol_sections.specs.declared.turns.Turn.TheVariants.{Filled, Emptied}

-- how much k turns add
abbrev pub rise : Turn → ℕ → ℕ
rise Filled k = k
rise Emptied k = 0

-- how much k turns take away
abbrev pub fall : Turn → ℕ → ℕ
fall Filled k = 0
fall Emptied k = k
