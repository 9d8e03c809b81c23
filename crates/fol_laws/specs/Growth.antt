-- How far the numbers of a world can have grown.
use Rattle.std.specs.Prelude.{ℕ, ◌≡◌, ◌+◌, ◌*◌, ◌≤◌, List, [], ◌∷◌, ◌++◌, length}
use Rattle.fol_model.specs.declared.openings.Opening.{Opening}
use Rattle.fol_model.specs.declared.events.Event.{Event}
use Rattle.fol_model.specs.declared.events.Event.TheVariants.{End}
use Rattle.fol_model.specs.declared.events.Entry.{Entry}
use Rattle.fol_model.specs.GridNumbers.{IsGrid}
use Rattle.fol_model.specs.World.{World}
use Rattle.fol_model.specs.Run.{Run, world}
use Rattle.fol_laws.specs.Points.{AtEveryPoint}

abbrev pub ends_in : Event → ℕ
ends_in (End worker r tick ran accepts) = 1
ends_in _ = 0

-- the number of End entries
abbrev pub ends : List Entry → ℕ
ends [] = 0
ends (e ∷ es) = ends_in e.event + ends es

abbrev pub answers_in : Event → ℕ
answers_in (End worker r tick ran accepts) = length accepts
answers_in _ = 0

-- the number of answers that the End entries list
abbrev pub answered : List Entry → ℕ
answered [] = 0
answered (e ∷ es) = answers_in e.event + answered es

-- no counter is above n
abbrev pub CountersAtMost : World → ℕ → Type 0
CountersAtMost w n = (r : ℕ) → w.tick r ≤ n

-- a counter is at most the number of End entries
abbrev pub CountersCountEnds : Type 0
CountersCountEnds = (o : Opening) (es : List Entry) → CountersAtMost (world o es) (ends es)

-- the next task number is at most 1, and one more for each entry and each answer
abbrev pub TaskNumbersGrow : Type 0
TaskNumbersGrow = (o : Opening) (es rest : List Entry) → IsGrid o.grid → Run o (es ++ rest) → (world o es).next_job ≤ 1 + length es + answered es

-- the next region id is at most 1, and one more for each entry and each answer, and 1,820 more for each End
abbrev pub RegionIdsGrow : Type 0
RegionIdsGrow = (o : Opening) (es rest : List Entry) → IsGrid o.grid → Run o (es ++ rest) → (world o es).grid.next ≤ 1 + length es + answered es + 1820 * ends es

-- a region that was not given out yet has counter 0, so a new one that is no part of a split begins with it
abbrev pub NewCountersAreZero : World → Type 0
NewCountersAreZero w = (r : ℕ) → w.grid.next ≤ r → w.tick r ≡ 0

abbrev pub NewRegionsBeginAtZero : Type 0
NewRegionsBeginAtZero = AtEveryPoint (λ o w. NewCountersAreZero w)
