-- Which chunks are loaded after a history: those with a ticket, and those with a queued task.
use Rattle.std.specs.Prelude.{ℕ, ◌+◌, ◌-◌, if◌then◌else◌, List, [], ◌∷◌, count_by}
use Rattle.fol_model.specs.declared.places.ChunkPos.{ChunkPos}
use Rattle.fol_model.specs.declared.events.Loaded.TheVariants.{Counted}
use Rattle.fol_model.specs.declared.events.Unloaded.TheVariants.{Lowered}
use Rattle.fol_model.specs.declared.events.Event.{Event}
use Rattle.fol_model.specs.declared.events.Event.TheVariants.{Load, Unload}
use Rattle.fol_model.specs.declared.events.Entry.{Entry}
use Rattle.fol_model.specs.declared.closings.TaskRow.{TaskRow}
use Rattle.fol_model.specs.Geometry.{same_chunk}

-- 1 where the two are one chunk, and 0 else
abbrev pub one_at : ChunkPos → ChunkPos → ℕ
one_at d c = if same_chunk d c then 1 else 0

-- the tickets of each chunk after an event: one more where a load was counted, one less where an unload was
abbrev pub ticketed : (ChunkPos → ℕ) → Event → ChunkPos → ℕ
ticketed f (Load caller d Counted) = λ c. f c + one_at d c
ticketed f (Unload caller d Lowered) = λ c. f c - one_at d c
ticketed f _ = f

-- and after the events of some entries
abbrev pub tickets_from : (ChunkPos → ℕ) → List Entry → ChunkPos → ℕ
tickets_from f [] = f
tickets_from f (e ∷ es) = tickets_from (ticketed f e.event) es

abbrev pub tickets : List Entry → ChunkPos → ℕ
tickets es = tickets_from (λ c. 0) es

-- what holds a chunk: each ticket, and each task that is queued on it
abbrev pub holds : List Entry → List TaskRow → ChunkPos → ℕ
holds es ts c = tickets es c + count_by (λ t. same_chunk t.task.chunk c) ts
