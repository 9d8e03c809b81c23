-- What a history keeps at each of its points.
use Rattle.std.specs.Prelude.{ℕ, ◌≡◌, ◌+◌, List, ◌∷◌, ◌++◌}
use Rattle.fol_model.specs.declared.places.ChunkPos.{ChunkPos}
use Rattle.fol_model.specs.declared.actions.Action.{Action}
use Rattle.fol_model.specs.declared.openings.Opening.{Opening}
use Rattle.fol_model.specs.declared.events.Entry.{Entry}
use Rattle.fol_model.specs.DueRule.{Accepts, DueRule, named, names}
use Rattle.fol_model.specs.Rules.{Rules}
use Rattle.fol_model.specs.World.{World}
use Rattle.fol_model.specs.Run.{after, world}
use Rattle.fol_laws.specs.Consequences.{FewLive, NoneWaits, ReadyHasMargin, TickingApart}
use Rattle.fol_laws.specs.Ownership.{RecordedHasMargin}

-- the region rules hold in the world, and what follows from them
pub record KeepsRules (w : World) : Type 0 where
  pub rules : Rules w.grid
  -- a Ready region has the margin of its loaded chunks, a Ticking one that of its recorded chunks
  pub margin : ReadyHasMargin w.grid
  pub recorded : RecordedHasMargin w
  -- two Ticking regions are apart
  pub apart : TickingApart w.grid
  -- where no region is Ticking none is Transient, and never are more than 1,820 Ready or Ticking
  pub none_waits : NoneWaits w.grid
  pub few : FewLive w.grid

-- each task that an entry accepts is queued or ran once, in its due tick by the region that then owns its chunk; no entry names it before
abbrev pub KeepsTasks : Opening → List Entry → Type 0
KeepsTasks o h = (es rest : List Entry) (e : Entry) (n : ℕ) (c : ChunkPos) (d : ℕ) (a : Action) → h ≡ es ++ e ∷ rest → Accepts (world o es) e.event n c d a
    → DueRule (after (world o es) e.event) rest n c d a × (named n es + names n e.event ≡ 0)
