-- What playing all events in a replay came to.
use Rattle.std.specs.Prelude.{ℕ, List, [], Option, Some, None}
use Rattle.fol_model.specs.declared.events.Event.{Event}
use Rattle.fol_check.specs.Replays.{LastFinishes, Played, StopsAt}
use Rattle.fol_check.specs.declared.replay.Replay.{Replay}

-- the replay stands for all the events, and the last is Finish
pub record PlaysAll (old new : Replay) (es : List Event) : Type 0 where
  pub count : ℕ
  pub all : Played new old.core.opening old.script es [] count
  pub finished : LastFinishes new.core.history

-- it stops at event n, or plays all
abbrev pub Plays : Replay → Replay → List Event → Option ℕ → Type 0
Plays old new es (Some n) = StopsAt old.core.opening old.script es n
Plays old new es None = PlaysAll old new es
