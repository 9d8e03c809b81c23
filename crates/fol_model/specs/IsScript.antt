-- Which commands make a script.
use Rattle.std.specs.Prelude.{ℕ, ◌≤◌, IsTrue, Bool, true, false, not, ◌&&◌, List, [], ◌∷◌}
use Rattle.std.specs.List.{list_all, sum_by}
use Rattle.fol_model.specs.declared.actions.Action.{Action}
use Rattle.fol_model.specs.declared.scripts.Command.{Command}
use Rattle.fol_model.specs.declared.scripts.Command.TheVariants.{Load, Unload, Post, Every, Run, End}
use Rattle.fol_model.specs.Geometry.{is_chunk}
use Rattle.fol_model.specs.Deed.{Plain, send}
use Rattle.fol_model.specs.Nesting.{deed_of}
use Rattle.fol_model.specs.Limits.{is_delay, is_count, is_entity_id, is_deed, is_simple}

abbrev pub sends_entity : Plain → Bool
sends_entity (send entity to) = is_entity_id entity
sends_entity _ = true

-- within the limits, with posts alone round what it does, and with an entity's id where one is sent
abbrev pub is_line_action : Action → Bool
is_line_action a = (is_deed (deed_of a) && is_simple (deed_of a)) && sends_entity (deed_of a).plain

-- the numbers and the action of a command are those that its line may have
abbrev pub is_command : Command → Bool
is_command (Load c) = is_chunk c
is_command (Unload c) = is_chunk c
is_command (Post c d a) = (is_chunk c && is_delay d) && is_line_action a
is_command (Every c d p n a) = ((is_chunk c && is_delay d) && (is_delay p && is_count n)) && is_line_action a
is_command (Run n) = is_count n
is_command End = true

-- each run has its end before the next one; `running` says that a run is open before these commands
abbrev pub alternates : Bool → List Command → Bool
alternates running [] = not running
alternates running (Run n ∷ cs) = not running && alternates true cs
alternates running (End ∷ cs) = running && alternates false cs
alternates running (c ∷ cs) = alternates running cs

abbrev pub ticks_of : Command → ℕ
ticks_of (Run n) = n
ticks_of _ = 0

abbrev pub count_of : Command → ℕ
count_of (Every c d p n a) = n
count_of _ = 0

pub record IsScript (commands : List Command) : Type 0 where
  pub each : IsTrue (list_all is_command commands)
  pub runs : IsTrue (alternates false commands)
  -- the ticks of all runs, and the counts of all repeated tasks
  pub ticks : sum_by ticks_of commands ≤ 10000
  pub counts : sum_by count_of commands ≤ 1000000
