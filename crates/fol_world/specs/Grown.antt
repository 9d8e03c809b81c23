-- The memory that was taken for an entry.
use Rattle.std.specs.Prelude.{ℕ, ◌+◌, ◌≤◌, ◌<◌, ◌^◌, vec_len, vec_capacity}
use Rattle.std.specs.Global.{Vec}
use Rattle.std.specs.HashMap.{spare as room_in}
use Rattle.fol_model.specs.declared.events.Entry.{Entry}
use Rattle.fol_world.specs.declared.tables.Tables.{Tables}

-- there is memory for an entry with one hold added, for so many tasks, for a Stop after it, and for the Begins of so many prepared regions
-- or their places in the stack
pub record HasGrown (t : Tables) (h : Vec Entry) (wanted early : ℕ) : Type 0 where
  pub size : t.course.size < 2 ^ 50
  pub history : vec_len h + 2 + early ≤ vec_capacity h
  pub regions : 1 ≤ t.regions.spare
  pub tasks : wanted ≤ t.store.spare
  pub bags : 1 ≤ t.store.slots
  pub tickets : 1 ≤ room_in t.tickets
  pub agenda : vec_len t.agenda + 1 + early ≤ vec_capacity t.agenda
