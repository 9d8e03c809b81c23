-- The memory that was taken for what comes next.
use Rattle.std.specs.Prelude.{◌≡◌, ◌⊎◌, ℕ, ◌+◌, ◌≤◌, ◌<◌, ◌^◌, true, false, ◌||◌, [], Option, Some, None, vec_len, vec_capacity, length}
use Rattle.std.specs.Global.{Vec}
use Rattle.std.specs.HashMap.{spare as room_in}
use Rattle.fol_model.specs.declared.events.Accept.{Accept}
use Rattle.fol_model.specs.declared.events.Entry.{Entry}
use Rattle.fol_model.specs.declared.tasks.Task.{Task}
use Rattle.fol_regions.specs.Table.{grid_state}
use Rattle.fol_regions.specs.Answers.{IsGiven}
use Rattle.fol_store.specs.Bag.{is_whole}
use Rattle.fol_store.specs.Stock.{bag_of, due_of}
use Rattle.fol_world.specs.declared.tables.Course.{Course}
use Rattle.fol_world.specs.declared.tables.Tables.{Tables}
use Rattle.fol_core.specs.declared.machine.Room.{Room}
use Rattle.fol_core.specs.declared.machine.Room.TheVariants.{Begin, End}
use Rattle.fol_world.specs.Agenda.{IsTop, owes}
use Rattle.fol_world.specs.MostParts.{parts_at_most}
use Rattle.fol_core.specs.Meaning.{Reserved, Nothing, ForBegin, ForEnd}
use Rattle.fol_data.specs.declared.tick.Tick.{Tick}

-- what it was taken for
abbrev pub room_of : Option Room → Reserved
room_of None = Nothing
room_of (Some (Begin id due)) = ForBegin id
room_of (Some (End wishes accepts)) = ForEnd wishes

-- it was taken for a Begin
abbrev pub IsForBegin : Reserved → Type 0
IsForBegin r = (id : ℕ) × (r ≡ ForBegin id)

-- the list for the due tasks of a Begin
abbrev pub IsDueList : Option Room → Vec Task → Type 0
IsDueList None list = Unit {0}
IsDueList (Some (Begin id due)) list = list ≡ due
IsDueList (Some (End wishes accepts)) list = Unit {0}

-- the stack has a place for each of so many prepared regions, which may come back
abbrev pub AgendaRoom : Vec ℕ → ℕ → Type 0
AgendaRoom agenda early = vec_len agenda + early ≤ vec_capacity agenda

-- it has one for this region, too, once it is prepared: what is on top goes then
abbrev pub HasPlace : Vec ℕ → ℕ → ℕ → Type 0
HasPlace agenda id early = (vec_len agenda + early < vec_capacity agenda) ⊎ IsTop agenda.items id

-- a Begin of the region, which was given out, needs no more memory, and neither does a Stop after it, nor its mark and its place in the stack,
-- nor the Begins of so many prepared regions
pub record BeginRoom (id : ℕ) (list : Vec Task) (t : Tables) (h : Vec Entry) (early marks : ℕ) : Type 0 where
  pub given : IsGiven (grid_state t.regions) id
  pub size : t.course.size < 2 ^ 50
  pub history : vec_len h + 2 + early ≤ vec_capacity h
  pub mark : id < marks
  pub place : HasPlace t.agenda id early
  pub empty : list.items ≡ []
  pub whole : owes (grid_state t.regions) (bag_of t.store) id ≡ true → is_whole (bag_of t.store id) ≡ true
  pub due : owes (grid_state t.regions) (bag_of t.store) id ≡ true → due_of t.store id ≤ vec_capacity list

-- an End with so many wishes, whose tick can take in as many things, needs no more memory, with its answers, and neither does a Stop after it,
-- nor the Begins of so many prepared regions
pub record EndRoom (wishes : ℕ) (accepts : Vec Accept) (t : Tables) (h : Vec Entry) (early : ℕ) : Type 0 where
  pub size : t.course.size + (1 + wishes) ≤ 2 ^ 50
  pub history : vec_len h + 2 + early ≤ vec_capacity h
  pub regions : wishes + 1 ≤ t.regions.spare
  pub tasks : wishes ≤ t.store.spare
  pub slots : wishes + parts_at_most (grid_state t.regions) wishes ≤ t.store.slots
  pub tickets : 1 ≤ room_in t.tickets
  pub places : vec_len t.agenda + (wishes + parts_at_most (grid_state t.regions) wishes) + early ≤ vec_capacity t.agenda
  pub empty : accepts.items ≡ []
  pub answers : wishes ≤ vec_capacity accepts

-- what was taken for an End is there
abbrev pub HasEndRoom : Option Room → Tables → Vec Entry → ℕ → Type 0
HasEndRoom None t h early = Unit {0}
HasEndRoom (Some (Begin id due)) t h early = Unit {0}
HasEndRoom (Some (End wishes accepts)) t h early = EndRoom wishes accepts t h early

abbrev pub HasRoom : Option Room → Tables → Vec Entry → ℕ → ℕ → Type 0
HasRoom None t h early marks = Unit {0}
HasRoom (Some (Begin id due)) t h early marks = BeginRoom id due t h early marks
HasRoom (Some (End wishes accepts)) t h early marks = EndRoom wishes accepts t h early

-- unless the history is over, neither a Stop needs memory nor the Begins of so many prepared regions
abbrev pub EntryRoom : Course → Vec Entry → ℕ → Type 0
EntryRoom c h early = (c.finished || c.stopped) ≡ false → vec_len h + early < vec_capacity h

-- there is memory for the End of the tick, with its answers, for a Stop after it, and for the Begins of so many prepared regions
pub record HasGrownToEnd (t : Tables) (h : Vec Entry) (tick : Tick) (accepts : Vec Accept) (early : ℕ) : Type 0 where
  pub core : EndRoom (length tick.log.wishes) accepts t h early
  pub things : length tick.log.wishes ≤ tick.body.chunks.spare
