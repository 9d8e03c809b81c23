-- The words of each line of a report.
use Rattle.std.specs.Prelude.{ℕ, List, [], ◌∷◌, ◌++◌, map, flat_map, length, codes, decimal}
use Rattle.std.specs.Fmt.{signed_decimal}
use Rattle.fol_model.specs.declared.places.ChunkPos.{ChunkPos}
use Rattle.fol_model.specs.declared.regions.State.{State}
use Rattle.fol_model.specs.declared.regions.State.TheVariants.{Transient, Ready, Ticking, Dead}
use Rattle.fol_model.specs.Deed.{Deed}
use Rattle.fol_model.specs.LineWords.{Word}
use Rattle.fol_model.specs.TextForms.{cell_spelled}
use Rattle.fol_model.specs.ActionCells.{deed_cells}
use Rattle.fol_model.specs.Nesting.{deed_of}
use Rattle.fol_model.specs.declared.places.BlockPos.{BlockPos}
use Rattle.fol_model.specs.declared.openings.BlockAt.{BlockAt}
use Rattle.fol_model.specs.declared.actions.Action.{Action}
use Rattle.fol_model.specs.declared.tasks.Outcome.{Outcome}
use Rattle.fol_model.specs.declared.tasks.Outcome.TheVariants as outcome
use Rattle.fol_model.specs.declared.events.Loaded.{Loaded}
use Rattle.fol_model.specs.declared.events.Loaded.TheVariants as loaded
use Rattle.fol_model.specs.declared.events.Unloaded.{Unloaded}
use Rattle.fol_model.specs.declared.events.Unloaded.TheVariants as unloaded
use Rattle.fol_model.specs.declared.events.Accept.{Accept}
use Rattle.fol_model.specs.declared.events.Accept.TheVariants as accept
use Rattle.fol_model.specs.declared.tasks.Ran.{Ran}
use Rattle.fol_model.specs.declared.events.Event.{Event}
use Rattle.fol_model.specs.declared.events.Event.TheVariants.{Load, Unload, Post, PhaseOpen, Begin, End, PhaseClose, Finish, Stop}
use Rattle.fol_model.specs.declared.events.Entry.{Entry}
use Rattle.fol_model.specs.declared.entities.Place.{Place}
use Rattle.fol_model.specs.declared.entities.Place.TheVariants as place
use Rattle.fol_model.specs.declared.closings.RegionRow.{RegionRow}
use Rattle.fol_model.specs.declared.closings.OwnerRow.{OwnerRow}
use Rattle.fol_model.specs.declared.closings.TaskRow.{TaskRow}
use Rattle.fol_model.specs.declared.closings.EntityRow.{EntityRow}

abbrev pub chunk_words : ChunkPos → List Word
chunk_words c = signed_decimal c.x ∷ signed_decimal c.z ∷ []

abbrev pub block_words : BlockPos → List Word
block_words b = signed_decimal b.x ∷ signed_decimal b.y ∷ signed_decimal b.z ∷ []

-- ---- actions: the words of a script, with `arrive` and `every` besides

abbrev pub deed_words : Deed → List Word
deed_words d = map cell_spelled (deed_cells d)

unfoldable pub action_words : Action → List Word
action_words a = deed_words (deed_of a)

-- ---- answers

-- present and wanted sections
abbrev pub full_words : ℕ → ℕ → List Word
full_words present wanted = codes "full" ∷ decimal present ∷ decimal wanted ∷ []

-- no event holds `Over`
abbrev pub loaded_words : Loaded → List Word
loaded_words loaded.Counted = codes "counted" ∷ []
loaded_words (loaded.Full present wanted) = full_words present wanted
loaded_words loaded.Over = codes "over" ∷ []

abbrev pub unloaded_words : Unloaded → List Word
unloaded_words unloaded.Lowered = codes "lowered" ∷ []
unloaded_words unloaded.NoTicket = codes "noticket" ∷ []
unloaded_words unloaded.Over = codes "over" ∷ []

abbrev pub accept_words : Accept → List Word
accept_words (accept.Posted number) = codes "posted" ∷ decimal number ∷ []
accept_words (accept.Full present wanted) = full_words present wanted

abbrev pub outcome_word : Outcome → Word
outcome_word outcome.Done = codes "done"
outcome_word outcome.Foreign = codes "foreign"
outcome_word outcome.Absent = codes "absent"
outcome_word outcome.Full = codes "full"
outcome_word outcome.NoTicket = codes "noticket"

abbrev pub ran_words : Ran → List Word
ran_words r = decimal r.number ∷ outcome_word r.outcome ∷ []

-- ---- events

abbrev pub end_words : ℕ → ℕ → ℕ → List Ran → List Accept → List Word
end_words worker region tick ran accepts =
    codes "end" ∷ decimal worker ∷ decimal region ∷ codes "tick" ∷ decimal tick
    ∷ codes "ran" ∷ decimal (length ran) ∷ flat_map ran_words ran
    ++ codes "accepted" ∷ decimal (length accepts) ∷ flat_map accept_words accepts

abbrev pub event_words : Event → List Word
event_words (Load caller c answer) = codes "load" ∷ decimal caller ∷ chunk_words c ++ loaded_words answer
event_words (Unload caller c answer) = codes "unload" ∷ decimal caller ∷ chunk_words c ++ unloaded_words answer
event_words (Post caller c d a answer) = codes "post" ∷ decimal caller ∷ chunk_words c ++ decimal d ∷ accept_words answer ++ action_words a
event_words (PhaseOpen n) = codes "open" ∷ decimal n ∷ []
event_words (Begin worker region) = codes "begin" ∷ decimal worker ∷ decimal region ∷ []
event_words (End worker region tick ran accepts) = end_words worker region tick ran accepts
event_words PhaseClose = codes "close" ∷ []
event_words Finish = codes "finish" ∷ []
event_words (Stop caller) = codes "stop" ∷ decimal caller ∷ []

abbrev pub entry_words : Entry → List Word
entry_words e = event_words e.event

-- ---- rows

-- no row is of a Dead region
abbrev pub state_word : State → Word
state_word Transient = codes "transient"
state_word Ready = codes "ready"
state_word Ticking = codes "ticking"
state_word Dead = codes "dead"

abbrev pub region_words : RegionRow → List Word
region_words r =
    codes "region" ∷ decimal r.id ∷ state_word r.state ∷ codes "tick" ∷ decimal r.tick ∷ codes "owed" ∷ decimal r.owed
    ∷ codes "sections" ∷ decimal r.sections ∷ codes "chunks" ∷ decimal r.chunks ∷ []

abbrev pub owner_words : OwnerRow → List Word
owner_words r = codes "owner" ∷ signed_decimal r.at.x ∷ signed_decimal r.at.z ∷ decimal r.region ∷ []

abbrev pub task_words : TaskRow → List Word
task_words r = codes "task" ∷ decimal r.task.number ∷ chunk_words r.task.chunk ++ decimal r.rest ∷ action_words r.task.action

abbrev pub place_words : Place → List Word
place_words (place.At b) = codes "at" ∷ block_words b
place_words (place.Transit number) = codes "transit" ∷ decimal number ∷ []

abbrev pub entity_words : EntityRow → List Word
entity_words r = codes "entity" ∷ decimal r.id ∷ place_words r.place

abbrev pub block_row_words : BlockAt → List Word
block_row_words r = codes "block" ∷ block_words r.at ++ decimal r.id ∷ []
