-- What contracts see of the entries of a history, which are kept in little memory.
use Rattle.std.specs.Prelude.{Bool, true, false, [], ◌&&◌, nat_eq, length}
use Rattle.fol_model.specs.declared.events.Event.{Event}
use Rattle.fol_model.specs.declared.events.Event.TheVariants.{Load, Unload, Post, PhaseOpen, Begin, End, PhaseClose, Finish, Stop}
use Rattle.fol_model.specs.declared.events.Entry.{Entry}
use Rattle.fol_model.specs.declared.packed.EventRef.{EventRef}
use Rattle.fol_model.specs.declared.packed.EventRef.TheVariants as seen
use Rattle.fol_model.specs.declared.packed.Packed.{Packed}
use Rattle.fol_model.specs.declared.packed.Packed.TheVariants as packed
use Rattle.fol_model.specs.declared.packed.TickEdge.{TickEdge}
use Rattle.fol_model.specs.declared.packed.TickEdge.TheVariants as edge

-- the entry that is packed so
abbrev pub entry_of : Packed → Entry
entry_of (packed.Load by caller c answer) = record { by = by; event = Load caller c answer }
entry_of (packed.Unload by caller c answer) = record { by = by; event = Unload caller c answer }
entry_of (packed.PhaseOpen by n) = record { by = by; event = PhaseOpen n }
entry_of (packed.Begin by worker r) = record { by = by; event = Begin worker r }
entry_of (packed.End by worker r tick) = record { by = by; event = End worker r tick [] [] }
entry_of (packed.PhaseClose by) = record { by = by; event = PhaseClose }
entry_of (packed.Finish by) = record { by = by; event = Finish }
entry_of (packed.Stop by caller) = record { by = by; event = Stop caller }
entry_of (packed.Boxed by event) = record { by = by; event = event.value }

-- the event that is looked at
abbrev pub event_seen : EventRef → Event
event_seen (seen.Load caller c answer) = Load caller c answer
event_seen (seen.Unload caller c answer) = Unload caller c answer
event_seen (seen.Post caller c delay action answer) = Post caller c delay action.now answer
event_seen (seen.PhaseOpen n) = PhaseOpen n
event_seen (seen.Begin worker r) = Begin worker r
event_seen (seen.End worker r tick ran accepts) = End worker r tick ran.now accepts.now
event_seen seen.PhaseClose = PhaseClose
event_seen seen.Finish = Finish
event_seen (seen.Stop caller) = Stop caller

-- the event has no list with an element and no action
abbrev pub is_light : Event → Bool
is_light (Load caller c answer) = true
is_light (Unload caller c answer) = true
is_light (Post caller c delay action answer) = false
is_light (PhaseOpen n) = true
is_light (Begin worker r) = true
is_light (End worker r tick ran accepts) = nat_eq (length ran) 0 && nat_eq (length accepts) 0
is_light PhaseClose = true
is_light Finish = true
is_light (Stop caller) = true

-- the event that is this edge of a tick
abbrev pub event_at : TickEdge → Event
event_at (edge.Begin worker r) = Begin worker r
event_at (edge.End worker r tick) = End worker r tick [] []

-- the event is the edge of a tick: a Begin, or an End with two empty lists
abbrev pub is_edge : Event → Bool
is_edge (Load caller c answer) = false
is_edge (Unload caller c answer) = false
is_edge (Post caller c delay action answer) = false
is_edge (PhaseOpen n) = false
is_edge (Begin worker r) = true
is_edge (End worker r tick ran accepts) = nat_eq (length ran) 0 && nat_eq (length accepts) 0
is_edge PhaseClose = false
is_edge Finish = false
is_edge (Stop caller) = false
