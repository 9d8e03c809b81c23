use Rattle.std.proofs.Common.{◌≡◌, ℕ, ◌+◌, sym, refl, ◌∙◌, true, false, length}
use Rattle.fol_model.specs.End.{run_down}
use Rattle.fol_model.specs.Run.{world}
use Rattle.fol_laws.specs.LateBegin.{wishes_touch}
use Rattle.fol_data.specs.declared.tick.Tick.{Tick}
use Rattle.fol_regions.specs.Table.{grid_state}
use Rattle.fol_world.specs.declared.tables.Course.{Course}
use Rattle.fol_world.specs.AtEnd.{end_event}
use Rattle.fol_world.specs.MostParts.{parts_at_most}
use Rattle.fol_core.specs.Meaning.{mark}
use Rattle.fol_core.proofs.Ahead.{event_ahead, same_ahead}
use Rattle.fol_core.proofs.AheadEnds.{at_ahead, end_same, end_spares}
use Rattle.fol_core.proofs.EndFacts.{at_end, worker_at}
use Rattle.fol_core.proofs.FinishedRuns.{not_finished}
use Rattle.fol_core.proofs.OutAtBegin.{out_at_begin}
use Rattle.fol_core.proofs.ReleaseKept.{out_same, release_kept}
use Rattle.fol_core.proofs.Rooms.{end_room, places_left, room_left, room_to_accept, same_places, same_room}
use Rattle.fol_core.proofs.machine.Core.end.Goals as goal

sized : (a b : Course) (n : ℕ) {m : ℕ} → b ≡ record a { size = a.size + 1 } → n ≡ m → record b { size = b.size + n } ≡ record a { size = a.size + 1 + m }
sized a b n e q = rw (e, q) refl

pub invariant_of-self : goal.invariant_of-self
invariant_of-self c = (
  rw c.in-Err.ensures.entries (same_ahead _ _ _ _ c.self.invariant.0 _ c.in-Err.ensures.same),
  rw c.take-room.ensures.after tt,
  same_room _ _ _ _ _ _ _ c.in-Err.ensures.same.course c.in-Err.ensures.len c.in-Err.ensures.capacity c.self.invariant.2,
  same_places _ _ _ c.in-Err.ensures.same c.self.invariant.3,
)

pub memory_to_end-requires-clause-there : goal.memory_to_end-requires-clause-there
memory_to_end-requires-clause-there c = rw (c.take-room.ensures.value, c.count-early.ensures.count) (end_room _ _ _ _ _ c.self.invariant.1)

pub end_tick-event-requires-clause-may : goal.end_tick-event-requires-clause-may
end_tick-event-requires-clause-may c =
    let v = c.self.view_is in
    let s = same_ahead _ _ _ _ c.self.invariant.0 _ c.in-Ok.ensures.same in
    let out = out_same _ c.args.tick.now c.memory_to_end.new.tick c.in-Ok.ensures.tick (rw (sym v) at c.requires.out) in
    let at = at_end _ s.runs.grid _ s.runs.run _ (out_at_begin _ s.runs.grid s.runs.run _ out) in
    record {
      opening = c.self.inside.opening;
      history = s.runs.ahead.entries;
      stands = s.stands;
      at = at_ahead _ _ _ _ s _ at;
      size = c.in-Ok.ensures.ok.core.size;
      memory = room_to_accept _ _ _ _ _ _ c.in-Ok.ensures.ok.core c.in-Ok.ensures.ok.things;
    }

pub invariant_of-self-in-Ok : goal.invariant_of-self-in-Ok
invariant_of-self-in-Ok c =
    let v = c.self.view_is in
    let tick : Tick = c.memory_to_end.new.tick in
    let same = c.in-Ok.ensures.tick in
    let s = same_ahead _ _ _ _ c.self.invariant.0 _ c.in-Ok.ensures.same in
    let out = out_same _ c.args.tick.now tick same (rw (sym v) at c.requires.out) in
    let begun = out_at_begin _ s.runs.grid s.runs.run _ out in
    let at = at_end _ s.runs.grid _ s.runs.run _ begun in
    let then = at_ahead _ _ _ _ s _ at in
    let region = same.region in
    let log = same.log in
    let given = rw (sym v) at c.requires.spares in
    let spares : (r : ℕ) → mark c.self.inside.marks r ≡ true → wishes_touch (run_down (world c.self.inside.opening c.self.inside.history.items) tick.region tick.log.ran) tick.log.wishes r ≡ false = rw (region, log) given in
    let told = c.end_tick-event.ensures.event _ _ s.stands then in
    let event = told ∙ end_same _ _ _ _ s _ at spares tick.worker in
    let k = release_kept _ _ _ s.stands tick then _ refl c.in-Ok.ensures.ok.core.size c.end_tick-event.new.tables (c.end_tick-event.ensures.ended _ _ s.stands then) c.end_tick-event.ensures.course tick.worker _
    (sym (end_same _ _ _ _ s _ at spares _))
    (record c.record_in.new.course { size = c.record_in.new.course.size + c.len-asked.result }) (sized c.end_tick-event.new.tables.course c.record_in.new.course c.len-asked.result c.record_in.ensures.size c.len-asked.ensures) in
    let all = event_ahead _ _ _ s.runs (record { by = tick.worker; event = end_event (world c.self.inside.opening c.self.inside.history.items) tick.worker tick.region tick.log.ran })
    (not_finished c.self.inside.opening c.self.inside.history.items s.runs.grid s.runs.run tick.region at.ticks) (at.ticks, worker_at _ s.runs.grid _ s.runs.run _ begun, refl, sym at.ran, refl) (end_spares _ _ _ _ s _ at spares tick.worker) _ k in (
      rw (c.record_in.ensures.entries, c.in-Ok.ensures.entries, event) all,
      rw c.take-room.ensures.after tt,
      room_left (record c.record_in.new.course { size = c.record_in.new.course.size + c.len-asked.result }) _ _ _ _ _ _ c.count-early.ensures.count c.in-Ok.ensures.ok.core.history c.record_in.ensures.len c.record_in.ensures.capacity,
      places_left (length tick.log.wishes + parts_at_most (grid_state c.memory_to_end.new.tables.regions) (length tick.log.wishes)) _ _ _ _ c.count-early.ensures.count c.in-Ok.ensures.ok.core.places c.end_tick-event.ensures.stack,
    )

pub returns-in-Ok-clause-recorded : goal.returns-in-Ok-clause-recorded
returns-in-Ok-clause-recorded c =
    let v = c.self.view_is in
    let tick : Tick = c.memory_to_end.new.tick in
    let same = c.in-Ok.ensures.tick in
    let s = same_ahead _ _ _ _ c.self.invariant.0 _ c.in-Ok.ensures.same in
    let out = out_same _ c.args.tick.now tick same (rw (sym v) at c.requires.out) in
    let at = at_end _ s.runs.grid _ s.runs.run _ (out_at_begin _ s.runs.grid s.runs.run _ out) in
    let then = at_ahead _ _ _ _ s _ at in
    let worker = same.worker in
    let region = same.region in
    let log = same.log in
    let given = rw (sym v) at c.requires.spares in
    let spares : (r : ℕ) → mark c.self.inside.marks r ≡ true → wishes_touch (run_down (world c.self.inside.opening c.self.inside.history.items) tick.region tick.log.ran) tick.log.wishes r ≡ false = rw (region, log) given in
    let told = c.end_tick-event.ensures.event _ _ s.stands then ∙ end_same _ _ _ _ s _ at spares tick.worker in
    let event = rw (worker, region, log) at told in
    let new = c.record_in.ensures.entries in
    let old = c.in-Ok.ensures.entries in
    rw (sym v) (record { opening = refl; history = rw (new, old, worker, event) refl; prepared = refl })
