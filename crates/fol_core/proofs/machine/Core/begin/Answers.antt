use Rattle.std.proofs.Common.{rules, ◌≡◌, true, false, refl, sym, ◌∙◌, ap, arith, length}
use Rattle.std.specs.Prelude.{Some}
use Rattle.std.proofs.lemmas.Bool.{or_parts}
use Rattle.fol_model.specs.declared.events.Event.TheVariants.{Begin}
use Rattle.fol_model.specs.declared.regions.State.{State}
use Rattle.fol_model.specs.GridState.{is_ready}
use Rattle.fol_regions.specs.Table.{grid_state}
use Rattle.fol_store.specs.Stock.{bag_of}
use Rattle.fol_world.specs.Agenda.{owes}
use Rattle.fol_core.proofs.Ahead.{event_ahead, over_is}
use Rattle.fol_core.proofs.AheadBegins as ahead
use Rattle.fol_core.proofs.AheadBegins.{begin_allowed, begin_spares, owed_told, state_told, tick_now}
use Rattle.fol_core.proofs.BeginKept.{owing_now, room_for, tidy_bags, tidy_covers}
use Rattle.fol_core.proofs.BeginTick.{begin_stands, tick_is}
use Rattle.fol_core.proofs.Rooms.{room_left}
use Rattle.fol_core.proofs.machine.Core.begin.Goals as goal

pub hand_out-requires-clause-bags : goal.hand_out-requires-clause-bags
hand_out-requires-clause-bags c =
    let owing : owes (grid_state c.self.inside.tables.regions) (bag_of c.self.inside.tables.store) c.args.id ≡ true =
    owing_now (grid_state c.self.inside.tables.regions) (bag_of c.self.inside.tables.store) c.args.id (sym c.state.ensures ∙ c.in-Some-Ready.is ∙ ap (λ (x : State). Some x) c.in-Some-Ready.field-0-is) (omega (arith, c.owed.ensures, c.if-owed-eq0.false)) in
    tidy_bags _ _ _ c.self.invariant.0.stands c.args.id owing

pub hand_out-requires-clause-covers : goal.hand_out-requires-clause-covers
hand_out-requires-clause-covers c =
    let owing : owes (grid_state c.self.inside.tables.regions) (bag_of c.self.inside.tables.store) c.args.id ≡ true =
    owing_now (grid_state c.self.inside.tables.regions) (bag_of c.self.inside.tables.store) c.args.id (sym c.state.ensures ∙ c.in-Some-Ready.is ∙ ap (λ (x : State). Some x) c.in-Some-Ready.field-0-is) (omega (arith, c.owed.ensures, c.if-owed-eq0.false)) in
    tidy_covers _ _ _ c.self.invariant.0.stands c.args.id owing

pub invariant_of-self : goal.invariant_of-self
invariant_of-self c =
    let owing : owes (grid_state c.self.inside.tables.regions) (bag_of c.self.inside.tables.store) c.args.id ≡ true =
    owing_now (grid_state c.self.inside.tables.regions) (bag_of c.self.inside.tables.store) c.args.id (sym c.state.ensures ∙ c.in-Some-Ready.is ∙ ap (λ (x : State). Some x) c.in-Some-Ready.field-0-is) (omega (arith, c.owed.ensures, c.if-owed-eq0.false)) in
    let room = room_for c.self.inside.room c.self.inside.tables c.self.inside.history c.args.id _ _ c.self.invariant.1 (rw (← c.self.view_is) at c.requires.ready) in
    let s = c.self.invariant.0 in
    let out = c.hand_out.ensures in
    let over = sym c.is_over.ensures ∙ c.if-is_over.false in
    let on = sym (over_is _ _ _ _ s) ∙ over in (
      rw c.record.ensures.entries
          (event_ahead _ _ _ s.runs (record { by = c.args.by; event = Begin c.args.worker c.args.id }) (or_parts _ _ on).0 (begin_allowed _ _ _ _ s c.args.id owing c.args.worker on) (begin_spares _ _ _ _ s c.args.id owing c.args.worker) _
          (begin_stands _ _ _ s.stands c.args.id owing (room.settled owing) c.args.by c.args.worker c.hand_out.new.tables c.record.new.course over room.size out.regions out.flat out.jobs out.taken out.next out.agenda
          out.others.0 out.others.1 out.others.2 c.record.ensures.size)),
      rw c.take.ensures.after tt,
      room_left c.record.new.course _ _ _ _ _ _ refl room.history c.record.ensures.len c.record.ensures.capacity,
      omega (arith, c.self.invariant.3, out.len, out.capacity),
    )

pub returns : goal.returns
returns c =
    let owing : owes (grid_state c.self.inside.tables.regions) (bag_of c.self.inside.tables.store) c.args.id ≡ true =
    owing_now (grid_state c.self.inside.tables.regions) (bag_of c.self.inside.tables.store) c.args.id (sym c.state.ensures ∙ c.in-Some-Ready.is ∙ ap (λ (x : State). Some x) c.in-Some-Ready.field-0-is) (omega (arith, c.owed.ensures, c.if-owed-eq0.false)) in
    let room = room_for c.self.inside.room c.self.inside.tables c.self.inside.history c.args.id _ _ c.self.invariant.1 (rw (← c.self.view_is) at c.requires.ready) in
    let s = c.self.invariant.0 in
    let out = c.hand_out.ensures in
    let over = sym c.is_over.ensures ∙ c.if-is_over.false in
    rw (← c.self.view_is) (
      sym (over_is _ _ _ _ s) ∙ over,
      ahead.owing_now _ _ _ _ s c.args.id owing,
      tick_now _ _ _ _ s c.args.id owing _ _ _ (tick_is _ _ _ s.stands c.args.id owing (room.settled owing) c.args.worker _ _ refl out.region (ap length c.as_slice.ensures.value) out.chunks
          out.counter out.owed out.contents out.left out.order out.due out.ran out.wishes out.next_task out.moved),
      record { opening = refl; history = c.record.ensures.entries; prepared = refl },
    )

pub returns-then-is_over : goal.returns-then-is_over
returns-then-is_over c = rw (← c.self.view_is) (sym (over_is _ _ _ _ c.self.invariant.0) ∙ sym c.is_over.ensures ∙ c.if-is_over.true, record { opening = refl; history = refl; prepared = refl; room = refl })

pub returns-in-Some : goal.returns-in-Some
returns-in-Some c =
    let s = c.self.invariant.0 in
    let off = rw (← c.self.view_is) at c.requires.free in
    let other : is_ready c.in-Some.state ≡ false = search rules in
    rw (← c.self.view_is) (
      sym (over_is _ _ _ _ s) ∙ sym c.is_over.ensures ∙ c.if-is_over.false,
      other,
      state_told _ _ _ _ s c.args.id off c.in-Some.state (sym c.state.ensures ∙ c.in-Some.is),
      record { opening = refl; history = refl; prepared = refl; room = refl },
    )

pub returns-then-owed-eq0 : goal.returns-then-owed-eq0
returns-then-owed-eq0 c =
    let s = c.self.invariant.0 in
    let off = rw (← c.self.view_is) at c.requires.free in
    let ready = sym (state_told _ _ _ _ s c.args.id off _ (sym c.state.ensures ∙ c.in-Some-Ready.is ∙ ap (λ (x : State). Some x) c.in-Some-Ready.field-0-is)) in
    rw (← c.self.view_is) (
      sym (over_is _ _ _ _ s) ∙ sym c.is_over.ensures ∙ c.if-is_over.false,
      rw ready refl,
      sym (owed_told _ _ _ _ s c.args.id off ready) ∙ sym c.owed.ensures ∙ c.if-owed-eq0.true,
      record { opening = refl; history = refl; prepared = refl; room = refl },
    )
