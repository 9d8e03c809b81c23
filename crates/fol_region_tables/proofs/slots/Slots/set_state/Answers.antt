use Rattle.std.proofs.Common.{◌≡◌, refl, sym, ◌∙◌, ap, arith}
use Rattle.std.specs.Prelude.{ℕ, Some, None}
use Rattle.std.specs.List.{slice_index_or}
use Rattle.fol_region_tables.specs.declared.slots.Region.{Region}
use Rattle.fol_model.specs.GridState.{with_state}
use Rattle.fol_region_tables.specs.Slots.{SlotTable, slot_of, slot_state}
use Rattle.fol_region_tables.proofs.LiveSlots.{living_stay, set_counts}
use Rattle.fol_region_tables.proofs.SlotSteps.{slot_has, set_keys, set_slots, set_states}
use Rattle.fol_region_tables.proofs.slots.Slots.set_state.Goals as goal
use Rattle.fol_region_tables.proofs.slots.Slots.set_state.Goals.{in-Some, in_default}

pub invariant_of-self : goal.invariant_of-self
invariant_of-self c =
    let regions = c.self.inside.regions.slots in
    let room = c.self.inside.regions.capacity in
    let v : SlotTable = record { regions = regions; room = room } in
    let at = rw (← c.self.view_is) at c.find-slot.ensures in
    let l = rw (← c.self.view_is) at c.requires in
    let x = slot_has v c.args.id l in
    elim c.match-get_mut.branch [
      | in-Some w ↦
          let was = w.in-Some.ensures.value in
          let same : Some w.in-Some.region.now ≡ Some x.0 = was ∙ ap (λ k. slice_index_or regions k None) at ∙ x.1 in
          let inner : w.in-Some.region.now ≡ x.0 = cc in
          let id : w.in-Some.region.now.id ≡ c.args.id = ap (λ (r : Region). r.id) inner ∙ x.2 in
          let slots = set_slots regions room c.find-slot.result w.in-Some.region.now c.args.state (sym was) (omega arith) (ap (slot_of v) id ∙ sym at) in
          rw w.self-inside-is (
            set_keys regions room c.find-slot.result w.in-Some.region.now c.args.state (sym was) c.self.inside.keys.items c.self.invariant.0,
            living_stay v _ c.self.inside.living.items _ c.self.invariant.1 refl slots (set_counts regions c.find-slot.result w.in-Some.region.now _ (sym was)),
          )
      | in_default w ↦ rw w.self-inside-is c.self.invariant
    ]

pub returns-clause-slots : goal.returns-clause-slots
returns-clause-slots c =
    let v : SlotTable = record { regions = c.self.inside.regions.slots; room = c.self.inside.regions.capacity } in
    let at = rw (← c.self.view_is) at c.find-slot.ensures in
    let l = rw (← c.self.view_is) at c.requires in
    let x = slot_has v c.args.id l in
    elim c.match-get_mut.branch [
      | in-Some w ↦
          let same : Some w.in-Some.region.now ≡ Some x.0 = w.in-Some.ensures.value ∙ ap (λ k. slice_index_or c.self.inside.regions.slots k None) at ∙ x.1 in
          let inner : w.in-Some.region.now ≡ x.0 = cc in
          let id : w.in-Some.region.now.id ≡ c.args.id = ap (λ (r : Region). r.id) inner ∙ x.2 in
          rw (w.self-inside-is, ← c.self.view_is) (set_slots c.self.inside.regions.slots c.self.inside.regions.capacity c.find-slot.result w.in-Some.region.now c.args.state (sym w.in-Some.ensures.value) (omega arith) (ap (slot_of v) id ∙ sym at))
      | in_default w ↦ let y : None ≡ Some x.0 = w.in_default.ensures.value ∙ ap (λ k. slice_index_or c.self.inside.regions.slots k None) at ∙ x.1 in absurd (cc)
    ]

pub returns-clause-states : goal.returns-clause-states
returns-clause-states c =
    let v : SlotTable = record { regions = c.self.inside.regions.slots; room = c.self.inside.regions.capacity } in
    let at = rw (← c.self.view_is) at c.find-slot.ensures in
    let l = rw (← c.self.view_is) at c.requires in
    let x = slot_has v c.args.id l in
    elim c.match-get_mut.branch [
      | in-Some w ↦
          let same : Some w.in-Some.region.now ≡ Some x.0 = w.in-Some.ensures.value ∙ ap (λ k. slice_index_or c.self.inside.regions.slots k None) at ∙ x.1 in
          let inner : w.in-Some.region.now ≡ x.0 = cc in
          let id : w.in-Some.region.now.id ≡ c.args.id = ap (λ (r : Region). r.id) inner ∙ x.2 in
          rw (w.self-inside-is, ← c.self.view_is) (set_states c.self.inside.regions.slots c.self.inside.regions.capacity c.find-slot.result w.in-Some.region.now c.args.state (sym w.in-Some.ensures.value) (omega arith) (ap (slot_of v) id ∙ sym at)
          ∙ ap (λ (j : ℕ). with_state (slot_state v) j c.args.state) id)
      | in_default w ↦ let y : None ≡ Some x.0 = w.in_default.ensures.value ∙ ap (λ k. slice_index_or c.self.inside.regions.slots k None) at ∙ x.1 in absurd (cc)
    ]
