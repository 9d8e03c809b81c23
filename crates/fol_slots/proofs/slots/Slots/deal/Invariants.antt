use Rattle.std.proofs.Common.{◌≡◌, ◌≤◌, [], vec_capacity, None, true, false}
use Rattle.fol_slots.specs.Steps.{view, all_kept}
use Rattle.fol_slots.specs.Shown.{AreNew}
use Rattle.fol_slots.specs.Table.{slots_id}
use Rattle.fol_slots.proofs.slots.Slots.deal.Given as goal

abbrev pub invariant-loop-made : goal.invariant-loop-made
invariant-loop-made g l = record {
  table : l.first.table_id ≡ slots_id l.self;
  me : l.first.me ≡ (view true false 0 l.made None None [] None (all_kept l.self.table.shared.key.bodies.value.items), []);
  new : AreNew (slots_id l.self) l.made l.seats.items;
  room : l.workers ≤ vec_capacity l.seats;
}
