use Rattle.std.proofs.Common.{◌≡◌, ◌∙◌, refl, ap}
use Rattle.std.specs.Prelude.{count_by}
use Rattle.fol_region_tables.specs.SlotKeys.{has_slot, table_of}
use Rattle.fol_region_tables.proofs.LiveSlots.{living_members, living_rise}
use Rattle.fol_region_tables.proofs.slots.Slots.ids.Goals as goal

pub keep_living-requires : goal.keep_living-requires
keep_living-requires c =
    let all : c.extend_from_slice.new.self.items ≡ c.self.inside.living.items = c.in_ok-extend_from_slice.ensures.items ∙ rw (c.in_ok-ids.ensures.items, c.deref.ensures.value) refl in
    record {
      keys = rw c.deref-2.ensures.value c.self.invariant.0;
      count = ap (count_by (has_slot (table_of c.self.inside.regions))) all ∙ c.self.invariant.1.count;
    }

pub returns-clause-rising : goal.returns-clause-rising
returns-clause-rising c =
    let all : c.extend_from_slice.new.self.items ≡ c.self.inside.living.items = c.in_ok-extend_from_slice.ensures.items ∙ rw (c.in_ok-ids.ensures.items, c.deref.ensures.value) refl in
    rw (c.keep_living.ensures.kept, all) (living_rise (table_of c.self.inside.regions) c.self.inside.living.items _ c.self.invariant.1)

pub returns-clause-members : goal.returns-clause-members
returns-clause-members c =
    let all : c.extend_from_slice.new.self.items ≡ c.self.inside.living.items = c.in_ok-extend_from_slice.ensures.items ∙ rw (c.in_ok-ids.ensures.items, c.deref.ensures.value) refl in
    rw (c.keep_living.ensures.kept, all, ← c.self.view_is) (living_members (table_of c.self.inside.regions) c.self.inside.living.items _ c.self.invariant.1)
