use Rattle.std.proofs.Common.{subst}
use Rattle.fol_bags.specs.declared.slot.Slot.{Slot}
use Rattle.fol_bags.specs.Slots.{no_slot}
use Rattle.fol_bags.specs.Things.{IsTimely}
use Rattle.fol_bags.proofs.OpenBags.{get_or-any}
use Rattle.fol_store.specs.contracts.store.Store.{the_view}
use Rattle.fol_store.proofs.RowLists.{all_blocks_differ, all_entities_differ, all_tasks_differ, blocks_held, blocks_above, entities_held, tasks_held}
use Rattle.fol_store.proofs.store.Store.into_rows.Goals as goal

pub list-requires-clause-bags_timely : goal.list-requires-clause-bags_timely
list-requires-clause-bags_timely c = λ k d l.
    let P : Slot → Type 0 = λ b. IsTimely b.body in
    subst P (get_or-any c.self.inside.bags.items k no_slot d l) (c.self.invariant.bag_times k)

pub sort_blocks-requires : goal.sort_blocks-requires
sort_blocks-requires c = rw c.in_ok-rows.ensures.blocks (all_blocks_differ (the_view c.self.inside) c.self.invariant c.in_ok-rows.ensures.spots_listed c.in_ok-rows.ensures.bags_listed)

pub sort_entities-requires : goal.sort_entities-requires
sort_entities-requires c = rw c.in_ok-rows.ensures.entities (all_entities_differ (the_view c.self.inside) c.self.invariant c.in_ok-rows.ensures.spots_listed c.in_ok-rows.ensures.bags_listed)

pub sort_tasks-requires : goal.sort_tasks-requires
sort_tasks-requires c = rw c.in_ok-rows.ensures.tasks (all_tasks_differ (the_view c.self.inside) c.self.invariant c.in_ok-rows.ensures.spots_listed c.in_ok-rows.ensures.bags_listed)

pub returns-clause-blocks : goal.returns-clause-blocks
returns-clause-blocks c =
    let same = rw c.in_ok-rows.ensures.blocks at c.sort_blocks.ensures.same in
    rw (← c.self.view_is) (blocks_held (the_view c.self.inside) c.self.invariant c.in_ok-rows.ensures.spots_listed c.in_ok-rows.ensures.bags_listed c.sort_blocks.new.blocks.items same)

pub returns-clause-none_empty : goal.returns-clause-none_empty
returns-clause-none_empty c =
    let same = rw c.in_ok-rows.ensures.blocks at c.sort_blocks.ensures.same in
    blocks_above (the_view c.self.inside) c.self.invariant c.in_ok-rows.ensures.spots_listed c.in_ok-rows.ensures.bags_listed c.sort_blocks.new.blocks.items same

pub returns-clause-entities : goal.returns-clause-entities
returns-clause-entities c =
    let same = rw c.in_ok-rows.ensures.entities at c.sort_entities.ensures.same in
    rw (← c.self.view_is) (entities_held (the_view c.self.inside) c.self.invariant c.in_ok-rows.ensures.spots_listed c.in_ok-rows.ensures.bags_listed c.sort_entities.new.entities.items same)

pub returns-clause-tasks : goal.returns-clause-tasks
returns-clause-tasks c =
    let same = rw c.in_ok-rows.ensures.tasks at c.sort_tasks.ensures.same in
    rw (← c.self.view_is) (tasks_held (the_view c.self.inside) c.self.invariant c.in_ok-rows.ensures.spots_listed c.in_ok-rows.ensures.bags_listed c.sort_tasks.new.tasks.items same)
