use Rattle.std.proofs.Common.{List, length, ◌∙◌, ap}
use Rattle.fol_bags.specs.declared.slot.Slot.{Slot}
use Rattle.fol_store.specs.Stock.{next_of}
use Rattle.fol_store.proofs.Baring.{laid_flat, no_jobs, all_closed, bags_closed}
use Rattle.fol_store.proofs.store.Store.new.Goals as goal

pub lay_entities-requires-clause-closed : goal.lay_entities-requires-clause-closed
lay_entities-requires-clause-closed c = all_closed _ c.lay_blocks.new.self c.in_ok-store.ensures.bare.closed c.lay_blocks.ensures.bags

pub returns-clause-contents : goal.returns-clause-contents
returns-clause-contents c =
    rw (← c.opening.view_is, ← c.as_slice.ensures, ← c.as_slice-2.ensures)
    (laid_flat c.lay_entities.new.self c.as_slice.result.now c.as_slice-2.result.now (λ q. c.in_ok-lay_entities.ensures.blocks q ∙ c.in_ok-lay_blocks.ensures.blocks q) c.in_ok-lay_entities.ensures.entities)

pub returns-clause-tasks : goal.returns-clause-tasks
returns-clause-tasks c = no_jobs c.lay_entities.new.self (λ n. c.in_ok-lay_entities.ensures.tasks n ∙ c.in_ok-lay_blocks.ensures.tasks n)

pub returns-clause-bags : goal.returns-clause-bags
returns-clause-bags c = bags_closed c.lay_entities.new.self (all_closed _ c.lay_entities.new.self c.in_ok-store.ensures.bare.closed (c.lay_entities.ensures.bags ∙ c.lay_blocks.ensures.bags))

pub returns-clause-next : goal.returns-clause-next
unfolding next_of
returns-clause-next c = ap (λ (l : List Slot). length l) (c.lay_entities.ensures.bags ∙ c.lay_blocks.ensures.bags) ∙ c.in_ok-store.ensures.next
