use Rattle.std.proofs.Common.{◌≡◌, true, false, sym, ◌∙◌, ap}
use Rattle.fol_store.specs.contracts.store.Store.{the_view}
use Rattle.fol_store.specs.Bag.{Bag}
use Rattle.fol_store.specs.Stock.{slot, bag_of, next_of}
use Rattle.fol_store.proofs.Totals.{same_flat, same_jobs}
use Rattle.fol_store.proofs.BagSteps.{bag_slot}
use Rattle.fol_store.proofs.Filling.{own_at}
use Rattle.fol_store.proofs.Stepping.{here_not_taken}
use Rattle.fol_store.proofs.store.Store.gather.Goals as goal

pub fill-requires-clause-not_taken : goal.fill-requires-clause-not_taken
fill-requires-clause-not_taken c =
    let own = own_at c.args.id c.args.chunks.now (bag_of c.args.self.now) (bag_of c.unsettle.new.self) _ c.unsettle.ensures.bags in
    let here : (slot (the_view c.self.inside) c.args.id).here ≡ true = sym (ap (λ (b : Bag). b.here) (bag_slot (the_view c.self.inside) c.args.id)) ∙ (rw (← c.self.view_is) at c.requires.here) in
    let free : (bag_of (the_view c.self.inside) c.args.id).taken ≡ false = ap (λ (b : Bag). b.taken) (bag_slot (the_view c.self.inside) c.args.id) ∙ here_not_taken c.args.id (the_view c.self.inside) c.self.invariant here in
    ap (λ (b : Bag). b.taken) own ∙ (rw c.self.view_is at free)

pub returns-clause-next : goal.returns-clause-next
unfolding next_of
returns-clause-next c = c.fill.ensures.same.bags ∙ c.unsettle.ensures.next

pub returns-clause-contents : goal.returns-clause-contents
returns-clause-contents c = same_flat c.unsettle.new.self c.fill.new.self c.fill.ensures.same.found ∙ c.unsettle.ensures.contents

pub returns-clause-tasks : goal.returns-clause-tasks
returns-clause-tasks c = same_jobs c.unsettle.new.self c.fill.new.self c.fill.ensures.same.found ∙ c.unsettle.ensures.tasks
