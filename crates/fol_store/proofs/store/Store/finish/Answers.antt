use Rattle.std.proofs.Common.{◌≡◌, ◌-◌, true, [], sym, ◌∙◌, ap, arith, vec_len}
use Rattle.std.specs.Vec.{vec_capacity}
use Rattle.fol_model.specs.declared.places.ChunkPos.{ChunkPos}
use Rattle.fol_chunks.specs.Contents.{is_recorded}
use Rattle.fol_store.specs.contracts.store.Store.{the_view}
use Rattle.fol_store.specs.Bag.{Bag}
use Rattle.fol_store.specs.Stock.{slot, bag_of}
use Rattle.fol_store.specs.Steps.{IsGathered}
use Rattle.fol_store.proofs.BagSteps.{with_bags, bag_slot}
use Rattle.fol_bags.proofs.OpenBags.{here_open}
use Rattle.fol_store.proofs.Settling.{Settled, now_whole}
use Rattle.fol_store.proofs.store.Store.finish.Goals as goal

pub finish-requires : goal.finish-requires
finish-requires c =
    let h : (slot (the_view c.self.inside) c.args.id).here ≡ true = sym (ap (λ (b : Bag). b.here) (bag_slot (the_view c.self.inside) c.args.id)) ∙ (rw (← c.self.view_is) at c.requires.here) in
    here_open c.self.inside.bags.items c.args.id h

step : (c : goal.After-finish) → Settled (the_view c.self.inside) (with_bags (the_view c.self.inside) c.finish.new.bags.items (vec_capacity c.self.inside.arrivals - vec_len c.self.inside.arrivals) c.finish.new.bags.free) c.args.id (let b : Bag = record (bag_of (the_view c.self.inside) c.args.id) { listed = true; calm = true } in b)
unfolding bag_of
step c =
    let here : (slot (the_view c.self.inside) c.args.id).here ≡ true = rw (← c.self.view_is) at c.requires.here in
    let gathered : (q : ChunkPos) → is_recorded (slot (the_view c.self.inside) c.args.id).chunks q ≡ true → IsGathered (the_view c.self.inside) c.args.id q = rw (← c.self.view_is) at c.requires.gathered in
    now_whole (the_view c.self.inside) c.finish.new.bags.items _ _ c.args.id [] c.finish.ensures.sets.slots here
    gathered (omega arith) (omega arith) (omega (arith, c.finish.ensures.sets.len, c.finish.ensures.sets.free)) c.self.invariant

pub invariant_of-self : goal.invariant_of-self
invariant_of-self c = (step c).sound

pub returns-clause-same : goal.returns-clause-same
returns-clause-same c = rw (← c.self.view_is) (step c).same

pub returns-clause-bags : goal.returns-clause-bags
returns-clause-bags c = rw (← c.self.view_is) (step c).bags
