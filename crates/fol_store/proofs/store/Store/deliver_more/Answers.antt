use Rattle.std.proofs.Common.{◌∙◌, refl, ap, arith, length}
use Rattle.fol_store.proofs.Handing.{both, roomier, through}
use Rattle.fol_store.proofs.store.Store.deliver_more.Goals as goal

pub deliver-requires-clause-takes : goal.deliver-requires-clause-takes
deliver-requires-clause-takes c = c.in-Some.ensures.found c.in-Some.id refl

pub loop-c-preserved : goal.loop-c-preserved
loop-c-preserved c = record {
  same = both _ _ _ c.loop-c.invariant.same (through _ _ _ c.make_room.ensures.same c.deliver.ensures.same);
  bags = c.deliver.ensures.bags ∙ c.make_room.ensures.same.bags ∙ c.loop-c.invariant.bags;
  places = c.deliver.ensures.places ∙ c.make_room.ensures.same.places ∙ c.loop-c.invariant.places;
  len = omega (arith, c.deliver.ensures.len, ap length c.make_room.ensures.same.arrivals, c.loop-c.invariant.len);
}

pub returns-in-None-clause-same : goal.returns-in-None-clause-same
returns-in-None-clause-same c = both _ _ _ c.loop-c.invariant.same (roomier _ _ c.make_room.ensures.same)
