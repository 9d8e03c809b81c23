use Rattle.fol_store.specs.Stock.{bag_of}
use Rattle.fol_world.proofs.UnitedBags.{opened_order}
use Rattle.fol_world.proofs.holds.change_bags.Goals as goal

pub join-requires-clause-order : goal.join-requires-clause-order
join-requires-clause-order c = rw c.open_all.ensures.bags (opened_order 0 0 c.created.result.now (bag_of c.args.store.now) c.requires.order)
