use Rattle.std.proofs.Common.{sym, ◌∙◌}
use Rattle.fol_regions.specs.Table.{grid_state}
use Rattle.fol_store.specs.Stock.{bag_of}
use Rattle.fol_world.proofs.SettledBags.{known_some, lost_all, none_all, order_lost}
use Rattle.fol_world.proofs.holds.lose_chunk.Goals as goal

pub lose-requires-clause-known : goal.lose-requires-clause-known
lose-requires-clause-known c = known_some (grid_state c.args.regions.now) _ c.in-Some.id c.args.c (bag_of c.args.store.now) (sym c.owner.ensures ∙ c.in-Some.is) c.requires.known

pub lose-requires-clause-order : goal.lose-requires-clause-order
lose-requires-clause-order c = order_lost (grid_state c.args.regions.now) _ c.in-Some.id c.args.c (bag_of c.args.store.now) (sym c.owner.ensures ∙ c.in-Some.is) c.requires.near

pub lose-requires-clause-no_task : goal.lose-requires-clause-no_task
lose-requires-clause-no_task c home = c.requires.no_task

pub returns-in-Some-clause-bags : goal.returns-in-Some-clause-bags
returns-in-Some-clause-bags c = lost_all (grid_state c.args.regions.now) _ c.in-Some.id c.args.c (bag_of c.args.store.now) (sym c.owner.ensures ∙ c.in-Some.is) (bag_of c.lose.new.self) c.requires.near c.lose.ensures.own c.lose.ensures.others

pub returns-in-None-clause-bags : goal.returns-in-None-clause-bags
returns-in-None-clause-bags c = none_all (grid_state c.args.regions.now) _ (bag_of c.args.store.now) (sym c.owner.ensures ∙ c.in-None.is)
