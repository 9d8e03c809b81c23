use Rattle.std.proofs.Common.{sym, ◌∙◌}
use Rattle.fol_regions.specs.Table.{grid_state}
use Rattle.fol_store.specs.Stock.{bag_of}
use Rattle.fol_world.proofs.SettledBags.{gained_all, known_some, none_all, order_gained}
use Rattle.fol_world.proofs.holds.gain_owner.Goals as goal

pub gain-requires-clause-known : goal.gain-requires-clause-known
gain-requires-clause-known c = known_some (grid_state c.args.regions.now) _ c.in-Some.id c.args.c (bag_of c.args.store.now) (sym c.owner.ensures ∙ c.in-Some.is) c.requires.known

pub gain-requires-clause-order : goal.gain-requires-clause-order
gain-requires-clause-order c = order_gained (grid_state c.args.regions.now) _ c.in-Some.id c.args.c (bag_of c.args.store.now) (sym c.owner.ensures ∙ c.in-Some.is) c.requires.near

pub returns-in-Some-clause-bags : goal.returns-in-Some-clause-bags
returns-in-Some-clause-bags c = gained_all (grid_state c.args.regions.now) _ c.in-Some.id c.args.c (bag_of c.args.store.now) (sym c.owner.ensures ∙ c.in-Some.is) (bag_of c.gain.new.self) c.requires.near c.gain.ensures.own c.gain.ensures.others

pub returns-in-None-clause-bags : goal.returns-in-None-clause-bags
returns-in-None-clause-bags c = none_all (grid_state c.args.regions.now) _ (bag_of c.args.store.now) (sym c.owner.ensures ∙ c.in-None.is)
