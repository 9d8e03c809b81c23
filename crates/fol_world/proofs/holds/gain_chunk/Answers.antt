use Rattle.fol_regions.specs.Table.{grid_state}
use Rattle.fol_store.specs.Stock.{bag_of}
use Rattle.fol_world.proofs.SettledBags.{stays_all}
use Rattle.fol_world.proofs.holds.gain_chunk.Goals as goal

pub returns-in-Full-clause-bags : goal.returns-in-Full-clause-bags
returns-in-Full-clause-bags c = let near = rw c.in-Full.is at c.requires.near in stays_all (grid_state c.args.regions.now) _ (bag_of c.args.store.now) near
