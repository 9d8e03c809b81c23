use Rattle.std.proofs.Common.{inr, refl}
use Rattle.fol_regions.specs.Table.{grid_state}
use Rattle.fol_store.specs.Stock.{bag_of}
use Rattle.fol_world.specs.Follows.{changed_bags}
use Rattle.fol_world.proofs.GainedBags.{settled_on}
use Rattle.fol_world.proofs.holds.follow.Goals as goal

pub gain_chunk-requires-clause-known : goal.gain_chunk-requires-clause-known
gain_chunk-requires-clause-known c = (c.requires.settles (bag_of c.change_bags.new.store) c.change_bags.ensures.bags).known

pub gain_chunk-requires-clause-near : goal.gain_chunk-requires-clause-near
gain_chunk-requires-clause-near c = (c.requires.settles (bag_of c.change_bags.new.store) c.change_bags.ensures.bags).near refl

pub returns-clause-bags : goal.returns-clause-bags
returns-clause-bags c =
    let s = c.requires.settles (bag_of c.change_bags.new.store) c.change_bags.ensures.bags in
    (settled_on (grid_state c.args.regions.now) ((grid_state c.args.regions.now).owner c.args.s) (changed_bags c.args.regions.now.last (bag_of c.args.store.now)) (bag_of c.change_bags.new.store) (bag_of c.gain_chunk.new.store)
    (λ u away. s.others u (inr away)) s.own c.gain_chunk.ensures.bags)
