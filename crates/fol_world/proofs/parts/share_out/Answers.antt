use Rattle.fol_regions.specs.Table.{grid_state}
use Rattle.fol_store.specs.Stock.{bag_of}
use Rattle.fol_world.proofs.PartedBags.{fresh_among, fresh_apart, shared_out}
use Rattle.fol_world.proofs.parts.share_out.Goals as goal

pub succeed-requires-clause-differ : goal.succeed-requires-clause-differ
succeed-requires-clause-differ c = fresh_apart c.args.region (bag_of c.args.store.now) c.in-Some.heir (fresh_among c.args.region c.args.parts.now (bag_of c.args.store.now) c.requires.fresh c.in-Some.heir c.in-Some.ensures.among)

pub returns-in-Some-clause-bags : goal.returns-in-Some-clause-bags
returns-in-Some-clause-bags c =
    let f = bag_of c.args.store.now in
    let first = c.requires.fresh.first in
    let p = fresh_among c.args.region c.args.parts.now f c.requires.fresh c.in-Some.heir c.in-Some.ensures.among in
    shared_out (grid_state c.args.regions.now) c.args.region c.in-Some.heir c.args.parts.now f (bag_of c.share_but.new.store) (bag_of c.succeed.new.self) first c.requires.fresh.follow p c.requires.chunks c.requires.fresh.here
    (c.share_but.ensures.shares first c.requires.fresh.follow c.requires.fresh.below) c.succeed.ensures.gone c.succeed.ensures.own c.succeed.ensures.others
