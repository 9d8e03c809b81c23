use Rattle.fol_world.proofs.EndedRegion.{ends_region, may_release}
use Rattle.fol_world.proofs.ends.end_region.Goals as goal

pub release_region-requires : goal.release_region-requires
release_region-requires c = may_release c.args.tables.now c.bring_back.new.tables c.args.region c.args.chunks c.args.body c.requires c.bring_back.ensures

pub returns : goal.returns
returns c = ends_region c.args.tables.now c.bring_back.new.tables c.args.region c.args.chunks c.args.body c.requires c.bring_back.ensures c.release_region.new.tables c.release_region.ensures
