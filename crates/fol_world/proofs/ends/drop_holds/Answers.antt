use Rattle.std.proofs.Common.{refl, arith}
use Rattle.fol_regions.specs.Table.{grid_state}
use Rattle.fol_store.specs.Stock.{bag_of}
use Rattle.fol_world.proofs.Loosened.{loosens_self}
use Rattle.fol_world.proofs.ends.drop_holds.Goals as goal

pub loop-task-init : goal.loop-task-init
loop-task-init c = (refl, loosens_self (grid_state c.args.regions.now) c.args.region (bag_of c.args.store.now), record { flat = refl; jobs = refl }, refl, refl, omega arith, omega arith, c.requires.out, c.requires.order)
