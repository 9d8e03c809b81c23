use Rattle.std.proofs.Common.{◌+◌}
use Rattle.fol_regions.specs.Released.{grid_of}
use Rattle.fol_regions.proofs.DeadKept.{bounds_none}
use Rattle.fol_regions.proofs.NearbySteps.{forgotten_stands}
use Rattle.fol_regions.proofs.TableSteps as steps
use Rattle.fol_regions.proofs.regions.Regions.of_parts.Goals as goal

pub invariant_of-result : goal.invariant_of-result
invariant_of-result c = (c.requires, bounds_none (grid_of c.args.sections c.args.tables) c.in_ok-near.dead c.requires.rules c.in_ok-near.ensures.dead, forgotten_stands c.in_ok-near.near c.args.tables (c.args.grid.create + c.args.grid.merge) c.in_ok-near.ensures.near)

pub returns-clause-state : goal.returns-clause-state
returns-clause-state c = steps.state_is _
