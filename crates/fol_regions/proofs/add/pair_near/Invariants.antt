use Rattle.std.proofs.Common.{take}
use Rattle.fol_regions.specs.Added.{Waits}
use Rattle.fol_regions.proofs.add.pair_near.Given as goal

abbrev pub invariant-loop-id : goal.invariant-loop-id
invariant-loop-id l = Waits l.initial.tables l.tables l.target (take l.id-index l.near)
