use Rattle.std.proofs.Common.{take}
use Rattle.fol_regions.specs.Added.{IsChoice, calm_size}
use Rattle.fol_regions.proofs.add.choose.Given as goal

abbrev pub invariant-loop-id : goal.invariant-loop-id
invariant-loop-id l = IsChoice (calm_size l.tables) (take l.id-index l.near) l.best l.most
