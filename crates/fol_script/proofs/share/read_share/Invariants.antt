use Rattle.std.proofs.Common.{length, map}
use Rattle.fol_model.specs.Texts.{command_row}
use Rattle.fol_script.specs.Shares.{ReadsOn}
use Rattle.fol_script.proofs.share.read_share.Given as goal

abbrev pub invariant-loop-rest : goal.invariant-loop-rest
invariant-loop-rest l = ReadsOn l.kind l.share l.rest (map command_row l.commands.items)

abbrev pub decreases-loop-rest : goal.decreases-loop-rest
decreases-loop-rest l = length l.rest
