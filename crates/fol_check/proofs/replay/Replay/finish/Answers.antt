use Rattle.std.proofs.Common.{refl, arith}
use Rattle.fol_check.proofs.Carried.{finished, too_early}
use Rattle.fol_check.proofs.replay.Replay.finish.Goals as goal

pub returns-then-self-commands : goal.returns-then-self-commands
returns-then-self-commands c = let same = c.commands.ensures in too_early c.args.self.now (rw same at c.if-self-commands.true)

pub returns-in-Finished : goal.returns-in-Finished
returns-in-Finished c =
    let recorded = rw c.in-Finished.is at c.in_ok-finish.ensures.recorded in
    let same = c.commands.ensures in
    let last = rw same at c.if-self-commands.false in
    let most = c.requires.stands.next in
    finished c.args.self.now _ c.requires.stands (record { opening = recorded.opening; history = recorded.history; prepared = recorded.prepared; run = c.history-entries.ensures.run; script = refl }) (omega arith) refl refl
