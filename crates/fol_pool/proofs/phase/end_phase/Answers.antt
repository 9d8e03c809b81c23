use Rattle.std.proofs.Common.{[]}
use Rattle.fol_live.specs.Goes.{does_both}
use Rattle.fol_pool.proofs.Going.{back_then}
use Rattle.fol_pool.proofs.Issuing.{issued_end, still_closing}
use Rattle.fol_pool.proofs.phase.end_phase.Goals as goal

pub returns-in-Ok-Closed-clause-issued : goal.returns-in-Ok-Closed-clause-issued
returns-in-Ok-Closed-clause-issued g c =
    issued_end c.args.caller.now c.loop-turn.caller c.close_phase.new.seat c.loop-turn.invariant.caller (rw c.in-Ok-Closed.field-0-is at c.in-Ok-Closed.ensures)

pub loop-turn-preserved : goal.loop-turn-preserved
loop-turn-preserved g c =
    let still = still_closing c.loop-turn.caller c.close_phase.new.seat c.in-Ok-NotYet.field-0-0 (rw c.in-Ok-NotYet.field-0-is at c.in-Ok-NotYet.ensures) in
    record {
      caller = does_both c.args.caller.now c.loop-turn.caller c.close_phase.new.seat [] [] c.loop-turn.invariant.caller still;
      worker = back_then c.args.worker c.loop-turn.worker c.ticks-back.result.0 c.loop-turn.invariant.worker c.ticks-back.ensures.same c.ticks-back.ensures.works;
      rests = rw c.in-Ok.is at c.ticks-back.ensures.rests;
    }
