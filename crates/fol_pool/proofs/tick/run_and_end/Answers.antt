use Rattle.std.proofs.Common.{sym, ◌∙◌}
use Rattle.fol_pool.proofs.Going.{went_well}
use Rattle.fol_pool.proofs.TickSteps.{end_rests, release_fails}
use Rattle.fol_pool.proofs.tick.run_and_end.Goals as goal

pub give_up-requires-in-Err-clause-stuck : goal.give_up-requires-in-Err-clause-stuck
give_up-requires-in-Err-clause-stuck g c =
    let ran = went_well c.run-seat.result.1 (sym c.is_err.ensures.value ∙ c.if-is_err.false) c.run-seat.ensures.ran in
    release_fails _ _ _ _ _ ran c.in-Err.ensures

pub returns-in-Ok-clause-works : goal.returns-in-Ok-clause-works
returns-in-Ok-clause-works g c =
    let ran = went_well c.run-seat.result.1 (sym c.is_err.ensures.value ∙ c.if-is_err.false) c.run-seat.ensures.ran in
    (end_rests _ _ _ _ _ ran c.in-Ok.ensures).works

pub returns-in-Ok-clause-rests : goal.returns-in-Ok-clause-rests
returns-in-Ok-clause-rests g c =
    let ran = went_well c.run-seat.result.1 (sym c.is_err.ensures.value ∙ c.if-is_err.false) c.run-seat.ensures.ran in
    end_rests _ _ _ _ _ ran c.in-Ok.ensures
