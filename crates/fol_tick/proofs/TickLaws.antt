-- What any list of calls on one tick comes to.
use Rattle.fol_tick.specs.Laws.{NothingRuns, RunsFollow, EndFollows, EndIsFlatTick}
use Rattle.fol_tick.proofs.Stages.{runs_none, runs_both, finishes_both, whole_tick}

pub nothing_runs : NothingRuns
nothing_runs = runs_none

pub runs_follow : RunsFollow
runs_follow = runs_both

pub end_follows : EndFollows
end_follows = finishes_both

pub end_is_flat_tick : EndIsFlatTick
end_is_flat_tick = whole_tick
