-- What the holds of a chunk count.
use Rattle.fol_laws.specs.HoldCounts.{HoldsAreCounted, EachTaskIsOwned}
use Rattle.fol_model.specs.Run.{world}
use Rattle.fol_laws.proofs.WholeRuns.{good_run, tasks_owned}

pub holds_are_counted : HoldsAreCounted
holds_are_counted o es rest ok run = (good_run o es rest ok run).sound.holds

pub each_task_is_owned : EachTaskIsOwned
each_task_is_owned o es rest ok run = tasks_owned (world o es) (good_run o es rest ok run).sound
