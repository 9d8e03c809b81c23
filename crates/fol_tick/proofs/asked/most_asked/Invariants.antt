use Rattle.std.proofs.Common.{◌≡◌, ◌*◌, ◌≤◌, take}
use Rattle.std.specs.List.{sum_by}
use Rattle.fol_tick.specs.MostAsked.{most_asked}
use Rattle.fol_tick.proofs.asked.most_asked.Given as goal

abbrev pub invariant-loop-task : goal.invariant-loop-task
invariant-loop-task l = record {
  sum : l.most ≡ sum_by most_asked (take l.task-index l.tasks);
  few : l.most ≤ 2 * l.task-index;
}
