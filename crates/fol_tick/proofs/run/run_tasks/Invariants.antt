use Rattle.std.proofs.Common.{◌+◌, ◌-◌, ◌≤◌, List, drop, length, vec_len}
use Rattle.std.specs.List.{sum_by}
use Rattle.std.specs.Vec.{vec_capacity}
use Rattle.fol_tick.specs.Calls.{HostCall}
use Rattle.fol_tick.specs.MostAsked.{most_asked}
use Rattle.fol_tick.specs.Prepared.{IsStockOf}
use Rattle.fol_tick.specs.Runs.{Runs, MayRun}
use Rattle.fol_tick.specs.Logs.{with_log}
use Rattle.fol_tick.proofs.run.run_tasks.Given as goal

abbrev pub invariant-loop-tick : goal.invariant-loop-tick
invariant-loop-tick g l = record {
  runs : (calls : List HostCall) × g.H.Host.reaches l.initial.host calls l.host × Runs (with_log l.initial.tick l.initial.log) (with_log l.tick l.log) calls;
  may_run : MayRun l.tick;
  stock : IsStockOf (drop l.tick.next l.tick.due) l.stock;
  spare : length l.tick.due - l.tick.next ≤ l.tick.body.chunks.spare;
  room_for_ran : vec_len l.log.ran + (length l.tick.due - l.tick.next) ≤ vec_capacity l.log.ran;
  room_for_wishes : vec_len l.log.wishes + sum_by most_asked (drop l.tick.next l.tick.due) ≤ vec_capacity l.log.wishes;
}

abbrev pub decreases-loop-tick : goal.decreases-loop-tick
decreases-loop-tick g l = length l.tick.due - l.tick.next
