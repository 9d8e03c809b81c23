use Rattle.fol_server.specs.Crew.{IsSameReader}
use Rattle.fol_server.proofs.watcher.watch.Given as goal

abbrev pub invariant-loop : goal.invariant-loop
invariant-loop g l = IsSameReader l.fn.reader l.reader
