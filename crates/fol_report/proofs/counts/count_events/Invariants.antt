use Rattle.std.proofs.Common.{◌*◌, ◌≤◌, take}
use Rattle.fol_report.specs.Tallies.{CountsEvents}
use Rattle.fol_report.proofs.counts.count_events.Given as goal

abbrev pub invariant-loop-entry : goal.invariant-loop-entry
invariant-loop-entry l = CountsEvents (take l.entry-index l.history) l.tally × (l.tally.ran ≤ l.entry-index * 18446744073709551615)
