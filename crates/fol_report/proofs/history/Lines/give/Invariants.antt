use Rattle.std.proofs.Common.{◌≡◌, ◌≤◌, ◌-◌, ◌++◌, length, take}
use Rattle.fol_report.specs.Histories.{lines_left}
use Rattle.fol_report.proofs.history.Lines.give.Given as goal

abbrev pub invariant-loop-len : goal.invariant-loop-len
invariant-loop-len l = record {
  within : l.len ≤ length l.initial.bytes;
  moved : take l.len l.bytes ++ lines_left l.self ≡ lines_left l.initial.self;
}

abbrev pub decreases-loop-len : goal.decreases-loop-len
decreases-loop-len l = length l.initial.bytes - l.len
