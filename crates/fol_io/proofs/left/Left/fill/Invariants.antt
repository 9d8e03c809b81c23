use Rattle.std.proofs.Common.{◌≡◌, ◌≤◌, ◌-◌, ◌++◌, take}
use Rattle.fol_io.specs.Left.{left_of}
use Rattle.fol_io.proofs.left.Left.fill.Given as goal

abbrev pub invariant-loop-len : goal.invariant-loop-len
invariant-loop-len l = record {
  within : l.len ≤ 4096;
  moved : take l.len l.carry ++ left_of l.self ≡ left_of l.initial.self;
}

abbrev pub decreases-loop-len : goal.decreases-loop-len
decreases-loop-len l = 4096 - l.len
