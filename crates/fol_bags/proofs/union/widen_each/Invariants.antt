use Rattle.std.proofs.Common.{take}
use Rattle.fol_bags.specs.Unions.{IsUnion}
use Rattle.fol_bags.proofs.union.widen_each.Given as goal

abbrev pub invariant-loop-c : goal.invariant-loop-c
invariant-loop-c l = IsUnion l.fn.set (take l.c-index l.others) l.set
