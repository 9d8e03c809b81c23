use Rattle.std.proofs.Common.{◌≡◌, ◌≤◌, ◌-◌, length, take}
use Rattle.std.specs.Prelude.{IsTrue}
use Rattle.std.specs.List.{All}
use Rattle.std.specs.List.Sorted.{IsStrictlySortedBy}
use Rattle.fol_model.specs.Universe.{section_cmp}
use Rattle.fol_split.specs.Runs.{all_of}
use Rattle.fol_split.proofs.runs.Runs.load.Given as goal

abbrev pub invariant-loop-done : goal.invariant-loop-done
invariant-loop-done l = record {
  within : l.done ≤ length l.order;
  all : all_of l.self.runs ≡ take l.done l.order;
  in_order : IsStrictlySortedBy section_cmp (take l.done l.order);
  left : All IsTrue l.self.left;
  flags : length l.self.left ≡ length l.self.runs;
}

abbrev pub decreases-loop-done : goal.decreases-loop-done
decreases-loop-done l = length l.order - l.done
