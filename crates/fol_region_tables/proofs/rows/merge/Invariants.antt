use Rattle.std.proofs.Common.{◌≡◌, ◌+◌, ◌≤◌, drop, length, take}
use Rattle.fol_lists.specs.Numbered.{list_at, with_list}
use Rattle.fol_region_tables.proofs.MergeSteps.{Merging}
use Rattle.fol_region_tables.proofs.rows.merge.Given as goal

abbrev pub invariant-loop-left : goal.invariant-loop-left
invariant-loop-left l = record {
  lists : l.lists ≡ with_list l.initial.lists l.n (list_at l.lists l.n);
  long : length (list_at l.lists l.n) ≡ l.len + length l.sections;
  few : l.end ≤ l.len;
  few_left : l.left ≤ length l.sections;
  merging : Merging (take l.len (list_at l.initial.lists l.n)) l.sections (take l.end (list_at l.lists l.n)) (drop (l.end + l.left) (list_at l.lists l.n)) l.left;
}

abbrev pub decreases-loop-left : goal.decreases-loop-left
decreases-loop-left l = l.left
