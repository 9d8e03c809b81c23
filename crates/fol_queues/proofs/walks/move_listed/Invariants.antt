use Rattle.std.proofs.Common.{◌≡◌, ◌<◌, ◌≤◌, ◌-◌, ℕ, get_or, length, vec_len}
use Rattle.std.specs.Vec.{vec_capacity}
use Rattle.fol_queues.specs.declared.dated.Dated.{Dated}
use Rattle.fol_queues.specs.Waiting.{lies_listed, raised}
use Rattle.fol_queues.proofs.Parting.{IsMovingInto}
use Rattle.fol_queues.proofs.walks.move_listed.Given as goal

abbrev pub invariant-loop-i : goal.invariant-loop-i
invariant-loop-i l = record {
  moving : IsMovingInto (lies_listed l.list.chunks.now) (raised l.offset) l.fn.tasks.items l.tasks.items l.fn.into.items l.into.items l.i;
  first : (k : ℕ) (d : Dated) → k < length l.fn.into.items → get_or l.into.items k d ≡ get_or l.fn.into.items k d;
  longer : length l.fn.into.items ≤ length l.into.items;
  bound : l.i ≤ vec_len l.tasks;
  capacity : vec_capacity l.tasks ≡ vec_capacity l.fn.tasks;
  into_capacity : vec_capacity l.into ≡ vec_capacity l.fn.into;
}

abbrev pub decreases-loop-i : goal.decreases-loop-i
decreases-loop-i l = vec_len l.tasks - l.i
