use Rattle.std.proofs.Common.{◌≡◌, ℕ, take, Some, None}
use Rattle.std.specs.Prelude.{if◌then◌else◌}
use Rattle.std.specs.List.{list_any}
use Rattle.std.specs.Ordering.{nat_cmp}
use Rattle.std.specs.BTreeMap.{get}
use Rattle.fol_follow.proofs.Counting.{has_id}
use Rattle.fol_follow.proofs.asks.Asks.new.Given as goal

abbrev pub invariant-loop-e : goal.invariant-loop-e
invariant-loop-e l = (id : ℕ) → get nat_cmp l.counts id ≡ (if list_any (has_id id) (take l.e-index l.entities) then Some 0 else None)
