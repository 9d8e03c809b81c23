use Rattle.std.proofs.Common.{◌≡◌}
use Rattle.fol_lock.proofs.lock.Lock.wait.Given as goal

abbrev pub invariant-loop : goal.invariant-loop
invariant-loop g l = (l.pass.table_id ≡ l.initial.pass.table_id) × (l.pass.me ≡ l.initial.pass.me)

abbrev pub invariant-loop-2 : goal.invariant-loop-2
invariant-loop-2 g l = (l.pass.table_id ≡ l.initial.pass.table_id) × (l.pass.me ≡ l.initial.pass.me)
