use Rattle.std.proofs.Common.{◌≡◌, ℕ, None, get_or, vec_len}
use Rattle.fol_check.proofs.replay.idle_workers.Given as goal

abbrev pub invariant-workers : goal.invariant-workers
invariant-workers l = record { count : vec_len l.workers ≡ l._worker; none : (k : ℕ) → get_or l.workers.items k None ≡ None }
