use Rattle.std.proofs.Common.{◌≡◌, ℕ, ◌<◌, ◌≤◌, ◌-◌, eqb, false, get_or, length}
use Rattle.fol_script.proofs.lines.word_len.Given as goal

abbrev pub decreases-loop-n : goal.decreases-loop-n
decreases-loop-n l = length l.initial.text - l.n

abbrev pub invariant-loop-n : goal.invariant-loop-n
invariant-loop-n l = record { below : (k : ℕ) → k < l.n → eqb (get_or l.text k 0) 32 ≡ false; within : l.n ≤ length l.text }
