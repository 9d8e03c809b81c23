use Rattle.std.proofs.Common.{◌≡◌, ℕ, vec_len}
use Rattle.fol_bags.specs.Labels.{numbered}
use Rattle.fol_bags.proofs.labels.extend.Given as goal

abbrev pub invariant-loop-n : goal.invariant-loop-n
invariant-loop-n l = record { len : vec_len l.numbers ≡ l.n; same : (m : ℕ) → numbered l.numbers.items m ≡ numbered l.fn.numbers.items m }
