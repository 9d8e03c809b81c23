use Rattle.std.proofs.Common.{◌≡◌, ◌*◌, ◌≤◌, take}
use Rattle.std.specs.Prelude.{sum_by}
use Rattle.fol_report.proofs.counts.block_sum.Given as goal

abbrev pub invariant-loop-block : goal.invariant-loop-block
invariant-loop-block l = (l.sum ≡ sum_by (λ b. b.id) (take l.block-index l.blocks)) × (l.sum ≤ l.block-index * 65535)
