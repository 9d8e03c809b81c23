use Rattle.std.proofs.Common.{◌≡◌, ℕ, ◌-◌, ◌<◌, ◌≤◌, length, get_or}
use Rattle.std.specs.Prelude.{◌≢◌}
use Rattle.std.specs.declared.cmp.Ordering.TheVariants.{Less}
use Rattle.fol_model.specs.declared.places.SectionPos.{SectionPos}
use Rattle.fol_model.specs.Universe.{section_cmp}
use Rattle.fol_region_tables.proofs.rows.count_before.Given as goal

abbrev pub invariant-loop-low : goal.invariant-loop-low
invariant-loop-low l = record {
  inside : l.low ≤ l.high;
  few : l.high ≤ length l.xs;
  low_probe : l.low < l.high → l.low ≤ l.probe;
  high_probe : l.low < l.high → l.probe < l.high;
  before : (k : ℕ) (d : SectionPos) → k < l.low → section_cmp (get_or l.xs k d) l.s ≡ Less;
  behind : (k : ℕ) (d : SectionPos) → l.high ≤ k → k < length l.xs → section_cmp (get_or l.xs k d) l.s ≢ Less;
}

abbrev pub decreases-loop-low : goal.decreases-loop-low
decreases-loop-low l = l.high - l.low
