use Rattle.std.proofs.Common.{◌≡◌, ℕ, ◌+◌, ◌<◌, get_or}
use Rattle.std.specs.Prelude.{IsTrue}
use Rattle.std.specs.declared.cmp.Ordering.TheVariants.{Less}
use Rattle.fol_model.specs.declared.places.SectionPos.{SectionPos}
use Rattle.fol_model.specs.Geometry.{is_section}
use Rattle.fol_model.specs.Universe.{section_cmp}
use Rattle.fol_region_tests.proofs.splits.is_rising.Given as goal

abbrev pub invariant-loop-i : goal.invariant-loop-i
invariant-loop-i l = record {
  in_range : (k : ℕ) (d : SectionPos) → k < l.i → IsTrue (is_section (get_or l.sections k d));
  rising : (k : ℕ) (d : SectionPos) → k + 1 < l.i → section_cmp (get_or l.sections k d) (get_or l.sections (k + 1) d) ≡ Less;
}
