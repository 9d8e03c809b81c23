use Rattle.std.proofs.Common.{◌<◌, sym, ◌∙◌, arith, length}
use Rattle.std.specs.Prelude.{pos}
use Rattle.fol_model.specs.declared.places.SectionPos.{SectionPos}
use Rattle.fol_region_tables.proofs.MergeSteps.{before_more, behind_more}
use Rattle.fol_region_tables.proofs.rows.count_before.Goals as goal
use Rattle.fol_region_tables.proofs.rows.count_before.Goals.{in-Less, in_default}

abbrev place : SectionPos
place = record { x = pos 0; z = pos 0 }

pub loop-low-preserved : goal.loop-low-preserved
loop-low-preserved c =
    let m = c.loop-low.probe in
    let is = c.loop-low.invariant in
    let low = is.low_probe c.loop-low-test.true in
    let high = is.high_probe c.loop-low-test.true in
    let l : m < length c.args.xs.now = omega (arith, high, is.few) in
    elim c.match-compare.branch [
      | in-Less w ↦ rw (w.low-is, w.high-is) (record {
        inside = omega (arith, high);
        few = is.few;
        low_probe = λ h. omega (arith, h);
        high_probe = λ h. omega (arith, h);
        before = λ k d u. before_more c.args.xs.now c.args.s m k place d c.requires l (sym c.compare.ensures ∙ w.in-Less.is) u;
        behind = is.behind;
      })
      | in_default w ↦ rw (w.low-is, w.high-is) (record {
        inside = low;
        few = omega (arith, l);
        low_probe = λ h. omega (arith, h);
        high_probe = λ h. omega (arith, h);
        before = is.before;
        behind = λ k d u v. behind_more c.args.xs.now c.args.s m k place d c.requires l v (λ e. w.in_default.not-Less (c.compare.ensures ∙ e)) u;
      })
    ]
