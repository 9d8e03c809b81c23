use Rattle.std.proofs.Common.{◌≡◌, ◌+◌, sym, ◌∙◌, ap, arith, true, false, not, cond, ℕ}
use Rattle.std.specs.Prelude.{None, is_some, pos, slice_index_or, ◌+ℤ◌}
use Rattle.std.specs.List.{count_by}
use Rattle.fol_model.specs.declared.places.SectionPos.{SectionPos}
use Rattle.fol_pages.proofs.PageRuns.{run_place}
use Rattle.fol_sections.specs.Pages.{counts_on}
use Rattle.fol_sections.specs.Rows.{section_at}
use Rattle.fol_sections.proofs.PageRuns.{run_few}
use Rattle.fol_sections.proofs.Rows.{count_more, row-none}
use Rattle.fol_sections.proofs.missing.count_on.Goals as goal
use Rattle.fol_sections.proofs.missing.count_on.Goals.{then-is_absent, else-is_absent}

pub loop-i-init : goal.loop-i-init
loop-i-init c = record {
  count = sym (ap (count_by (λ q. not (is_some (counts_on c.args.page.now q)))) (row-none section_at c.args.s.x c.args.s.z));
  few = omega arith;
}

pub is_absent-requires : goal.is_absent-requires
is_absent-requires c = let f = run_few c.args.s c.args.len c.requires c.loop-i.i c.loop-i-test.true in omega (arith, f, c.place_of-place.ensures.value)

pub loop-i-preserved : goal.loop-i-preserved
loop-i-preserved c =
    let place : SectionPos = section_at (c.args.s.x +ℤ pos c.loop-i.i) c.args.s.z in
    let test = λ (q : SectionPos). not (is_some (counts_on c.args.page.now q)) in
    let at = run_place c.args.s c.args.len c.requires c.loop-i.i c.loop-i-test.true in
    let here : counts_on c.args.page.now place ≡ slice_index_or c.args.page.now.sections (c.place_of-place.result + c.loop-i.i) None
    = ap (λ n. slice_index_or c.args.page.now.sections n None) (at ∙ ap (λ n. n + c.loop-i.i) (sym c.place_of-place.ensures.value)) in
    let more = count_more section_at test c.args.s.x c.args.s.z c.loop-i.i in
    elim c.if-is_absent.branch [
      | then-is_absent w ↦
          let yes : test place ≡ true = ap (λ o. not (is_some o)) here ∙ sym w.if-is_absent.ensures in
          rw w.count-is (record {
            count = omega (arith, c.loop-i.invariant.count, more, ap (λ b. cond {A = ℕ} b 1 0) yes);
            few = omega (arith, c.loop-i.invariant.few);
          })
      | else-is_absent w ↦
          let no : test place ≡ false = ap (λ o. not (is_some o)) here ∙ sym w.if-is_absent.ensures in
          rw w.count-is (record {
            count = omega (arith, c.loop-i.invariant.count, more, ap (λ b. cond {A = ℕ} b 1 0) no);
            few = omega (arith, c.loop-i.invariant.few);
          })
    ]
