use Rattle.std.proofs.Common.{◌≡◌, ◌≤◌, sym, ◌∙◌, arith, Bool, true, false, get_or, length, rules}
use Rattle.std.specs.Prelude.{nat_eq, pos}
use Rattle.std.proofs.lemmas.Bool.{eq-eqb, ne_eqb}
use Rattle.std.proofs.lemmas.List.Sums.{count_by_more_no, count_by_more_yes}
use Rattle.fol_model.specs.declared.places.SectionPos.{SectionPos}
use Rattle.fol_sections.specs.Pages.{near_on}
use Rattle.fol_sections.proofs.DropSteps.{near_cleared, out_leaves, out_stays}
use Rattle.fol_sections.proofs.drops.clear_on.Goals as goal
use Rattle.fol_sections.proofs.drops.clear_on.Goals.{then-near_in-eq0, else-near_in-eq0}

pub loop-s-preserved : goal.loop-s-preserved
loop-s-preserved c =
    let origin : SectionPos = record { x = pos 0; z = pos 0 } in
    let first = c.args.page.now in
    let now = c.loop-s.page in
    let part = c.args.part.now in
    let i = c.loop-s.s-index in
    let l = c.loop-s-test.true in
    let inv = c.loop-s.invariant in
    let s : SectionPos = get_or part i origin in
    let is_dead : SectionPos → Bool = λ q. nat_eq (near_on first q) 0 in
    elim c.if-near_in-eq0.branch [
      | then-near_in-eq0 w ↦
          let whole : 32 ≤ length now.sections = search rules in
          let none : near_on now s ≡ 0 = sym c.near_in.ensures ∙ w.if-near_in-eq0.true in
          let dead : is_dead s ≡ true = eq-eqb _ _ (sym (inv.near s) ∙ none) in
          rw (w.page-is, w.dead-is, w.absent.ensures) (record {
            dead = omega (arith, inv.dead, count_by_more_yes is_dead part i origin l dead);
            near = near_cleared first now part i origin l inv.near inv.out whole w.place_of.result w.place_of.ensures.value none;
            out = out_leaves first now part i origin l inv.near inv.out whole w.place_of.result w.place_of.ensures.value none;
          })
      | else-near_in-eq0 w ↦
          let some : is_dead s ≡ false = ne_eqb _ _ (λ e. w.if-near_in-eq0.false (c.near_in.ensures ∙ inv.near s ∙ e)) in
          rw (w.page-is, w.dead-is) (record {
            dead = omega (arith, inv.dead, count_by_more_no is_dead part i origin l some);
            near = inv.near;
            out = out_stays first now part i origin l inv.near inv.out some;
          })
    ]
