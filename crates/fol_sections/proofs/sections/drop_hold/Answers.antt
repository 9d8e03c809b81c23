use Rattle.std.proofs.Common.{◌≡◌, ◌-◌, ◌∙◌, ap, rules, arith, inl, inr}
use Rattle.std.proofs.lemmas.Bool.{cases_lt}
use Rattle.std.proofs.lemmas.Int.{to_z-of_z}
use mir.Val.{SFits}
use mir.Syntax.{w32}
use Rattle.fol_model.specs.GridState.{at_chunk}
use Rattle.fol_sections.specs.Places.{count_at}
use Rattle.fol_sections.proofs.NumberSteps.{count-put, count-out, count-stays}
use Rattle.fol_sections.proofs.sections.drop_hold.Goals as goal

pub returns-then-count-eq1-clause-before : goal.returns-then-count-eq1-clause-before
unfolding count_at
returns-then-count-eq1-clause-before c =
    let fx : SFits w32 c.args.c.x = search rules in
    let fz : SFits w32 c.args.c.z = search rules in
    simp to_z-of_z at c.lower-count.ensures.before

pub returns-then-count-eq1-clause-counts : goal.returns-then-count-eq1-clause-counts
returns-then-count-eq1-clause-counts c = λ q.
    let fx : SFits w32 c.args.c.x = search rules in
    let fz : SFits w32 c.args.c.z = search rules in
    let before : c.lower-count.result ≡ count_at c.args.holds.now.entries c.args.c = returns-then-count-eq1-clause-before c in
    let none : 0 ≡ count_at c.args.holds.now.entries c.args.c - 1 = omega (arith, before, c.if-count-eq1.true) in
    let same = c.lower-count.ensures.stays (omega (arith, c.if-count-eq1.true)) in
    let out = rw same at (simp to_z-of_z at c.take_out.ensures.out) in
    count-out _ _ c.args.c out q ∙ ap (λ n. at_chunk (count_at c.args.holds.now.entries) c.args.c n q) none

pub returns-else-count-eq1-clause-before : goal.returns-else-count-eq1-clause-before
unfolding count_at
returns-else-count-eq1-clause-before c =
    let fx : SFits w32 c.args.c.x = search rules in
    let fz : SFits w32 c.args.c.z = search rules in
    simp to_z-of_z at c.lower-count.ensures.before

pub returns-else-count-eq1-clause-counts : goal.returns-else-count-eq1-clause-counts
returns-else-count-eq1-clause-counts c = λ q.
    let fx : SFits w32 c.args.c.x = search rules in
    let fz : SFits w32 c.args.c.z = search rules in
    let before : c.lower-count.result ≡ count_at c.args.holds.now.entries c.args.c = returns-else-count-eq1-clause-before c in
    elim (cases_lt 1 c.lower-count.result) [
      | inl more ↦
          count-put _ _ c.args.c _ (simp to_z-of_z at (c.lower-count.ensures.less more)) q ∙ ap (λ n. at_chunk (count_at c.args.holds.now.entries) c.args.c (n - 1) q) before
      | inr few ↦
          let none : count_at c.args.holds.now.entries c.args.c ≡ 0 = omega (arith, before, few, c.if-count-eq1.false) in
          rw (c.lower-count.ensures.stays (omega (arith, few))) (count-stays c.args.holds.now.entries c.args.c none q)
    ]
