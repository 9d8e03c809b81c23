use Rattle.std.proofs.Common.{◌≡◌, sym, ◌∙◌, ap, arith, subst, cond, get_or, true, false, inl, inr}
use Rattle.std.specs.Prelude.{nat_eq}
use Rattle.std.proofs.lemmas.Bool.{cases_eq, eq-eqb, ne_eqb}
use Rattle.std.proofs.lemmas.List.{take_all}
use Rattle.fol_regions.specs.Added.{IsChoice, calm_size}
use Rattle.fol_regions.proofs.AddSteps.{choice_none, choice_taken, choice_left, better_than, id_at}
use Rattle.fol_regions.proofs.add.choose.Goals as goal
use Rattle.fol_regions.proofs.add.choose.Goals.{then-is_better, else-is_better}

pub loop-id-init : goal.loop-id-init
loop-id-init c = choice_none (calm_size c.args.tables.now)

pub loop-id-preserved : goal.loop-id-preserved
loop-id-preserved c =
    let ids = c.args.near.now in
    let i = c.loop-id.id-index in
    let size = calm_size c.args.tables.now in
    let pos = c.requires (get_or ids i 0) (id_at ids i 0 c.loop-id-test.true) in
    let better = c.is_better.ensures ∙ ap (better_than c.loop-id.best c.loop-id.most (get_or ids i 0)) c.calm_size-size.ensures in
    elim c.if-is_better.branch [
      | then-is_better w ↦ rw (w.best-is, w.most-is, c.calm_size-size.ensures) (choice_taken size ids i 0 c.loop-id.best c.loop-id.most c.loop-id-test.true c.loop-id.invariant pos (sym better ∙ w.if-is_better.true))
      | else-is_better w ↦ rw (w.best-is, w.most-is) (choice_left size ids i 0 c.loop-id.best c.loop-id.most c.loop-id-test.true c.loop-id.invariant pos (sym better ∙ w.if-is_better.false))
    ]

pub returns : goal.returns
returns c =
    let size = calm_size c.args.tables.now in
    let e = take_all c.loop-id.id-index c.args.near.now c.loop-id-test.false in
    let all = rw e at c.loop-id.invariant in
    let most : c.loop-id.most ≡ cond (nat_eq c.loop-id.best 0) 0 (size c.loop-id.best) = elim (cases_eq c.loop-id.best 0) [
      | inl z ↦ let t : nat_eq c.loop-id.best 0 ≡ true = eq-eqb c.loop-id.best 0 z in rw t (all.zero z)
      | inr n ↦ let t : nat_eq c.loop-id.best 0 ≡ false = ne_eqb c.loop-id.best 0 n in rw t (all.here (omega arith)).1.0
    ] in
    subst (IsChoice size c.args.near.now c.loop-id.best) most all
