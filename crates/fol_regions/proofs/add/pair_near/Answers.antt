use Rattle.std.proofs.Common.{◌≡◌, ◌+◌, sym, ◌∙◌, ap, arith, subst, get_or, take, length, ℕ}
use Rattle.std.proofs.lemmas.List.{take_all, length-take-le}
use Rattle.fol_model.specs.declared.regions.State.{State}
use Rattle.fol_model.specs.GridState.{is_ticking}
use Rattle.fol_regions.specs.Added.{Waits}
use Rattle.fol_regions.proofs.AddSteps.{waits_left, waits_taken, id_more}
use Rattle.fol_regions.proofs.add.pair_near.Goals as goal
use Rattle.fol_regions.proofs.add.pair_near.Goals.{then-is_ticking, else-is_ticking}

pub loop-id-preserved : goal.loop-id-preserved
loop-id-preserved c =
    let ids = c.args.near.now in
    let i = c.loop-id.id-index in
    let l = c.loop-id-test.true in
    let longer : length (take (i + 1) ids) ≡ length (take i ids) + 1 = omega (arith, length-take-le (i + 1) ids (omega arith), length-take-le i ids (omega arith)) in
    let ticks = c.is_ticking.ensures ∙ ap (λ (f : ℕ → State). is_ticking (f (get_or ids i 0))) c.loop-id.invariant.state in
    elim c.if-is_ticking.branch [
      | then-is_ticking w ↦ rw w.tables-is (waits_taken c.args.tables.now c.loop-id.tables c.args.target (take i ids) (take (i + 1) ids) (get_or ids i 0) c.loop-id.invariant (λ q. id_more ids i 0 q l) longer
          (sym ticks ∙ w.if-is_ticking.true) w.pair.new.self w.pair.ensures.pair w.pair.ensures.free w.pair.ensures.ahead w.pair.ensures.behind)
      | else-is_ticking w ↦ rw w.tables-is (waits_left c.args.tables.now c.loop-id.tables c.args.target (take i ids) (take (i + 1) ids) (get_or ids i 0) c.loop-id.invariant (λ q. id_more ids i 0 q l) longer
          (sym ticks ∙ w.if-is_ticking.false))
    ]

pub returns : goal.returns
returns c = let e = take_all c.loop-id.id-index c.args.near.now c.loop-id-test.false in subst (Waits c.args.tables.now c.loop-id.tables c.args.target) e c.loop-id.invariant
