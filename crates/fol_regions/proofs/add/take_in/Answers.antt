use Rattle.std.proofs.Common.{[], ◌∷◌, ◌++◌, ◌≡◌, ◌+◌, refl, sym, ◌∙◌, ap, arith, subst, get_or, take, length, ℕ, List, length-append}
use Rattle.std.specs.Prelude.{filter}
use Rattle.std.proofs.lemmas.List.{take_all, length-take-le, length-map}
use Rattle.std.proofs.lemmas.List.Folds.{list_any_more}
use Rattle.fol_regions.specs.Added.{Gathers, gathered, is_drawn}
use Rattle.fol_regions.specs.declared.change.MergePair.{MergePair}
use Rattle.fol_regions.specs.Changes.{Changes, into}
use Rattle.fol_regions.proofs.AddSteps as steps
use Rattle.fol_region_tables.proofs.LinkSteps.{filter_le, filter_yes, filter_no}
use Rattle.fol_regions.proofs.add.take_in.Goals as goal
use Rattle.fol_regions.proofs.add.take_in.Goals.{then-is_drawn, else-is_drawn}

pub merge-requires-clause-region : goal.merge-requires-clause-region
merge-requires-clause-region c =
    let ids = c.args.near.now in
    let i = c.loop-id.id-index in
    steps.live_mid c.args.tables.now c.args.target c.requires.awaited c.requires.calm c.loop-id.tables (take i ids) (take (i + 1) ids) (get_or ids i 0) c.loop-id.invariant.gathers (λ p. list_any_more p ids i 0 c.loop-id-test.true) (steps.fresh_id ids c.requires.rising i 0 c.loop-id-test.true)
    ∙ c.requires.live (get_or ids i 0) (steps.id_at ids i 0 c.loop-id-test.true)

pub merge-requires-clause-into : goal.merge-requires-clause-into
merge-requires-clause-into c =
    let ids = c.args.near.now in
    let i = c.loop-id.id-index in
    steps.live_target c.args.tables.now c.args.target c.requires.awaited c.requires.calm c.loop-id.tables (take i ids) (take (i + 1) ids) (get_or ids i 0) c.loop-id.invariant.gathers (λ p. list_any_more p ids i 0 c.loop-id-test.true) (steps.fresh_id ids c.requires.rising i 0 c.loop-id-test.true)
    ∙ c.requires.target

pub merge-requires-clause-last : goal.merge-requires-clause-last
merge-requires-clause-last c =
    let ids = c.args.near.now in
    let i = c.loop-id.id-index in
    let l = c.loop-id-test.true in
    let goes = sym (steps.same_drawn c.args.tables.now c.args.target c.requires.awaited c.requires.calm c.loop-id.tables (take i ids) (take (i + 1) ids) (get_or ids i 0) c.loop-id.invariant.gathers (λ p. list_any_more p ids i 0 l) (steps.fresh_id ids c.requires.rising i 0 l)) ∙ sym c.is_drawn.ensures ∙ c.if-is_drawn.true in
    steps.last_mid c.args.tables.now c.args.target c.requires.awaited c.requires.calm c.loop-id.tables (take i ids) (take (i + 1) ids) (get_or ids i 0) c.loop-id.invariant.gathers (λ p. list_any_more p ids i 0 l) (steps.fresh_id ids c.requires.rising i 0 l) goes

pub merge-requires-clause-apart : goal.merge-requires-clause-apart
merge-requires-clause-apart c =
    let ids = c.args.near.now in
    let i = c.loop-id.id-index in
    let l = c.loop-id-test.true in
    let goes = sym (steps.same_drawn c.args.tables.now c.args.target c.requires.awaited c.requires.calm c.loop-id.tables (take i ids) (take (i + 1) ids) (get_or ids i 0) c.loop-id.invariant.gathers (λ p. list_any_more p ids i 0 l) (steps.fresh_id ids c.requires.rising i 0 l)) ∙ sym c.is_drawn.ensures ∙ c.if-is_drawn.true in
    steps.apart c.args.tables.now c.args.target c.requires.awaited c.requires.calm c.loop-id.tables (take i ids) (take (i + 1) ids) (get_or ids i 0) c.loop-id.invariant.gathers (λ p. list_any_more p ids i 0 l) (steps.fresh_id ids c.requires.rising i 0 l) goes

pub merge-requires-clause-awake : goal.merge-requires-clause-awake
merge-requires-clause-awake c =
    let ids = c.args.near.now in
    let i = c.loop-id.id-index in
    let l = c.loop-id-test.true in
    steps.awake_mid c.args.tables.now c.args.target c.requires.awaited c.requires.calm c.loop-id.tables (take i ids) (take (i + 1) ids) (get_or ids i 0) c.loop-id.invariant.gathers (λ p. list_any_more p ids i 0 l) (steps.fresh_id ids c.requires.rising i 0 l)

pub merge-requires-then-is_drawn-clause-dead : goal.merge-requires-then-is_drawn-clause-dead
merge-requires-then-is_drawn-clause-dead c =
    let ids = c.args.near.now in
    let i = c.loop-id.id-index in
    let l = c.loop-id-test.true in
    let drawn = filter (is_drawn c.args.tables.now c.args.target) (take i ids) in
    omega (arith, ap (λ (x : Changes). length x.dead) c.loop-id.invariant.change, length-append c.args.change.now.dead drawn, filter_le (is_drawn c.args.tables.now c.args.target) (take i ids), length-take-le i ids (omega arith), c.requires.dead, l)

pub merge-requires-then-is_drawn-clause-merges : goal.merge-requires-then-is_drawn-clause-merges
merge-requires-then-is_drawn-clause-merges c =
    let ids = c.args.near.now in
    let i = c.loop-id.id-index in
    let l = c.loop-id-test.true in
    let drawn = filter (is_drawn c.args.tables.now c.args.target) (take i ids) in
    omega (arith, ap (λ (x : Changes). length x.merges) c.loop-id.invariant.change, length-append c.args.change.now.merges (into c.args.target drawn), length-map {B = MergePair} drawn (λ u. record { «from» = u; into = c.args.target }), filter_le (is_drawn c.args.tables.now c.args.target) (take i ids), length-take-le i ids (omega arith), c.requires.merges, l)

pub loop-id-init : goal.loop-id-init
loop-id-init c = record {
  gathers = steps.gathers_none c.args.tables.now c.args.target c.requires.awaited [] refl;
  change = steps.gathered_none c.args.change.now c.args.target (is_drawn c.args.tables.now c.args.target);
}

pub loop-id-preserved : goal.loop-id-preserved
loop-id-preserved c =
    let ids = c.args.near.now in
    let i = c.loop-id.id-index in
    let l = c.loop-id-test.true in
    let drawn = is_drawn c.args.tables.now c.args.target in
    let same = steps.same_drawn c.args.tables.now c.args.target c.requires.awaited c.requires.calm c.loop-id.tables (take i ids) (take (i + 1) ids) (get_or ids i 0) c.loop-id.invariant.gathers (λ p. list_any_more p ids i 0 l) (steps.fresh_id ids c.requires.rising i 0 l) in
    elim c.if-is_drawn.branch [
      | then-is_drawn w ↦
          let goes = sym same ∙ sym c.is_drawn.ensures ∙ w.if-is_drawn.true in
          rw (w.tables-is, w.change-is) (record {
            gathers = steps.gathers_taken c.args.tables.now c.args.target c.requires.awaited c.requires.calm c.loop-id.tables (take i ids) (take (i + 1) ids) (get_or ids i 0) c.loop-id.invariant.gathers (λ p. list_any_more p ids i 0 l) (steps.fresh_id ids c.requires.rising i 0 l) goes w.merge.new.self w.merge.ensures;
            change = w.merge-then-is_drawn.ensures ∙ ap (λ (x : Changes). record x { dead = x.dead ++ get_or ids i 0 ∷ []; merges = x.merges ++ record { «from» = get_or ids i 0; into = c.args.target } ∷ [] }) c.loop-id.invariant.change
                ∙ steps.gathered_more c.args.change.now c.args.target drawn (take i ids) (take (i + 1) ids) (get_or ids i 0) (filter_yes drawn ids i 0 l goes);
          })
      | else-is_drawn w ↦
          let stays = sym same ∙ sym c.is_drawn.ensures ∙ w.if-is_drawn.false in
          rw (w.tables-is, w.change-is) (record {
            gathers = steps.gathers_left c.args.tables.now c.args.target c.requires.awaited c.requires.calm c.loop-id.tables (take i ids) (take (i + 1) ids) (get_or ids i 0) c.loop-id.invariant.gathers (λ p. list_any_more p ids i 0 l) (steps.fresh_id ids c.requires.rising i 0 l) stays;
            change = c.loop-id.invariant.change ∙ ap (λ zs. record c.args.change.now { dead = c.args.change.now.dead ++ zs; merges = c.args.change.now.merges ++ into c.args.target zs }) (sym (filter_no drawn ids i 0 l stays));
          })
    ]

pub returns-clause-gathers : goal.returns-clause-gathers
returns-clause-gathers c = let e = take_all c.loop-id.id-index c.args.near.now c.loop-id-test.false in subst (Gathers c.args.tables.now c.loop-id.tables c.args.target (is_drawn c.args.tables.now c.args.target)) e c.loop-id.invariant.gathers

pub returns-clause-change : goal.returns-clause-change
returns-clause-change c = let e = take_all c.loop-id.id-index c.args.near.now c.loop-id-test.false in subst (λ (zs : List ℕ). c.loop-id.change ≡ gathered c.args.change.now c.args.target (is_drawn c.args.tables.now c.args.target) zs) e c.loop-id.invariant.change
