use Rattle.std.proofs.Common.{◌≡◌, ◌-◌, ◌∙◌, length, rules, arith, w32}
use Rattle.std.specs.Prelude.{FitsSigned}
use Rattle.std.proofs.lemmas.Int.{to_z-of_z}
use Rattle.std.proofs.lemmas.List.{get_or_default}
use Rattle.fol_keyed.proofs.Rectangles.{filled_first, filled_more, filled_whole, not_right}
use Rattle.fol_keyed.proofs.rectangle.are_all_between.Goals as goal

pub loop-i-init : goal.loop-i-init
loop-i-init c =
    let first : FitsSigned w32 c.args.first.x = search rules in
    let last : FitsSigned w32 c.args.last.x = search rules in
    filled_first c.args.first c.args.last c.args.chunks.now c.args.first c.requires.some c.requires.first
    (not_right c.args.first.x c.args.last.x (rw (to_z-of_z w32 c.args.last.x last, to_z-of_z w32 c.args.first.x first) at c.if-last-first.false))

pub loop-i-preserved : goal.loop-i-preserved
loop-i-preserved c =
    let first : FitsSigned w32 c.args.first.x = search rules in
    let last : FitsSigned w32 c.args.last.x = search rules in
    let next = rw (to_z-of_z w32 c.args.last.x last, to_z-of_z w32 c.args.first.x first) at (c.is_next.ensures c.if-not-is_next.false) in
    filled_more c.args.first c.args.last c.args.chunks.now c.loop-i.i _ _
    (not_right c.args.first.x c.args.last.x (rw (to_z-of_z w32 c.args.last.x last, to_z-of_z w32 c.args.first.x first) at c.if-last-first.false))
    c.loop-i.invariant c.loop-i-test.true (λ d. get_or_default c.args.chunks.now (c.loop-i.i - 1) d _ (omega arith)) (λ d. get_or_default c.args.chunks.now c.loop-i.i d _ (omega arith)) next

pub returns : goal.returns
returns c = λ _ q.
    let whole : c.loop-i.i - 1 ≡ length c.args.chunks.now - 1 = omega (arith, c.loop-i.invariant.fits) in
    filled_whole c.args.first c.args.last c.args.chunks.now c.loop-i.i (omega (arith, c.loop-i.invariant.fits)) c.loop-i.invariant
    (λ d. rw whole (get_or_default c.args.chunks.now (length c.args.chunks.now - 1) d c.args.last (omega (arith, c.requires.some)) ∙ c.requires.last)) q
