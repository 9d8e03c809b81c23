use Rattle.std.proofs.Common.{◌≡◌, refl, subst, inl, inr}
use Rattle.std.specs.Prelude.{Ok}
use Rattle.fol_inbox.specs.declared.drain.Step.{Step}
use Rattle.fol_inbox.specs.Drains.{Steps}
use Rattle.fol_inbox.proofs.Taken.{drains_err, posts_both, posts_on, posts_still, same_both, same_drainer}
use Rattle.fol_inbox.proofs.inbox.Inbox.drain.Goals as goal

pub loop-done-init : goal.loop-done-init
loop-done-init g c = (same_drainer c.args.drainer.now, posts_still c.args.drainer.now c.args.drainer.now refl, inl refl)

pub loop-done-preserved : goal.loop-done-preserved
loop-done-preserved g c =
    let a = c.args.drainer.now in
    let b = c.loop-done.drainer in
    let d = c.step.new.drainer in
    let inv = c.loop-done.invariant in
    let step = subst (λ (s : Step). Steps b d (Ok s)) c.in-Posted.is c.in_ok-step.ensures.step in
    (same_both a b d inv.0 c.in_ok-step.ensures.same, posts_both c.loop-done.done 1 a b d inv.1 step.0, inr step.1)

pub returns-in_err-step-clause-drained : goal.returns-in_err-step-clause-drained
returns-in_err-step-clause-drained g c =
    let a = c.args.drainer.now in
    let b = c.loop-done.drainer in
    let d = c.step.new.drainer in
    let low = c.loop-done-test.true in
    drains_err c.args.max c.loop-done.done a d c.from_residual.result c.from_residual.ensures.0 low (posts_on c.loop-done.done a b d c.loop-done.invariant.1 c.in_err-step.ensures.step)

pub returns-in-Empty-clause-drained : goal.returns-in-Empty-clause-drained
returns-in-Empty-clause-drained g c =
    let a = c.args.drainer.now in
    let b = c.loop-done.drainer in
    let d = c.step.new.drainer in
    let low = c.loop-done-test.true in
    let step = subst (λ (s : Step). Steps b d (Ok s)) c.in-Empty.is c.in_ok-step.ensures.step in
    (low, posts_on c.loop-done.done a b d c.loop-done.invariant.1 step.0, step.1)

pub returns-in-Over-clause-drained : goal.returns-in-Over-clause-drained
returns-in-Over-clause-drained g c =
    let a = c.args.drainer.now in
    let b = c.loop-done.drainer in
    let d = c.step.new.drainer in
    let low = c.loop-done-test.true in
    let step = subst (λ (s : Step). Steps b d (Ok s)) c.in-Over.is c.in_ok-step.ensures.step in
    (low, posts_on c.loop-done.done a b d c.loop-done.invariant.1 step.0, step.1, step.2)
