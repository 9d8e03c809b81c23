use Rattle.std.proofs.Common.{◌≡◌, ◌∙◌, List, [], ◌∷◌, ◌++◌, sym, refl, ap, subst, Option, Some, None}
use Rattle.fol_inbox.specs.declared.letter.Letter.{Letter}
use Rattle.fol_inbox.specs.declared.letter.Receipt.{Receipt}
use Rattle.fol_inbox.specs.Draining.{Draining, draining}
use Rattle.fol_inbox.specs.Drains.{PostsMore, TakesUp}
use Rattle.fol_inbox.specs.Receipts.{IsDrainer}
use Rattle.fol_inbox.specs.Sending.{IsIdle}
use Rattle.fol_inbox.proofs.Taken.{drainer_holds, drainer_more, posts_empty, posts_more, posts_none, posts_still, steps_err}
use Rattle.fol_inbox.proofs.inbox.Inbox.step.Goals as goal

pub returns-in_err-reserve-clause-step : goal.returns-in_err-reserve-clause-step
returns-in_err-reserve-clause-step g c =
    let d = c.drainer.inside in
    let now : Draining = draining d.seat d.since.value d.pass c.reserve.new.self.items d.held in
    let same : now ≡ c.args.drainer.now = ap (λ (rs : List Receipt). draining d.seat d.since.value d.pass rs d.held) c.in_err-reserve.ensures.items ∙ c.drainer.view_is in
    steps_err c.args.drainer.now now c.from_residual.result c.from_residual.ensures.0 (posts_still c.args.drainer.now now same)

pub returns-in_default-clause-step : goal.returns-in_default-clause-step
returns-in_default-clause-step g c =
    let d = c.drainer.inside in
    let pass = c.in_default.ensures.pass in
    let idle : IsIdle c.next_letter.new.pass = record { hand = pass.1; spare = pass.2 } in
    let t = subst (λ (x : Option Letter). TakesUp d.pass.me.view.client c.next_letter.new.pass.me.view.client x None) c.take-held.ensures.value c.in_default.ensures.taken in
    let old : Draining = draining d.seat d.since.value d.pass d.receipts.items d.held in
    let posts = subst (λ (x : List Receipt × Option Letter). PostsMore 0 old (draining d.seat d.since.value c.next_letter.new.pass x.0 x.1)) (λ i. (sym c.in_ok-reserve.ensures.items i, sym c.take-held.ensures.after i))
    (posts_empty d.seat d.since.value d.pass c.next_letter.new.pass d.receipts.items d.held c.drainer.invariant idle t) in
    (subst (λ (x : Draining). PostsMore 0 x (draining d.seat d.since.value c.next_letter.new.pass c.reserve.new.self.items c.take-held.new.self)) c.drainer.view_is posts, c.take-held.ensures.after)

pub invariant_of-drainer-in-Posted : goal.invariant_of-drainer-in-Posted
invariant_of-drainer-in-Posted g c =
    let d = c.drainer.inside in
    let l = c.in-Some.letter in
    let pass = c.next_letter.ensures.pass in
    let idle : IsIdle c.next_letter.new.pass = record { hand = pass.1; spare = pass.2 } in
    let t = subst (λ (x : Option Letter). TakesUp d.pass.me.view.client c.next_letter.new.pass.me.view.client x (Some l)) c.take-held.ensures.value c.in-Some.ensures.taken in
    let items = c.push_reserved.ensures.items ∙ ap (λ (x : List Receipt). x ++ c.in-Posted.receipt ∷ []) c.in_ok-reserve.ensures.items in
    subst (λ (x : List Receipt × Option Letter). IsDrainer c.post.new.seat d.since.value c.next_letter.new.pass x.0 x.1) (λ i. (sym items i, sym c.take-held.ensures.after i))
    (drainer_more d.seat d.since.value d.pass c.next_letter.new.pass d.receipts.items d.held l c.drainer.invariant idle t c.post.new.seat c.in-Posted.receipt c.in-Posted.ensures)

pub returns-in-Posted-clause-receipts : goal.returns-in-Posted-clause-receipts
returns-in-Posted-clause-receipts g c = (invariant_of-drainer-in-Posted g c).law

pub returns-in-Posted-clause-step : goal.returns-in-Posted-clause-step
returns-in-Posted-clause-step g c =
    let d = c.drainer.inside in
    let l = c.in-Some.letter in
    let pass = c.next_letter.ensures.pass in
    let idle : IsIdle c.next_letter.new.pass = record { hand = pass.1; spare = pass.2 } in
    let t = subst (λ (x : Option Letter). TakesUp d.pass.me.view.client c.next_letter.new.pass.me.view.client x (Some l)) c.take-held.ensures.value c.in-Some.ensures.taken in
    let items = c.push_reserved.ensures.items ∙ ap (λ (x : List Receipt). x ++ c.in-Posted.receipt ∷ []) c.in_ok-reserve.ensures.items in
    let old : Draining = draining d.seat d.since.value d.pass d.receipts.items d.held in
    let posts = subst (λ (x : List Receipt × Option Letter). PostsMore 1 old (draining c.post.new.seat d.since.value c.next_letter.new.pass x.0 x.1)) (λ i. (sym items i, sym c.take-held.ensures.after i))
    (posts_more d.seat d.since.value d.pass c.next_letter.new.pass d.receipts.items d.held l c.drainer.invariant idle t c.post.new.seat c.in-Posted.receipt c.in-Posted.ensures) in
    (subst (λ (x : Draining). PostsMore 1 x (draining c.post.new.seat d.since.value c.next_letter.new.pass c.push_reserved.new.self.items c.take-held.new.self)) c.drainer.view_is posts, c.take-held.ensures.after)

pub invariant_of-drainer-in-Over : goal.invariant_of-drainer-in-Over
invariant_of-drainer-in-Over g c =
    let d = c.drainer.inside in
    let l = c.in-Some.letter in
    let pass = c.next_letter.ensures.pass in
    let idle : IsIdle c.next_letter.new.pass = record { hand = pass.1; spare = pass.2 } in
    let t = subst (λ (x : Option Letter). TakesUp d.pass.me.view.client c.next_letter.new.pass.me.view.client x (Some l)) c.take-held.ensures.value c.in-Some.ensures.taken in
    let over = c.in-Over.ensures in
    subst (λ (x : List Receipt × Letter). IsDrainer c.post.new.seat d.since.value c.next_letter.new.pass x.0 (Some x.1)) (λ i. (sym c.in_ok-reserve.ensures.items i, sym over.0 i))
    (drainer_holds d.seat d.since.value d.pass c.next_letter.new.pass d.receipts.items d.held l c.drainer.invariant idle t c.post.new.seat c.in-Some.ensures.may over.1)

pub returns-in-Over-clause-step : goal.returns-in-Over-clause-step
returns-in-Over-clause-step g c =
    let d = c.drainer.inside in
    let l = c.in-Some.letter in
    let pass = c.next_letter.ensures.pass in
    let idle : IsIdle c.next_letter.new.pass = record { hand = pass.1; spare = pass.2 } in
    let t = subst (λ (x : Option Letter). TakesUp d.pass.me.view.client c.next_letter.new.pass.me.view.client x (Some l)) c.take-held.ensures.value c.in-Some.ensures.taken in
    let over = c.in-Over.ensures in
    let posts = subst (λ (x : List Receipt × Letter). PostsMore 0 (draining d.seat d.since.value d.pass d.receipts.items d.held) (draining c.post.new.seat d.since.value c.next_letter.new.pass x.0 (Some x.1))) (λ i. (sym c.in_ok-reserve.ensures.items i, sym over.0 i))
    (posts_none d.seat d.since.value d.pass c.next_letter.new.pass d.receipts.items d.held l c.drainer.invariant idle t c.post.new.seat c.in-Some.ensures.may over.1) in
    (subst (λ (x : Draining). PostsMore 0 x (draining c.post.new.seat d.since.value c.next_letter.new.pass c.reserve.new.self.items (Some c.in-Over.letter))) c.drainer.view_is posts, refl, over.2)

pub invariant_of-drainer-in-NoMemory : goal.invariant_of-drainer-in-NoMemory
invariant_of-drainer-in-NoMemory g c =
    let d = c.drainer.inside in
    let l = c.in-Some.letter in
    let pass = c.next_letter.ensures.pass in
    let idle : IsIdle c.next_letter.new.pass = record { hand = pass.1; spare = pass.2 } in
    let t = subst (λ (x : Option Letter). TakesUp d.pass.me.view.client c.next_letter.new.pass.me.view.client x (Some l)) c.take-held.ensures.value c.in-Some.ensures.taken in
    let none = c.in-NoMemory.ensures in
    subst (λ (x : List Receipt × Letter). IsDrainer c.post.new.seat d.since.value c.next_letter.new.pass x.0 (Some x.1)) (λ i. (sym c.in_ok-reserve.ensures.items i, sym none.0 i))
    (drainer_holds d.seat d.since.value d.pass c.next_letter.new.pass d.receipts.items d.held l c.drainer.invariant idle t c.post.new.seat c.in-Some.ensures.may none.1)

pub returns-in-NoMemory-clause-step : goal.returns-in-NoMemory-clause-step
returns-in-NoMemory-clause-step g c =
    let d = c.drainer.inside in
    let l = c.in-Some.letter in
    let pass = c.next_letter.ensures.pass in
    let idle : IsIdle c.next_letter.new.pass = record { hand = pass.1; spare = pass.2 } in
    let t = subst (λ (x : Option Letter). TakesUp d.pass.me.view.client c.next_letter.new.pass.me.view.client x (Some l)) c.take-held.ensures.value c.in-Some.ensures.taken in
    let none = c.in-NoMemory.ensures in
    let posts = subst (λ (x : List Receipt × Letter). PostsMore 0 (draining d.seat d.since.value d.pass d.receipts.items d.held) (draining c.post.new.seat d.since.value c.next_letter.new.pass x.0 (Some x.1))) (λ i. (sym c.in_ok-reserve.ensures.items i, sym none.0 i))
    (posts_none d.seat d.since.value d.pass c.next_letter.new.pass d.receipts.items d.held l c.drainer.invariant idle t c.post.new.seat c.in-Some.ensures.may none.1) in
    subst (λ (x : Draining). PostsMore 0 x (draining c.post.new.seat d.since.value c.next_letter.new.pass c.reserve.new.self.items (Some c.in-NoMemory.letter))) c.drainer.view_is posts
