use Rattle.std.proofs.Common.{◌∙◌, ap, subst}
use Rattle.fol_core.specs.Answers.{PostRecords, post_result}
use Rattle.fol_offers.specs.Shown as offers
use Rattle.fol_live.specs.Kept.{IsKept}
use Rattle.fol_live.specs.Shown.{shown}
use Rattle.fol_live.specs.Turns.{Posts}
use Rattle.fol_live.proofs.Answering.{Tells, answers_back, grows_post}
use Rattle.fol_live.proofs.Bare.{bare_post}
use Rattle.fol_live.proofs.Moved.{carried}
use Rattle.fol_live.proofs.world.World.post.Goals as goal

pub invariant_of-self : goal.invariant_of-self
invariant_of-self c =
    let old : offers.Shown = c.deref_mut.result.now in
    let new : offers.Shown = c.post-answer.new.self in
    let told = c.post-answer.ensures.posted in
    let kept : IsKept (shown old) = rw c.deref_mut.ensures.value c.self.invariant.0 in
    let there : Tells c.deref.result.now = record { grid = c.keeps.ensures.grid; run = c.keeps.ensures.run; turns = c.keeps.ensures.in_turn } in
    let tells : Tells new = subst Tells c.deref.ensures there in (
      (answers_back old new c.args.by (λ w. post_result w c.args.c c.args.action) (λ m n a. PostRecords m n c.args.by c.args.c c.args.delay c.args.action a) c.post-answer.result
          (λ m n a. grows_post m n c.args.by c.args.c c.args.delay c.args.action a) (λ m n a. bare_post m n c.args.by c.args.c c.args.delay c.args.action a) kept tells told.workers told.slots told).keeps,
      λ never. absurd (cc),
    )

pub returns-clause-posted : goal.returns-clause-posted
returns-clause-posted c =
    let old : offers.Shown = c.deref_mut.result.now in
    let new : offers.Shown = c.post-answer.new.self in
    let told = c.post-answer.ensures.posted in
    let kept : IsKept (shown old) = rw c.deref_mut.ensures.value c.self.invariant.0 in
    let there : Tells c.deref.result.now = record { grid = c.keeps.ensures.grid; run = c.keeps.ensures.run; turns = c.keeps.ensures.in_turn } in
    let tells : Tells new = subst Tells c.deref.ensures there in
    carried (λ a b. Posts a b c.args.by c.args.c c.args.delay c.args.action c.post-answer.result) (ap shown c.deref_mut.ensures.value ∙ c.self.view_is) c.offer_rest.ensures
    (answers_back old new c.args.by (λ w. post_result w c.args.c c.args.action) (λ m n a. PostRecords m n c.args.by c.args.c c.args.delay c.args.action a) c.post-answer.result
    (λ m n a. grows_post m n c.args.by c.args.c c.args.delay c.args.action a) (λ m n a. bare_post m n c.args.by c.args.c c.args.delay c.args.action a) kept tells told.workers told.slots told)
