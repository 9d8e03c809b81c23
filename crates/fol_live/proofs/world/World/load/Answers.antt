use Rattle.std.proofs.Common.{◌∙◌, ap, subst}
use Rattle.fol_core.specs.Answers.{LoadRecords, load_result}
use Rattle.fol_offers.specs.Shown as offers
use Rattle.fol_live.specs.Kept.{IsKept}
use Rattle.fol_live.specs.Shown.{shown}
use Rattle.fol_live.specs.Turns.{Loads}
use Rattle.fol_live.proofs.Answering.{Tells, answers_back, grows_load}
use Rattle.fol_live.proofs.Bare.{bare_load}
use Rattle.fol_live.proofs.Moved.{carried}
use Rattle.fol_live.proofs.world.World.load.Goals as goal

pub returns : goal.returns
returns c =
    let old : offers.Shown = c.deref_mut.result.now in
    let new : offers.Shown = c.load-answer.new.self in
    let told = c.load-answer.ensures in
    let kept : IsKept (shown old) = rw c.deref_mut.ensures.value c.self.invariant.0 in
    let there : Tells c.deref.result.now = record { grid = c.keeps.ensures.grid; run = c.keeps.ensures.run; turns = c.keeps.ensures.in_turn } in
    let tells : Tells new = subst Tells c.deref.ensures there in
    carried (λ a b. Loads a b c.args.by c.args.c c.load-answer.result) (ap shown c.deref_mut.ensures.value ∙ c.self.view_is) c.offer_rest.ensures
    (answers_back old new c.args.by (λ w. load_result w c.args.c) (λ m n a. LoadRecords m n c.args.by c.args.c a) c.load-answer.result (λ m n a. grows_load m n c.args.by c.args.c a)
    (λ m n a. bare_load m n c.args.by c.args.c a) kept tells told.workers told.slots told)
