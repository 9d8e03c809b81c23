use Rattle.std.proofs.Common.{ℕ, true, false, ◌∙◌, ap}
use Rattle.fol_store.specs.Bag.{Bag}
use Rattle.fol_store.specs.Stock.{next_of}
use Rattle.fol_keyed.proofs.Answers.{always_err, on_ok, on_err}
use Rattle.fol_store.proofs.Totals.{same_flat, same_jobs}
use Rattle.fol_store.proofs.Noting.{touched_same, touched_unlisted}
use Rattle.fol_store.proofs.store.Store.settle.Goals as goal

pub draw_noted-requires-clause-here : goal.draw_noted-requires-clause-here
draw_noted-requires-clause-here c = ap (λ (f : ℕ → Bag). (f c.args.id).here) c.hand_out.ensures.bags ∙ c.requires.here

pub draw_noted-requires-clause-listed : goal.draw_noted-requires-clause-listed
draw_noted-requires-clause-listed c = ap (λ (f : ℕ → Bag). (f c.args.id).listed) c.hand_out.ensures.bags ∙ c.requires.listed

pub returns-in_err-hand_out-clause-err : goal.returns-in_err-hand_out-clause-err
returns-in_err-hand_out-clause-err c = always_err c.from_residual.result _ (touched_same _ _ (ap (λ (f : ℕ → Bag). f c.args.id) c.hand_out.ensures.bags))

pub returns-in_err-hand_out-clause-others : goal.returns-in_err-hand_out-clause-others
returns-in_err-hand_out-clause-others c = λ u n. ap (λ (f : ℕ → Bag). f u) c.hand_out.ensures.bags

pub returns-in_err-hand_out-clause-next : goal.returns-in_err-hand_out-clause-next
unfolding next_of
returns-in_err-hand_out-clause-next c = c.hand_out.ensures.same.bags

pub returns-in_err-hand_out-clause-contents : goal.returns-in_err-hand_out-clause-contents
returns-in_err-hand_out-clause-contents c = same_flat _ _ c.hand_out.ensures.same.found

pub returns-in_err-hand_out-clause-tasks : goal.returns-in_err-hand_out-clause-tasks
returns-in_err-hand_out-clause-tasks c = same_jobs _ _ c.hand_out.ensures.same.found

pub returns-clause-whole : goal.returns-clause-whole
returns-clause-whole c = on_ok c.draw_noted.result _ _ c.draw_noted.ensures.whole
    (λ e. e ∙ ap (λ (f : ℕ → Bag). let b : Bag = record (f c.args.id) { calm = true } in b) c.hand_out.ensures.bags)

pub returns-clause-err : goal.returns-clause-err
returns-clause-err c = on_err c.draw_noted.result _ _ c.draw_noted.ensures.err
    (λ e. touched_unlisted _ _ (e ∙ ap (λ (f : ℕ → Bag). let b : Bag = record (f c.args.id) { listed = false } in b) c.hand_out.ensures.bags))

pub returns-clause-others : goal.returns-clause-others
returns-clause-others c = λ u n. c.draw_noted.ensures.others u n ∙ ap (λ (f : ℕ → Bag). f u) c.hand_out.ensures.bags

pub returns-clause-next : goal.returns-clause-next
unfolding next_of
returns-clause-next c = c.draw_noted.ensures.same.bags ∙ c.hand_out.ensures.same.bags

pub returns-clause-contents : goal.returns-clause-contents
returns-clause-contents c = same_flat _ _ (λ k. c.draw_noted.ensures.same.found k ∙ c.hand_out.ensures.same.found k)

pub returns-clause-tasks : goal.returns-clause-tasks
returns-clause-tasks c = same_jobs _ _ (λ k. c.draw_noted.ensures.same.found k ∙ c.hand_out.ensures.same.found k)
