use Rattle.std.proofs.Common.{◌≡◌, ℕ, ◌∙◌, ap}
use Rattle.fol_model.specs.ActionStep.{at_id}
use Rattle.fol_store.specs.Bag.{Bag}
use Rattle.fol_store.specs.Stock.{bag_of}
use Rattle.fol_keyed.proofs.Answers.{always_err}
use Rattle.fol_store.proofs.store.Store.prepare.Goals as goal

pub returns-in_err-hand_out-clause-err : goal.returns-in_err-hand_out-clause-err
returns-in_err-hand_out-clause-err c = always_err c.from_residual.result _ c.hand_out.ensures.bags

pub drop_others-requires-clause-here : goal.drop_others-requires-clause-here
drop_others-requires-clause-here c = ap (λ (f : ℕ → Bag). (f c.args.id).here) c.hand_out.ensures.bags ∙ c.requires.here

pub drop_others-requires-clause-not_listed : goal.drop_others-requires-clause-not_listed
drop_others-requires-clause-not_listed c = ap (λ (f : ℕ → Bag). (f c.args.id).listed) c.hand_out.ensures.bags ∙ c.requires.not_listed

pub returns-in_err-drop_others-clause-err : goal.returns-in_err-drop_others-clause-err
returns-in_err-drop_others-clause-err c = always_err c.from_residual-in_err-drop_others.result _ (c.drop_others.ensures.bags ∙ c.hand_out.ensures.bags)

pub relist-requires-clause-here : goal.relist-requires-clause-here
relist-requires-clause-here c = ap (λ (f : ℕ → Bag). (f c.args.id).here) (c.drop_others.ensures.bags ∙ c.hand_out.ensures.bags) ∙ c.requires.here

pub relist-requires-clause-not_listed : goal.relist-requires-clause-not_listed
relist-requires-clause-not_listed c = ap (λ (f : ℕ → Bag). (f c.args.id).listed) (c.drop_others.ensures.bags ∙ c.hand_out.ensures.bags) ∙ c.requires.not_listed

pub returns-clause-ok : goal.returns-clause-ok
returns-clause-ok c =
    let e : bag_of c.drop_others.new.self ≡ bag_of c.args.self.now = c.drop_others.ensures.bags ∙ c.hand_out.ensures.bags in
    c.relist.ensures.bags ∙ ap (λ (f : ℕ → Bag). at_id f c.args.id (let b : Bag = record (f c.args.id) { chunks = c.args.chunks.now } in b)) e
