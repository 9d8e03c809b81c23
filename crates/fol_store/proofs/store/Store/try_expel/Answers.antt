use Rattle.std.proofs.Common.{◌≡◌, rules, ℕ, sym, ◌∙◌, ap, subst, arith, List, Option}
use Rattle.std.specs.List.Sorted.{IsStrictlySortedBy}
use Rattle.fol_chunks.specs.Order.{chunk_cmp}
use Rattle.fol_store.specs.Bag.{Bag}
use Rattle.fol_store.specs.Relisted.{Narrowed}
use Rattle.fol_model.specs.Job.{Job}
use Rattle.fol_bags.specs.declared.slot.Slot.{Slot}
use Rattle.fol_bags.specs.Clear.{HasNoTask}
use Rattle.fol_bags.specs.Slots.{slot_in}
use Rattle.fol_store.specs.Stock.{bag_of, slot}
use Rattle.fol_store.proofs.Totals.{same_jobs}
use Rattle.fol_store.proofs.Arriving.{bags_same}
use Rattle.fol_keyed.proofs.Answers.{on_ok, on_err}
use Rattle.fol_store.proofs.store.Store.try_expel.Goals as goal

pub expel_to-requires-clause-here : goal.expel_to-requires-clause-here
expel_to-requires-clause-here c = ap (λ (f : ℕ → Bag). (f c.args.id).here) (bags_same _ _ c.spot_of.ensures.bags) ∙ c.requires.here

pub expel_to-requires-clause-listed : goal.expel_to-requires-clause-listed
expel_to-requires-clause-listed c = ap (λ (f : ℕ → Bag). (f c.args.id).listed) (bags_same _ _ c.spot_of.ensures.bags) ∙ c.requires.listed

pub expel_to-requires-clause-order : goal.expel_to-requires-clause-order
expel_to-requires-clause-order c =
    let P : (ℕ → Bag) → Type 0 = λ f. IsStrictlySortedBy chunk_cmp (f c.args.id).chunks in
    subst P (sym (bags_same _ _ c.spot_of.ensures.bags)) c.requires.order

pub expel_to-requires-clause-size : goal.expel_to-requires-clause-size
expel_to-requires-clause-size c =
    let same : slot c.spot_of.new.self c.args.id ≡ slot c.args.self.now c.args.id = ap (λ (l : List Slot). slot_in l c.args.id) c.spot_of.ensures.bags in
    let size = c.size_on-size.ensures.size in
    rw same (omega (arith, size))

pub expel_to-requires-clause-no_task : goal.expel_to-requires-clause-no_task
expel_to-requires-clause-no_task c =
    let P : (ℕ → Option Job) → Type 0 = λ f. HasNoTask c.args.c f in
    subst P (sym (same_jobs _ _ c.spot_of.ensures.same.found)) c.requires.no_task

pub returns-clause-own : goal.returns-clause-own
returns-clause-own c =
    on_ok c.expel_to.result _ _ c.expel_to.ensures.own (λ e. let P : (ℕ → Bag) → Type 0 = λ f. Narrowed c.args.c (f c.args.id) (bag_of c.expel_to.new.self c.args.id) in subst P (bags_same _ _ c.spot_of.ensures.bags) e)

pub returns-clause-others : goal.returns-clause-others
returns-clause-others c = on_ok c.expel_to.result _ _ c.expel_to.ensures.others (λ e u n. e u n ∙ ap (λ (f : ℕ → Bag). f u) (bags_same _ _ c.spot_of.ensures.bags))

pub returns-clause-err : goal.returns-clause-err
returns-clause-err c = on_err c.expel_to.result _ _ c.expel_to.ensures.err (λ e. e ∙ bags_same _ _ c.spot_of.ensures.bags)

pub returns-in_err-i-clause-err : goal.returns-in_err-i-clause-err
returns-in_err-i-clause-err c = let same : bag_of c.spot_of.new.self ≡ bag_of c.args.self.now = bags_same _ _ c.spot_of.ensures.bags in search (rules, same)

pub returns-clause-calm : goal.returns-clause-calm
returns-clause-calm c = on_ok c.expel_to.result _ _ c.expel_to.ensures.calm (λ e. e ∙ ap (λ (f : ℕ → Bag). (f c.args.id).calm) (bags_same _ _ c.spot_of.ensures.bags))
