use Rattle.std.proofs.Common.{◌≡◌, ℕ, refl, ◌∙◌, ap, Option, None}
use Rattle.fol_model.specs.Job.{Job}
use Rattle.std.specs.List.Sorted.{IsStrictlySortedBy}
use Rattle.fol_store.specs.Bag.{Bag, new_bag}
use Rattle.fol_store.specs.Stock.{jobs_of, bag_of}
use Rattle.fol_data_tests.proofs.stores.unite.Goals as goal

pub gain-requires-clause-order : goal.gain-requires-clause-order
unfolding IsStrictlySortedBy
gain-requires-clause-order c = let e : bag_of c.args.store.now 1 ≡ new_bag 40 2 = ap (λ (f : ℕ → Bag). f 1) c.requires.bags in rw e (λ o. tt)

pub gain-requires-2-clause-order : goal.gain-requires-2-clause-order
unfolding IsStrictlySortedBy
gain-requires-2-clause-order c = let e : bag_of c.open.new.self 2 ≡ new_bag 41 3 = ap (λ (f : ℕ → Bag). f 2) c.open.ensures.bags in rw e (λ o. tt)

pub accept-requires-2-clause-fresh : goal.accept-requires-2-clause-fresh
accept-requires-2-clause-fresh c =
    let before : jobs_of c.gain-2.new.self ≡ (λ n. None) = c.gain-2.ensures.tasks ∙ c.open.ensures.tasks ∙ c.gain.ensures.tasks ∙ c.requires.tasks in
    let now : jobs_of c.accept.new.self 3 ≡ None = ap (λ (f : ℕ → Option Job). f 3) c.accept.ensures.tasks ∙ rw c.task.ensures.number (ap (λ (f : ℕ → Option Job). f 3) before) in
    rw (c.task-2.ensures.number, now) refl
