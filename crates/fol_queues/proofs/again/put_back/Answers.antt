use Rattle.std.proofs.Common.{◌≡◌, ◌++◌, ◌∷◌, [], refl, sym, ◌∙◌, ap, arith, length-append, subst, List}
use Rattle.std.specs.List.Sorted.{IsPermutation}
use Rattle.std.proofs.lemmas.List.{append-nil, map-append}
use Rattle.std.proofs.lemmas.List.Sorted.{IsPermutation-refl, IsPermutation-trans}
use Rattle.fol_queues.specs.Again.{dated_at, with_again}
use Rattle.fol_queues.specs.declared.dated.Dated.{Dated}
use Rattle.fol_queues.proofs.Coming.{all_at, last_moves, none_left}
use Rattle.fol_queues.proofs.again.put_back.Goals as goal

pub loop-task-init : goal.loop-task-init
loop-task-init c = record { room = c.requires.room; back = IsPermutation-refl _; order = c.requires.order; capacity = refl }

pub push-requires-clause-room : goal.push-requires-clause-room
push-requires-clause-room c = let popped = c.in-Some.ensures.items in omega (arith, rw popped at c.loop-task.invariant.room, length-append c.pop.new.self.items (c.in-Some.task ∷ []))

pub loop-task-preserved : goal.loop-task-preserved
loop-task-preserved c =
    let popped = c.in-Some.ensures.items in
    let inv = c.loop-task.invariant in
    let xs = c.pop.new.self.items in
    let t = c.in-Some.task in
    let at = c.args.deadline in
    let last : all_at at (xs ++ t ∷ []) ≡ all_at at xs ++ dated_at at t ∷ [] = map-append (dated_at at) xs (t ∷ []) in
    record {
      room = omega (arith, rw popped at inv.room, length-append xs (t ∷ []), c.push.ensures.len, c.push.ensures.capacity);
      back =
          let before = subst (λ (ds : List Dated). IsPermutation (with_again c.args.tasks.now.items c.args.again.now.items at) (c.loop-task.tasks.items ++ ds)) (ap (all_at at) popped ∙ last) inv.back in
          IsPermutation-trans _ _ _ before (last_moves c.loop-task.tasks.items _ (all_at at xs) (dated_at at t) c.push.ensures.same);
      order = c.push.ensures.order;
      capacity = c.push.ensures.capacity ∙ inv.capacity;
    }

pub returns-clause-back : goal.returns-clause-back
returns-clause-back c =
    let none : c.loop-task.again.items ≡ [] = none_left c.loop-task.again.items (sym c.loop-task.again.ok.0 ∙ c.in_default.ensures.cases.0) in
    subst (λ (ds : List Dated). IsPermutation (with_again c.args.tasks.now.items c.args.again.now.items c.args.deadline) ds) (ap (λ ts. c.loop-task.tasks.items ++ all_at c.args.deadline ts) none ∙ append-nil c.loop-task.tasks.items) c.loop-task.invariant.back
