use Rattle.std.proofs.Common.{◌+◌, ◌++◌, sym, ◌∙◌, ap, refl, arith, take}
use Rattle.std.specs.Prelude.{pos}
use Rattle.std.specs.List.Sorted.{IsStrictlySortedBy}
use Rattle.std.proofs.lemmas.Bool.{true≢false}
use Rattle.std.proofs.lemmas.List.{take_all}
use Rattle.fol_model.specs.Universe.{section_cmp}
use Rattle.fol_split.specs.Runs.{all_of, sections_of}
use Rattle.fol_split.proofs.Adding.{marked_none, run_some}
use Rattle.fol_split.proofs.Loading.{front_more, front_fits, front_in_order}
use Rattle.fol_split.proofs.runs.Runs.load.Goals as goal

pub invariant_of-self : goal.invariant_of-self
invariant_of-self c = (
  marked_none _ _ _ c.clear.ensures.items c.clear-2.ensures.items c.clear-3.ensures.items,
  record {
    runs = omega (arith, c.clear.ensures.capacity, c.self.invariant.1.runs);
    left = omega (arith, c.clear-2.ensures.capacity, c.self.invariant.1.left);
    class = omega (arith, c.clear-3.ensures.capacity, c.self.invariant.1.class);
  },
)

pub loop-done-init : goal.loop-done-init
unfolding IsStrictlySortedBy
loop-done-init c = record {
  within = omega arith;
  all = ap all_of c.clear.ensures.items;
  in_order = tt;
  left = λ k d l. absurd (omega (arith, c.clear-2.ensures.len, l));
  flags = omega (arith, c.clear.ensures.len, c.clear-2.ensures.len);
}

pub returns-then-not-is_behind-clause-in_order : goal.returns-then-not-is_behind-clause-in_order
returns-then-not-is_behind-clause-in_order c = (
  (λ h. absurd (true≢false (sym h))),
  (λ h.
      let front = front_in_order c.args.order.now c.loop-done.done (record { x = pos 0; z = pos 0 }) c.first_run-run.result c.loop-done-test.true c.first_run-run.ensures.front h in
      let here : IsStrictlySortedBy section_cmp (all_of c.loop-done.self.runs ++ sections_of c.first_run-run.result) = rw c.loop-done.invariant.all front in
      sym c.if-not-is_behind.true ∙ c.is_behind.ensures.1 here),
)

pub loop-done-smaller : goal.loop-done-smaller
loop-done-smaller c =
    let some = run_some c.first_run-run.result c.first_run-run.ensures.solid in
    omega (arith, some, c.len-done.ensures, c.loop-done-test.true)

pub loop-done-preserved : goal.loop-done-preserved
loop-done-preserved c =
    let order = c.args.order.now in
    let done = c.loop-done.done in
    let run = c.first_run-run.result in
    record {
      within = rw c.len-done.ensures (front_fits order done (record { x = pos 0; z = pos 0 }) run c.loop-done-test.true c.first_run-run.ensures.front);
      all = c.add.ensures.all ∙ ap (λ xs. xs ++ sections_of run) c.loop-done.invariant.all ∙ front_more order done (record { x = pos 0; z = pos 0 }) run c.loop-done-test.true c.first_run-run.ensures.front
          ∙ ap (λ n. take (done + n) order) (sym c.len-done.ensures);
      in_order = rw (c.len-done.ensures, ← front_more order done (record { x = pos 0; z = pos 0 }) run c.loop-done-test.true c.first_run-run.ensures.front, ← c.loop-done.invariant.all) (c.is_behind.ensures.0 c.if-not-is_behind.false);
      left = c.add.ensures.left;
      flags = c.add.ensures.flags;
    }

pub returns-clause-in_order : goal.returns-clause-in_order
returns-clause-in_order c =
    let whole = take_all c.loop-done.done c.args.order.now c.loop-done-test.false in
    ((λ h. rw whole at c.loop-done.invariant.in_order), (λ h. refl))
