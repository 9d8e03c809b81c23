use Rattle.std.proofs.Common.{◌≡◌, false, ◌&&◌, sym, ◌∙◌, ap, arith, length, inl, inr}
use Rattle.std.specs.Prelude.{nat_lt}
use Rattle.std.proofs.lemmas.Bool.{and_parts, cases_lt, ltb-true}
use Rattle.fol_split.specs.Runs.{begins_before, run_at}
use Rattle.fol_split.proofs.Adding.{few_runs}
use Rattle.fol_split.proofs.RunLists.{between-none, between-more, row_is}
use Rattle.fol_split.proofs.Taking.{left_within, takes_none, takes_both, takes_like}
use Rattle.fol_split.proofs.runs.Runs.take_row.Goals as goal

pub loop-window-init : goal.loop-window-init
loop-window-init c = record {
  rising = omega arith;
  takes = takes_none c.args.self.now _ (λ k _. between-none c.first_from-k.result k);
  begun = λ j a b. absurd (omega arith);
}

pub overflow_add-k : goal.overflow_add-k
overflow_add-k c =
    let test = and_parts (nat_lt c.loop-window.k (length c.loop-window.self.runs)) _ (sym c.begins_before.ensures ∙ c.loop-window-test.true) in
    omega (arith, ltb-true _ _ test.0, ap length c.loop-window.invariant.takes.runs, few_runs c.args.self.now.runs c.first_from-k.ensures.marked.sound)

pub loop-window-smaller : goal.loop-window-smaller
loop-window-smaller c =
    let test = and_parts (nat_lt c.loop-window.k (length c.loop-window.self.runs)) _ (sym c.begins_before.ensures ∙ c.loop-window-test.true) in
    omega (arith, ltb-true _ _ test.0, ap length c.loop-window.invariant.takes.runs)

pub loop-window-preserved : goal.loop-window-preserved
loop-window-preserved c =
    let inv = c.loop-window.invariant in
    let test = and_parts (nat_lt c.loop-window.k (length c.loop-window.self.runs)) _ (sym c.begins_before.ensures ∙ c.loop-window-test.true) in
    record {
      rising = omega (arith, inv.rising);
      takes = takes_both _ _ _ _ _ _ inv.takes c.take.ensures (λ j. between-more c.first_from-k.result c.loop-window.k j inv.rising);
      begun = λ j a b. elim (cases_lt j c.loop-window.k) [
        | inl l ↦ inv.begun j a l
        | inr l ↦
            let e : j ≡ c.loop-window.k = omega arith in
            ap (λ i. begins_before c.args.window.z c.args.window.to (run_at c.args.self.now.runs i)) e
            ∙ ap (λ rs. begins_before c.args.window.z c.args.window.to (run_at rs c.loop-window.k)) (sym inv.takes.runs) ∙ test.1
      ];
    }

pub returns : goal.returns
returns c =
    let inv = c.loop-window.invariant in
    let marked = c.first_from-k.ensures.marked in
    let test = sym c.begins_before.ensures ∙ c.loop-window-test.false in
    let done : (nat_lt c.loop-window.k (length c.args.self.now.runs) && begins_before c.args.window.z c.args.window.to (run_at c.args.self.now.runs c.loop-window.k)) ≡ false = rw inv.takes.runs at test in
    takes_like _ _ _ _ inv.takes (λ j left. row_is c.args.self.now.runs marked.sound c.args.window.z c.args.window.from c.args.window.to c.first_from-k.result c.loop-window.k
    c.first_from-k.ensures.before c.first_from-k.ensures.after inv.begun done inv.rising j (omega (arith, left_within c.args.self.now.left j left, marked.flags)))
