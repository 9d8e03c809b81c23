use Rattle.std.proofs.Common.{◌≡◌, ℕ, ◌+◌, refl, sym, ◌∙◌, ap, subst, arith, List, length}
use Rattle.std.specs.Vec.{vec_capacity}
use Rattle.fol_follow.specs.declared.entries.Waiting.{Waiting}
use Rattle.fol_follow.proofs.Counting.{IsLeaving, found_none, found_some, leaving_begins, leaving_ends}
use Rattle.fol_follow.proofs.asks.Asks.list_left.Goals.{in-Some, in-None}
use Rattle.fol_follow.proofs.asks.Asks.list_left.Goals as goal

pub loop-index-init : goal.loop-index-init
loop-index-init c = record { leaving = rw c.requires.empty (leaving_begins c.args.self.now); capacity = refl }

pub loop-index-preserved : goal.loop-index-preserved
loop-index-preserved c =
    let P : List Waiting → Type 0 = λ ws. IsLeaving c.args.self.now (c.loop-index.index + 1) ws in
    elim c.match-waiting.branch [
      | in-Some w ↦ record {
        leaving = subst P (sym (ap (λ v. v.items) w.left-is ∙ w.push_reserved.ensures.items))
            (found_some c.args.self.now c.loop-index.index c.loop-index.left.items c.loop-index.invariant.leaving c.waiting.result c.waiting.ensures w.in-Some.waiting w.in-Some.is);
        capacity = ap vec_capacity w.left-is ∙ w.push_reserved.ensures.capacity ∙ c.loop-index.invariant.capacity;
      }
      | in-None w ↦ record {
        leaving = subst P (sym (ap (λ v. v.items) w.left-is))
            (found_none c.args.self.now c.loop-index.index c.loop-index.left.items c.loop-index.invariant.leaving c.waiting.result c.waiting.ensures w.in-None.is);
        capacity = ap vec_capacity w.left-is ∙ c.loop-index.invariant.capacity;
      }
    ]

pub returns : goal.returns
returns c =
    let many : c.len-index-end.result ≡ length c.args.self.now.rows = rw (← c.self.view_is) (c.len-index-end.ensures ∙ c.self.inside.rows.ok.0) in
    let ends : c.loop-index.index ≡ length c.args.self.now.rows = omega (arith, many, c.loop-index.auto.index-end, c.loop-index-test.false) in
    let P : ℕ → Type 0 = λ n. IsLeaving c.args.self.now n c.loop-index.left.items in
    leaving_ends c.args.self.now c.loop-index.left.items (subst P ends c.loop-index.invariant.leaving)
