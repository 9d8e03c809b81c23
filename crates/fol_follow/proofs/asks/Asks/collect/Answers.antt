use Rattle.std.proofs.Common.{◌≡◌, ◌≢◌, ℕ, suc, ◌+◌, sym, ◌∙◌, ap, subst, List, true, None}
use Rattle.std.specs.Prelude.{slice_get, IsNone}
use Rattle.fol_follow.specs.declared.entries.Visit.{Visit}
use Rattle.fol_follow.specs.Table.{count_of, waits_for}
use Rattle.fol_follow.specs.Visits.{visit_in}
use Rattle.fol_follow.proofs.Collecting.{IsCollecting, chain_goes_on, collecting_begins, not_found}
use Rattle.fol_follow.proofs.asks.Asks.collect.Goals as goal

pub loop-number-init : goal.loop-number-init
loop-number-init c = collecting_begins c.args.self.now.rows c.args.place _ c.head-number.result c.args.visits.now.items c.head-number.ensures c.requires.distinct

pub loop-number-preserved : goal.loop-number-preserved
loop-number-preserved c =
    let P : List Visit → Type 0 = λ vs. IsCollecting c.args.self.now.rows c.args.place (c.count-due.result + 1) c.row-row.result.before c.args.visits.now.items vs in
    let due : count_of c.args.self.now c.args.place.id + 1 ≡ c.count-due.result + 1 = ap (λ (n : ℕ). n + 1) (sym c.count-due.ensures) in
    let Q : ℕ → Type 0 = λ d. (k : ℕ) → waits_for c.args.place.id d (slice_get c.args.self.now.rows k) ≡ true → IsNone (visit_in c.args.visits.now.items (suc k)) in
    let apart = subst Q due c.requires.apart in
    subst P (sym c.in_ok-push.ensures.items)
    (chain_goes_on c.args.self.now.rows c.args.place (c.count-due.result + 1) c.loop-number.number c.row-row.result c.args.visits.now.items c.loop-number.visits.items c.loop-number-test.true c.loop-number.invariant
    (λ k w. not_found c.args.visits.now.items (suc k) (apart k w)) c.row-row.ensures.found c.row-row.ensures.before).0
