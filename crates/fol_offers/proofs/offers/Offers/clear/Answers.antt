use Rattle.std.proofs.Common.{◌≡◌, ◌∙◌, ◌&&◌, ap, ℕ, List, nat_eq, subst, sym, true≢false}
use Rattle.std.specs.List.{filter}
use Rattle.fol_model.specs.GridState.{is_ready}
use Rattle.fol_model.specs.Universe.{numbers_below}
use Rattle.fol_core.specs.Ahead.{NonePrepared, PreparedAreReady, may_touch}
use Rattle.fol_core.specs.Meaning.{Meaning, world_of}
use Rattle.fol_tick_laws.specs.Touching.{lists}
use Rattle.fol_offers.specs.Shown.{CallsBack, Shown}
use Rattle.fol_offers.proofs.CalledBack.{back_alone, back_listed, back_none}
use Rattle.fol_offers.proofs.offers.Offers.clear.Goals as goal

pub returns-clause-ok : goal.returns-clause-ok
returns-clause-ok c =
    let was : Shown = record { core = c.self.inside.core; slots = c.self.inside.keeper.slots; workers = c.self.inside.keeper.workers } in
    let same : record was { core = c.touched.new.self } ≡ c.args.self.now = ap (λ (m : Meaning). record was { core = m }) c.touched.ensures.same ∙ c.self.view_is in
    back_listed c.args.self.now c.call_all_back.new.self c.args.by c.args.c c.in_ok-touched.touched.items
    (subst (λ (v : Shown). PreparedAreReady v.core) c.self.view_is c.touched.ensures.ready)
    (subst (λ (v : Shown). c.in_ok-touched.touched.items ≡ filter (may_touch (world_of v.core) c.args.c) (numbers_below (world_of v.core).grid.next)) c.self.view_is c.in_ok-touched.ensures.listed)
    (subst (λ (xs : List ℕ). CallsBack c.args.self.now c.call_all_back.new.self c.args.by (lists xs)) c.as_slice.ensures.value
    (subst (λ (v : Shown). CallsBack v c.call_all_back.new.self c.args.by (lists c.as_slice.result.now)) same c.call_all_back.ensures))

pub returns-in-Some-clause-ok : goal.returns-in-Some-clause-ok
returns-in-Some-clause-ok c = back_alone c.args.self.now c.call_back_one.new.self c.args.by c.args.c c.in-Some.region
    (subst (λ (v : Shown). PreparedAreReady v.core) c.self.view_is c.touched_alone.ensures.ready)
    (subst (λ (v : Shown). (r : ℕ) → may_touch (world_of v.core) c.args.c r ≡ (is_ready ((world_of v.core).grid.state r) && nat_eq c.in-Some.region r)) c.self.view_is c.in-Some.ensures.alone)
    c.call_back_one.ensures

pub returns-then-prepared_count-eq0-clause-ok : goal.returns-then-prepared_count-eq0-clause-ok
returns-then-prepared_count-eq0-clause-ok c =
    let none : NonePrepared c.args.self.now.core = subst (λ (v : Shown). NonePrepared v.core) c.self.view_is (c.prepared_count.ensures.none c.if-prepared_count-eq0.true) in
    back_none c.args.self.now c.args.by (may_touch (world_of c.args.self.now.core) c.args.c) (λ r on. absurd (true≢false (sym on ∙ none r)))
