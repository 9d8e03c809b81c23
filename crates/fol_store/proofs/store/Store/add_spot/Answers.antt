use Rattle.std.proofs.Common.{◌≡◌, ◌+◌, length, arith, vec_len}
use Rattle.fol_store.specs.contracts.store.Store.{the_view}
use Rattle.fol_store.specs.Stock.{Stock}
use Rattle.fol_store.proofs.Arriving.{Changed, spot_added}
use Rattle.fol_store.proofs.store.Store.add_spot.Goals as goal

step : (c : goal.In_ok-add) → Changed (the_view c.self.inside) (let t : Stock = record (the_view c.self.inside) { spots = c.add.new.spots.items } in t)
step c =
    let last : vec_len c.self.inside.spots ≡ length c.self.inside.spots.items = omega arith in
    let one : vec_len c.add.new.spots ≡ vec_len c.self.inside.spots + 1 = c.in_ok-add.ensures.len in
    let long : length c.add.new.spots.items ≡ vec_len c.self.inside.spots + 1 = omega arith in
    spot_added (the_view c.self.inside) c.add.new.spots.items (vec_len c.self.inside.spots) c.in_ok-add.ensures.spots c.in_ok-add.ensures.things c.in_ok-add.ensures.tasks last long c.self.invariant

pub invariant_of-self-2 : goal.invariant_of-self-2
invariant_of-self-2 c = (step c).sound

pub returns-clause-same : goal.returns-clause-same
returns-clause-same c = rw (← c.self.view_is) (step c).same
