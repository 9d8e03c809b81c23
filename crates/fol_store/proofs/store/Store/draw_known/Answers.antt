use Rattle.std.proofs.Common.{◌≡◌, true, sym, ◌∙◌}
use Rattle.fol_store.specs.contracts.store.Store.{the_view}
use Rattle.fol_bags.specs.Places.{is_bag}
use Rattle.fol_store.specs.Stock.{place}
use Rattle.fol_bags.proofs.PlaceSteps.{bag-from_is}
use Rattle.fol_store.proofs.store.Store.draw_known.Goals as goal

pub draw_rest-requires-clause-home : goal.draw_rest-requires-clause-home
draw_rest-requires-clause-home c =
    let e : is_bag c.args.id (place (the_view c.self.inside) c.args.c) ≡ true = rw c.at.ensures at (sym c.has_bag.ensures ∙ c.if-has_bag.true) in
    rw (← c.self.view_is) (bag-from_is (place (the_view c.self.inside) c.args.c) c.args.id e)
