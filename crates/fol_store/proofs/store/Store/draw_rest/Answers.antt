use Rattle.std.proofs.Common.{◌≡◌, sym, ◌∙◌, ap, Some, None}
use Rattle.fol_store.specs.contracts.store.Store.{the_view}
use Rattle.fol_bags.specs.declared.places.Place.{Place}
use Rattle.fol_store.specs.Stock.{place, bag_of}
use Rattle.fol_store.specs.Steps.{IsTarget}
use Rattle.fol_store.proofs.Stepping.{gathered_home}
use Rattle.fol_store.proofs.store.Store.draw_rest.Goals as goal

pub returns-in-None-clause-gathered : goal.returns-in-None-clause-gathered
returns-in-None-clause-gathered c =
    let target : IsTarget c.args.id (bag_of (the_view c.self.inside) c.args.id).chunks (the_view c.self.inside) = rw (← c.self.view_is) at c.requires.target in
    let home : (place (the_view c.self.inside) c.args.c).bag ≡ Some c.args.id = rw (← c.self.view_is) at c.requires.home in
    let no_spot : (place (the_view c.self.inside) c.args.c).spot ≡ None = sym (ap (λ (p : Place). p.spot) c.at.ensures) ∙ c.in-None.is in
    rw (← c.self.view_is) (gathered_home (the_view c.self.inside) c.args.id c.args.c target.empty home no_spot c.self.invariant)
