use Rattle.std.proofs.Common.{rules, ◌≡◌, ◌<◌, true, subst}
use Rattle.fol_core.specs.Meaning.{is_prepared, world_of}
use Rattle.fol_offers.specs.Places.{region_at}
use Rattle.fol_offers.specs.Shown.{Shown}
use Rattle.fol_offers.proofs.Facts.{prepared_below}
use Rattle.fol_offers.proofs.offers.Offers.offered_from.Goals as goal

pub returns-in-Some-found-clause-given : goal.returns-in-Some-found-clause-given
returns-in-Some-found-clause-given c =
    let r = region_at c.regions-regions.result.now c.in-Some-found.i in
    let marked : is_prepared c.self.inside.core r ≡ true = search rules in
    subst (λ (v : Shown). r < (world_of v.core).grid.next) c.self.view_is (prepared_below c.self.inside.core c.self.inside.keeper c.self.inside.places r c.self.invariant (search rules) marked)
