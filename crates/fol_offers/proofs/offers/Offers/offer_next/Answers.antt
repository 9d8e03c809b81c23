use Rattle.std.proofs.Common.{rules, ◌<◌, subst}
use Rattle.fol_core.specs.Meaning.{world_of}
use Rattle.fol_offers.specs.Shown.{Shown}
use Rattle.fol_offers.proofs.Facts.{free_given}
use Rattle.fol_offers.proofs.offers.Offers.offer_next.Goals as goal

pub returns-clause-given : goal.returns-clause-given
returns-clause-given c =
    let r = c.in-Some.region in
    subst (λ (v : Shown). r < (world_of v.core).grid.next) c.self.view_is (free_given c.self.inside.core r c.self.invariant.grid (search rules) (search rules)).below
