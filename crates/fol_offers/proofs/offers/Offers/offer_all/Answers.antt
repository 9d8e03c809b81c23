use Rattle.std.proofs.Common.{ℕ, ◌<◌, Option, Some, None, subst}
use Rattle.std.specs.Prelude.{IfSome}
use Rattle.fol_core.specs.Meaning.{Meaning, world_of}
use Rattle.fol_offers.specs.Shown.{OffersNext}
use Rattle.fol_offers.proofs.Offering.{free_fewer, more_next, more_none, more_stays, none_free_stays}
use Rattle.fol_offers.proofs.offers.Offers.offer_all.Goals as goal

pub regions-init : goal.regions-init
regions-init c = more_none c.args.self.now

pub regions-smaller : goal.regions-smaller
regions-smaller c =
    let m : Meaning = c.regions.self.core in
    let n : Meaning = c.offer_next.new.self.core in
    let r : ℕ = c.in-Some._region in
    let next : OffersNext m n (Some r) = subst (λ (o : Option ℕ). OffersNext m n o) c.in-Some.is c.in_ok-_region.ensures.offered in
    let low : r < (world_of m).grid.next = subst (λ (o : Option ℕ). IfSome o (λ (q : ℕ). q < (world_of m).grid.next)) c.in-Some.is c.in_ok-_region.ensures.given in
    free_fewer m n r next.1 low next.2

pub regions-preserved : goal.regions-preserved
regions-preserved c =
    more_next c.args.self.now c.regions.self c.regions.invariant c.offer_next.new.self c.in_ok-_region.field-0 c.offer_next.ensures.slots c.offer_next.ensures.workers c.in_ok-_region.ensures.offered

pub returns-in_err-_region-clause-offered : goal.returns-in_err-_region-clause-offered
returns-in_err-_region-clause-offered c =
    more_stays c.args.self.now c.regions.self c.regions.invariant c.offer_next.new.self c.offer_next.ensures.slots c.offer_next.ensures.workers c.in_err-_region.ensures.refused

pub returns-clause-offered : goal.returns-clause-offered
returns-clause-offered c =
    more_next c.args.self.now c.regions.self c.regions.invariant c.offer_next.new.self c.in_ok-_region.field-0 c.offer_next.ensures.slots c.offer_next.ensures.workers c.in_ok-_region.ensures.offered

pub returns-clause-all : goal.returns-clause-all
returns-clause-all c =
    let m : Meaning = c.regions.self.core in
    let n : Meaning = c.offer_next.new.self.core in
    let next : OffersNext m n None = subst (λ (o : Option ℕ). OffersNext m n o) c.in_default.is c.in_ok-_region.ensures.offered in
    none_free_stays m n next.0 next.1
