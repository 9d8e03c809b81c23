use Rattle.std.proofs.Common.{ℕ, List, sym, subst}
use Rattle.fol_slots.specs.Shown.{Keeper, new_keeper}
use Rattle.fol_slots.specs.Table.{slots_id}
use Rattle.fol_offers.specs.Offered.{Offered}
use Rattle.fol_offers.specs.Tied.{Tied}
use Rattle.fol_offers.proofs.Tying.{tied_start}
use Rattle.fol_offers.proofs.offers.Offers.start.Goals as goal

pub invariant_of-offers : goal.invariant_of-offers
invariant_of-offers c =
    let made = c.in-Ok.ensures in
    let z = slots_id c.in-Ok.slots.slots in
    subst (λ (k : Keeper Offered). Tied c.args.core k c.in-Ok.places) (sym made.keeper)
    (subst (λ (xs : List ℕ). Tied c.args.core (new_keeper z made.bodies c.args.workers) xs) (sym made.places)
    (tied_start c.args.core z made.bodies c.args.workers c.args.count c.requires.grid c.requires.turns c.requires.none c.requires.idle made.count_is made.length_is c.requires.count.1 made.none))
