use Rattle.std.proofs.Common.{◌∙◌, sym, ap, subst}
use Rattle.std.specs.Prelude.{Option}
use Rattle.atomic_table.specs.Seated.{TableId}
use Rattle.fol_slots.specs.Shown.{Worker}
use Rattle.fol_offers.specs.Offered.{Offered}
use Rattle.fol_live.specs.Seat.{HasHand, IsOf, held, held_in, origin_of}
use Rattle.fol_live.proofs.live.Live.try_begin.Goals as goal

pub claim-requires-clause-free : goal.claim-requires-clause-free
claim-requires-clause-free c = ap held_in (sym c.in-Some.is) ∙ ap held c.seat.view_is ∙ c.requires.free

pub claim-requires-clause-count : goal.claim-requires-clause-count
claim-requires-clause-count c =
    let is : IsOf (origin_of c.seat.inside.seat.origin) c.seat.inside.seat.number c.in-Some.hand
    = subst (λ (h : Option (Worker Offered)). HasHand (origin_of c.seat.inside.seat.origin) c.seat.inside.seat.number h) c.in-Some.is c.seat.invariant.1 in
    ap (λ (z : TableId). z.slots) is.slots ∙ is.sized
