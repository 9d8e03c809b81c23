use Rattle.std.proofs.Common.{◌∙◌, sym, ap}
use Rattle.fol_slots.specs.Shown.{Worker}
use Rattle.fol_offers.specs.Offered.{Offered}
use Rattle.fol_live.specs.Hands.{tick_in}
use Rattle.fol_live.proofs.Holding.{free_hand}
use Rattle.fol_live.proofs.hand.Hand.claim.Goals as goal

pub claim_within-requires-clause-free : goal.claim_within-requires-clause-free
claim_within-requires-clause-free c =
    let here = free_hand c.self.inside.region c.self.inside.worker c.self.invariant (ap (λ (w : Worker Offered). tick_in w.claimed) c.self.view_is ∙ c.requires.free) in
    ap (λ (w : Worker Offered). w.slot) (sym c.self.view_is) ∙ here

pub claim_within-requires-in-None-clause-free : goal.claim_within-requires-in-None-clause-free
claim_within-requires-in-None-clause-free c =
    let here = free_hand c.self.inside.region c.self.inside.worker c.self.invariant (ap (λ (w : Worker Offered). tick_in w.claimed) c.self.view_is ∙ c.requires.free) in
    ap (λ (w : Worker Offered). w.slot) c.in-None.ensures.none.is ∙ ap (λ (w : Worker Offered). w.slot) (sym c.self.view_is) ∙ here
