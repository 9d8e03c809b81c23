-- Which seats of a world hold no tick.
use Rattle.std.proofs.Common.{◌≡◌, ℕ, zero, suc, refl, sym, ◌∙◌, ap, arith, List, get_or}
use Rattle.std.specs.Prelude.{All, None}
use Rattle.std.proofs.lemmas.Option.{get_or_from_slice_get}
use Rattle.fol_model.specs.declared.openings.Opening.{Opening}
use Rattle.fol_slots.specs.Shown.{Worker}
use Rattle.fol_offers.specs.Offered.{Offered}
use Rattle.fol_live.specs.Calls.{Misses}
use Rattle.fol_live.specs.Hands.{tick_in}
use Rattle.fol_live.specs.Seat.{LiveId, Shown, held, held_in}
use Rattle.fol_live.specs.Seats.{AreNewSeats, new_hand, newcomer}

pub new_holds_none : (l : LiveId) (k : ℕ) → held_in (new_hand l k) ≡ None
new_holds_none l zero = refl
new_holds_none l (suc k) = refl

-- those of a world that was just started
pub are_free : (l : LiveId) (o : Opening) (count : ℕ) (seats : List Shown) → AreNewSeats l o count seats → All (λ (s : Shown). (s.lock ≡ l) × (held s ≡ None)) seats
are_free l o count seats new k d low =
    let as_many = new.as_many in
    let is : get_or seats k d ≡ newcomer l o k = get_or_from_slice_get seats k (newcomer l o k) d (new.each k (omega arith)) in
    (ap (λ (s : Shown). s.lock) is, ap held is ∙ new_holds_none l k)

-- one that held none and found none
pub free_still : (old new : Shown) → held old ≡ None → Misses old new → held new ≡ None
free_still old new free did = ap held did.is ∙ ap (λ (w : Worker Offered). tick_in w.claimed) did.misses.misses.is ∙ sym (ap held_in did.was) ∙ free
