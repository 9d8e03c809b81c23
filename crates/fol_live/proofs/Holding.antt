-- The tick that a worker holds.
use Rattle.std.proofs.Common.{◌≡◌, ap, refl, ℕ}
use Rattle.std.specs.Prelude.{Option, None, Some}
use Rattle.fol_data.specs.declared.tick.Tick.{Tick}
use Rattle.fol_slots.specs.Shown.{Worker}
use Rattle.fol_offers.specs.Offered.{Offered, of_tick}
use Rattle.fol_offers.specs.Ends.{GivesBack}
use Rattle.fol_tick_laws.specs.OpenTicks.{IsOpen}
use Rattle.fol_live.specs.Hands.{GivesUp, IsHand, tick_in}
use Rattle.fol_live.specs.Seat.{held_in}
use Rattle.fol_live.specs.Shown.{Shown, meaning_of}
use Rattle.fol_live.specs.Turns.{HasOpen}

-- a body with a tick in it
pub body_of : (o : Option Offered) (t : Tick) → tick_in o ≡ Some t → o ≡ Some (of_tick t)
body_of None t e = absurd (cc)
body_of (Some x) t e = ap (λ (y : Option Tick). Some (record { tick = y })) e

-- a worker with a tick in its hand holds a slot
pub gives_back : (region : Option ℕ) (w : Worker Offered) (t : Tick) → IsHand region w → GivesUp w t → GivesBack w t
gives_back None w t hand gives = let none = (hand.free refl).1 in let is = gives.is in absurd (let e = rw none at is in cc)
gives_back (Some r) w t hand gives = record {
  slot = (hand.has r refl).slot;
  claimed = gives.claimed;
  is = body_of w.claimed gives.claimed gives.is;
  calls = gives.calls;
  finished = gives.finished;
  ran = gives.ran;
  same = gives.same;
}

-- a worker with none holds none
pub free_hand : (region : Option ℕ) (w : Worker Offered) → IsHand region w → tick_in w.claimed ≡ None → w.slot ≡ None
free_hand None w hand free = (hand.free refl).0
free_hand (Some r) w hand free = let is = (hand.has r refl).claimed in absurd (let e = rw is at free in cc)

pub held_open : (s : Shown) (w : Worker Offered) → HasOpen s w → (t : Tick) → held_in (Some w) ≡ Some t → IsOpen (meaning_of s) (record t { worker = w.number })
held_open s w opened t is = opened t (body_of w.claimed t is)
