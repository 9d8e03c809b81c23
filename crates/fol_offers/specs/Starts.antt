-- New slots, and a core that they may be tied to.
use Rattle.std.specs.Prelude.{ℕ, ◌≡◌, ◌≢◌, All, List, length, replicate}
use Rattle.fol_model.specs.declared.regions.State.TheVariants.{Ticking}
use Rattle.fol_model.specs.World.{World}
use Rattle.fol_slots.specs.declared.slots.SlotsAndSeats.{SlotsAndSeats}
use Rattle.fol_slots.specs.Shown.{AreNew, new_keeper}
use Rattle.fol_slots.specs.Table.{slots_id, slot_count}
use Rattle.fol_offers.specs.Offered.{Offered, nothing}

-- no region ticks
abbrev pub NoneTicks : World → Type 0
NoneTicks w = (r : ℕ) → w.grid.state r ≢ Ticking

-- so many slots, all kept with nothing in them and none of them in use, and seats of so many workers
pub record AreNewSlots (count workers : ℕ) (made : SlotsAndSeats Offered × List ℕ) : Type 0 where
  pub bodies : List Offered
  pub length_is : length bodies ≡ count
  pub none : All (λ b. b ≡ nothing) bodies
  pub count_is : slot_count made.0.slots ≡ count
  pub keeper : made.0.keeper ≡ new_keeper (slots_id made.0.slots) bodies workers
  pub seats : AreNew (slots_id made.0.slots) workers made.0.seats
  pub places : made.1 ≡ replicate count 0
