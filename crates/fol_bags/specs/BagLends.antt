-- What is lent of the bags by region.
use Rattle.std.specs.Prelude.{ℕ, slice_set, Option}
use Rattle.std.specs.Borrow.{Lends, LendsIf, MutBor, Fml}
use Rattle.fol_bags.specs.declared.slot.Slot.{Slot}
use Rattle.fol_bags.specs.Slots.{BagRows}
use Rattle.fol_bags.specs.contracts.slot.Slot.{the_row as slot_row}
use Rattle.fol_bags.specs.contracts.bags.Bags.{the_row}

-- with another bag for this id
abbrev pub with_slot : BagRows → ℕ → Slot → BagRows
with_slot bags id written = record bags { items = slice_set bags.items id written }

-- at the end of the loan the id has the bag that was last written, and all other bags are as before
abbrev pub LendsSlot : MutBor BagRows → ℕ → MutBor Slot → Fml
LendsSlot bags id lent = Lends the_row slot_row bags lent (with_slot bags.now id)

-- the same where there is a bag to lend
abbrev pub LendsSlotIf : MutBor BagRows → ℕ → Option (MutBor Slot) → Fml
LendsSlotIf bags id lent = LendsIf the_row slot_row bags lent (with_slot bags.now id) bags.now
