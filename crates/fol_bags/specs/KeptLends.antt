-- What is lent of the place where a bag lies.
use Rattle.std.specs.Prelude.{Option}
use Rattle.std.specs.Borrow.{LendsIf, MutBor, Fml}
use Rattle.fol_bags.specs.declared.slot.Slot.{Slot}
use Rattle.fol_bags.specs.contracts.slot.Slot.{the_row as slot_row}
use Rattle.fol_bags.specs.contracts.kept.Kept.{the_row}

-- at the end of the loan the bag is the one that was last written
abbrev pub LendsBag : MutBor Slot → Option (MutBor Slot) → Fml
LendsBag kept lent = LendsIf the_row slot_row kept lent (λ written. written) kept.now
