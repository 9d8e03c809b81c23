use Rattle.std.proofs.Common.{◌≡◌}
use Rattle.std.specs.Prelude.{ℕ, nat_eq, nat_lt, filter}
use Rattle.std.specs.List.{list_any}
use Rattle.std.specs.List.Sorted.{IsStrictlySortedBy}
use Rattle.std.specs.Ordering.{nat_cmp}
use Rattle.fol_model.specs.Universe.{numbers_below}
use Rattle.fol_region_tables.specs.Book.{is_live}
use Rattle.fol_region_tables.specs.Slots.{slot_of}
use Rattle.fol_region_tables.proofs.LiveSlots.{live_rows}
use Rattle.fol_region_tables.proofs.Results.{ok_both}
use Rattle.fol_region_tables.proofs.tables.Tables.live.Goals as goal

pub returns : goal.returns
returns c =
    rw (← c.self.view_is) (ok_both c.ids.result (λ ids. IsStrictlySortedBy nat_cmp ids.items) (λ ids. (id : ℕ) → list_any (nat_eq id) ids.items ≡ nat_lt (slot_of c.self.inside.slots id) c.self.inside.slots.room)
    (λ ids. ids.items ≡ filter (is_live _) (numbers_below c.self.inside.next)) (λ ids. live_rows _ ids.items c.self.invariant) c.ids.ensures.rising c.ids.ensures.members)
