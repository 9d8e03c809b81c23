use Rattle.std.specs.Prelude.{ℕ}
use Rattle.atomic_table.specs.Seated.{TableId}
use Rattle.fol_slots.specs.declared.slots.Slots.{Slots}

-- which slots they are
abbrev pub slots_id : {T : Type 0} → Slots T → TableId
slots_id s = s.table.shared.table_id

-- and how many
abbrev pub slot_count : {T : Type 0} → Slots T → ℕ
slot_count s = s.table.shared.table_id.slots
