use Rattle.std.proofs.Common.{◌≡◌, ℕ, refl, sym, ◌∙◌, ap, arith, Bool, true, false, [], cond, length}
use Rattle.std.specs.Prelude.{nat_eq}
use Rattle.std.proofs.lemmas.List.{get_or_past}
use Rattle.fol_lists.specs.Numbered.{list_at}
use Rattle.fol_region_tables.specs.Book.{behind_of, rows_of}
use Rattle.fol_region_tables.specs.Slots.{slot_of}
use Rattle.fol_region_tables.proofs.tables.Tables.size_alone.Goals as goal
use Rattle.fol_region_tables.proofs.tables.Tables.size_alone.Goals.{else-slot-room-via-then-slot-room+else-is_empty, else-slot-room-via-else-slot-room}

pub returns-then-is_empty : goal.returns-then-is_empty
unfolding behind_of rows_of
returns-then-is_empty c =
    let t = c.self.inside in
    let behind = c.get.ensures ∙ ap (list_at t.behind) c.find-slot.ensures in
    let none : nat_eq (length (list_at t.behind (slot_of t.slots c.args.id))) 0 ≡ true = ap (λ xs. nat_eq (length xs) 0) (sym behind) ∙ sym c.is_empty.ensures ∙ c.if-is_empty.true in
    let rows = c.get-then-is_empty.ensures ∙ ap (list_at t.rows) c.find-slot.ensures in
    rw (← c.self.view_is, none) (ap length rows)

-- nothing, either way
nothing_else : (x : Bool) (n : ℕ) → n ≡ 0 → 0 ≡ cond x n 0
nothing_else true n e = sym e
nothing_else false n e = refl

pub returns-else-slot-room : goal.returns-else-slot-room
unfolding behind_of rows_of
returns-else-slot-room c =
    let t = c.self.inside in
    elim c.else-slot-room.branch [
      | else-slot-room-via-then-slot-room+else-is_empty w ↦
          let behind = w.get.ensures ∙ ap (list_at t.behind) c.find-slot.ensures in
          let some : nat_eq (length (list_at t.behind (slot_of t.slots c.args.id))) 0 ≡ false = ap (λ xs. nat_eq (length xs) 0) (sym behind) ∙ sym w.is_empty.ensures ∙ w.if-is_empty.false in
          rw (← c.self.view_is, some) refl
      | else-slot-room-via-else-slot-room w ↦
          let past : list_at t.rows c.find-slot.result ≡ [] = get_or_past t.rows.lists c.find-slot.result [] (omega (arith, w.if-slot-room.false, c.room.ensures.room, c.self.invariant.row_numbers)) in
          rw (← c.self.view_is) (nothing_else _ _ (ap length (ap (list_at t.rows) (sym c.find-slot.ensures) ∙ past)))
    ]
