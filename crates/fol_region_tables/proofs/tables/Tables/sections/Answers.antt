use Rattle.std.proofs.Common.{◌≡◌, sym, ◌∙◌, ap, arith, []}
use Rattle.std.proofs.lemmas.List.{get_or_past}
use Rattle.fol_lists.specs.Numbered.{list_at}
use Rattle.fol_region_tables.specs.Book.{rows_of}
use Rattle.fol_region_tables.proofs.tables.Tables.sections.Goals as goal

pub returns-then-slot-room : goal.returns-then-slot-room
unfolding rows_of
returns-then-slot-room c = rw (← c.self.view_is) (c.get.ensures ∙ ap (list_at c.self.inside.rows) c.find-slot.ensures)

pub returns-else-slot-room : goal.returns-else-slot-room
unfolding rows_of
returns-else-slot-room c =
    let past : list_at c.self.inside.rows c.find-slot.result ≡ [] = get_or_past c.self.inside.rows.lists c.find-slot.result [] (omega (arith, c.if-slot-room.false, c.room.ensures.room, c.self.invariant.row_numbers)) in
    rw (← c.self.view_is) (sym past ∙ ap (list_at c.self.inside.rows) c.find-slot.ensures)
