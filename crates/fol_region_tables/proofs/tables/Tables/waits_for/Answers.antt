use Rattle.std.proofs.Common.{◌≡◌, sym, ◌∙◌, ap, arith, []}
use Rattle.std.proofs.lemmas.List.{get_or_past}
use Rattle.fol_lists.specs.Numbered.{list_at}
use Rattle.fol_region_tables.specs.Book.{ahead_of}
use Rattle.fol_region_tables.proofs.tables.Tables.waits_for.Goals as goal

pub returns-then-slot-room : goal.returns-then-slot-room
unfolding ahead_of
returns-then-slot-room c = rw (← c.self.view_is) (c.get.ensures ∙ ap (list_at c.self.inside.ahead) c.find-slot.ensures)

pub returns-else-slot-room : goal.returns-else-slot-room
unfolding ahead_of
returns-else-slot-room c =
    let past : list_at c.self.inside.ahead c.find-slot.result ≡ [] = get_or_past c.self.inside.ahead.lists c.find-slot.result [] (omega (arith, c.if-slot-room.false, c.room.ensures.room, c.self.invariant.ahead_numbers)) in
    rw (← c.self.view_is) (sym past ∙ ap (list_at c.self.inside.ahead) c.find-slot.ensures)
