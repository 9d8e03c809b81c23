use Rattle.std.proofs.Common.{arith}
use Rattle.std.proofs.lemmas.List.{with_items_is}
use Rattle.fol_regions.proofs.dead_bounds.DeadBounds.note_died.Goals as goal

pub returns : goal.returns
returns c = λ r p.
    let known = with_items_is c.self.inside.known c.note_list.new.known (omega arith) in
    let n = rw c.deref_mut.ensures.value at (c.note_list.ensures r p) in
    rw (known, ← c.self.view_is) n
