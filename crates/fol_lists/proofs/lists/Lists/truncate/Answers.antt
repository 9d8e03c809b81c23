use Rattle.std.proofs.Common.{◌≡◌, ◌++◌, arith, drop, length, take}
use Rattle.fol_lists.proofs.Views.{all_written, listed_changed, numbered_is}
use Rattle.fol_lists.proofs.lists.Lists.truncate.Goals as goal

pub invariant_of-self : goal.invariant_of-self
invariant_of-self g c =
    let h = c.self.invariant in
    let same : take c.self.inside.spans.len (c.cut.new.spans ++ drop (length c.cut.new.spans) c.self.inside.spans.items) ≡ c.cut.new.spans = all_written c.cut.new.spans c.self.inside.spans.items c.self.inside.spans.len (omega arith) (omega arith) in
    let lists = rw (c.deref_mut.ensures.value, c.deref.ensures.value) at c.cut.ensures.lists in
    rw same (lists c.self.inside.room h.0, h.1, h.2, record { within = omega (arith, h.3.within); memory = h.3.memory })

pub returns : goal.returns
returns g c =
    let s = c.self.inside in
    let same : take s.spans.len (c.cut.new.spans ++ drop (length c.cut.new.spans) s.spans.items) ≡ c.cut.new.spans = all_written c.cut.new.spans s.spans.items s.spans.len (omega arith) (omega arith) in
    let cuts = rw (c.deref_mut.ensures.value, c.deref.ensures.value) at c.cut.ensures.cut in
    rw (same, ← c.self.view_is) (numbered_is _ _ s.room (listed_changed s.cells.items s.cells.items s.spans.items c.cut.new.spans s.numbers c.args.n (take c.args.len) (omega arith) (omega arith) cuts))
