use Rattle.std.proofs.Common.{◌≡◌, ◌<◌, ◌++◌, arith, drop, length, take}
use Rattle.fol_lists.proofs.Views.{all_written, filled_changed, filled_spans, filled_total, length_listed_all, numbered_is}
use Rattle.fol_lists.proofs.lists.Lists.extend.Goals as goal

pub grow-requires-clause-lists : goal.grow-requires-clause-lists
grow-requires-clause-lists g c =
    let s = c.self.inside in
    rw c.deref_mut.ensures.value (filled_spans s.cells.items s.spans.items c.fill.new.spans.items s.numbers c.args.n c.fill.ensures.filled s.room c.self.invariant.0)

pub grow-requires-clause-room : goal.grow-requires-clause-room
grow-requires-clause-room g c =
    let s = c.self.inside in
    let number = rw (← c.self.view_is) at c.requires.number in
    let room = rw (← c.self.view_is) at c.requires.room in
    let low : c.args.n < s.numbers = omega (arith, number, length_listed_all s.cells.items s.spans.items s.numbers c.self.invariant.3.within) in
    rw c.deref_mut.ensures.value (omega (arith, room, filled_total s.cells.items s.spans.items c.fill.new.spans.items s.numbers c.args.n c.fill.ensures.filled low))

pub returns : goal.returns
returns g c =
    let s = c.self.inside in
    let number = rw (← c.self.view_is) at c.requires.number in
    let low : c.args.n < s.numbers = omega (arith, number, length_listed_all s.cells.items s.spans.items s.numbers c.self.invariant.3.within) in
    let same : take c.fill.new.spans.len (c.grow.new.spans ++ drop (length c.grow.new.spans) c.fill.new.spans.items) ≡ c.grow.new.spans = all_written c.grow.new.spans c.fill.new.spans.items c.fill.new.spans.len (omega arith) (omega arith) in
    let grown = rw c.deref_mut.ensures.value at c.grow.ensures.grown in
    rw (same, ← c.self.view_is)
    (numbered_is _ _ s.room (filled_changed s.cells.items s.spans.items c.fill.new.spans.items s.numbers c.args.n c.fill.ensures.filled low c.grow.new.cells.items c.grow.new.spans (λ xs. xs ++ c.args.xs.now) (omega arith) grown))
