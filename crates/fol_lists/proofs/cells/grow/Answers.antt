use Rattle.std.proofs.Common.{arith}
use Rattle.fol_lists.specs.declared.spans.Span.{Span}
use Rattle.fol_lists.proofs.Pieces.{length_at, length_listed_at}
use Rattle.fol_lists.proofs.cells.grow.Goals as goal

pub overflow_mul-len : goal.overflow_mul-len
overflow_mul-len g c =
    let d : Span = record { from = 0; to = 0; end = 0 } in
    let long = length_at c.args.cells.now.items c.args.spans.now c.args.n d c.requires.number c.requires.lists.fit in
    omega (arith, long, length_listed_at c.args.cells.now.items c.args.spans.now c.args.n c.requires.number, c.requires.room, c.requires.memory.few)

pub make_room-requires-clause-more : goal.make_room-requires-clause-more
make_room-requires-clause-more g c =
    let d : Span = record { from = 0; to = 0; end = 0 } in
    let long = length_at c.args.cells.now.items c.args.spans.now c.args.n d c.requires.number c.requires.lists.fit in
    omega (arith, long, length_listed_at c.args.cells.now.items c.args.spans.now c.args.n c.requires.number, c.requires.room)
