use Rattle.std.proofs.Common.{◌≡◌, ◌<◌, ◌≤◌, length, get_or}
use Rattle.std.specs.List.Sorted.{IsPartitionPoint}
use Rattle.std.specs.declared.cmp.Ordering.TheVariants.{Less, Greater}
use Rattle.fol_model.specs.declared.places.ChunkPos.{ChunkPos}
use Rattle.fol_keyed.specs.Order.{chunk_cmp}
use Rattle.fol_keyed.proofs.OneMore.{order_remove, recorded_between, recorded_remove, recorded_away}
use Rattle.fol_keyed.proofs.chunk_set.take_back.Goals as goal

pub returns-in-Ok-clause-order : goal.returns-in-Ok-clause-order
returns-in-Ok-clause-order c = rw c.remove.ensures.items (order_remove c.args.changes.now.items c.in-Ok.j c.requires)

pub returns-in-Ok-clause-has : goal.returns-in-Ok-clause-has
returns-in-Ok-clause-has c = λ q.
    let at : (c.in-Ok.j < length c.args.changes.now.items) × ((d : ChunkPos) → get_or c.args.changes.now.items c.in-Ok.j d ≡ c.args.c) = rw c.deref.ensures.value at c.in-Ok.ensures in
    rw c.remove.ensures.items (recorded_remove c.args.changes.now.items c.in-Ok.j c.args.c q c.requires at.0 at.1)

pub returns-in-Err-clause-has : goal.returns-in-Err-clause-has
returns-in-Err-clause-has c = λ q.
    let at : (c.in-Err.field-0 ≤ length c.args.changes.now.items) × IsPartitionPoint (λ q. chunk_cmp q c.args.c ≡ Less) (λ q. chunk_cmp q c.args.c ≡ Greater) c.args.changes.now.items c.in-Err.field-0 = rw c.deref.ensures.value at c.in-Err.ensures in
    recorded_away c.args.changes.now.items c.args.c q (recorded_between c.args.changes.now.items c.in-Err.field-0 c.args.c at.1)
