use Rattle.std.proofs.Common.{◌≡◌, List, not, ◌&&◌, sym, ◌∙◌, ap, ◌<◌, ◌≤◌, length, get_or}
use Rattle.std.specs.List.Sorted.{IsPartitionPoint}
use Rattle.std.specs.declared.cmp.Ordering.TheVariants.{Less, Greater}
use Rattle.fol_model.specs.declared.places.ChunkPos.{ChunkPos}
use Rattle.fol_model.specs.Geometry.{same_chunk}
use Rattle.fol_keyed.specs.Members.{is_listed}
use Rattle.fol_keyed.specs.Order.{chunk_cmp}
use Rattle.fol_keyed.proofs.OneMore.{recorded_away, recorded_between, recorded_where}
use Rattle.fol_keyed.proofs.Pending.{changed_has, changed_rises, changes_less, list_in_order, pending_there}
use Rattle.fol_keyed.proofs.chunk_set.ChunkSet.narrow.Goals as goal

pub place_of-requires : goal.place_of-requires
place_of-requires c = rw c.deref.ensures.value (list_in_order c.self.inside.list.items c.self.inside.changes.items _ c.self.invariant (rw (← c.self.view_is) at c.requires))

pub leave-requires-clause-order : goal.leave-requires-clause-order
leave-requires-clause-order c = list_in_order c.self.inside.list.items c.self.inside.changes.items _ c.self.invariant (rw (← c.self.view_is) at c.requires)

pub returns-in-Err-clause-order : goal.returns-in-Err-clause-order
returns-in-Err-clause-order c =
    changed_rises c.self.inside.list.items c.take_back.new.changes.items
    (list_in_order c.self.inside.list.items c.self.inside.changes.items _ c.self.invariant (rw (← c.self.view_is) at c.requires)) c.take_back.ensures.order

pub returns-in-Err-clause-has : goal.returns-in-Err-clause-has
returns-in-Err-clause-has c = λ q.
    let at : (c.in-Err.field-0 ≤ length c.self.inside.list.items) × IsPartitionPoint (λ q. chunk_cmp q c.args.c ≡ Less) (λ q. chunk_cmp q c.args.c ≡ Greater) c.self.inside.list.items c.in-Err.field-0 = rw c.deref.ensures.value at c.in-Err.ensures in
    let none = recorded_between c.self.inside.list.items c.in-Err.field-0 c.args.c at.1 in
    let was = ap (λ (l : List ChunkPos). is_listed l q) (sym c.self.view_is) ∙ changed_has c.self.inside.list.items c.self.inside.changes.items c.self.invariant.changes_rise q in
    changed_has c.self.inside.list.items c.take_back.new.changes.items c.take_back.ensures.order q
    ∙ changes_less c.self.inside.list.items c.self.inside.changes.items c.args.c q c.take_back.new.changes.items (c.take_back.ensures.has q) none
    ∙ ap (λ a. a && not (same_chunk c.args.c q)) (sym was)

pub returns-in-Ok-place_of-clause-has : goal.returns-in-Ok-place_of-clause-has
returns-in-Ok-place_of-clause-has c = λ q.
    let at : (c.in-Ok.i < length c.self.inside.list.items) × ((d : ChunkPos) → get_or c.self.inside.list.items c.in-Ok.i d ≡ c.args.c) = rw c.deref.ensures.value at c.in-Ok.ensures in
    let there = recorded_where c.self.inside.list.items c.in-Ok.i c.args.c at.0 at.1 in
    let also : (c.in-Ok-place_of.field-0 < length c.self.inside.changes.items) × ((d : ChunkPos) → get_or c.self.inside.changes.items c.in-Ok-place_of.field-0 d ≡ c.args.c) = rw c.deref-in-Ok.ensures.value at c.in-Ok-place_of.ensures in
    let waits = recorded_where c.self.inside.changes.items c.in-Ok-place_of.field-0 c.args.c also.0 also.1 in
    let was = ap (λ (l : List ChunkPos). is_listed l c.args.c) (sym c.self.view_is) ∙ changed_has c.self.inside.list.items c.self.inside.changes.items c.self.invariant.changes_rise c.args.c in
    recorded_away c.args.self.now c.args.c q (was ∙ pending_there c.self.inside.list.items c.self.inside.changes.items c.args.c there waits)

pub returns-in-Err-place_of-clause-order : goal.returns-in-Err-place_of-clause-order
returns-in-Err-place_of-clause-order c = changed_rises c.leave.new.list.items c.leave.new.changes.items c.leave.ensures.order c.leave.ensures.pending.changes_rise

pub returns-in-Err-place_of-clause-has : goal.returns-in-Err-place_of-clause-has
returns-in-Err-place_of-clause-has c = λ q.
    let was = ap (λ (l : List ChunkPos). is_listed l q) (sym c.self.view_is) ∙ changed_has c.self.inside.list.items c.self.inside.changes.items c.self.invariant.changes_rise q in
    changed_has c.leave.new.list.items c.leave.new.changes.items c.leave.ensures.pending.changes_rise q
    ∙ c.leave.ensures.has q
    ∙ ap (λ a. a && not (same_chunk c.args.c q)) (sym was)
