use Rattle.std.proofs.Common.{◌≡◌, List, ◌||◌, sym, ◌∙◌, ap, ◌<◌, ◌≤◌, length, get_or}
use Rattle.std.specs.List.Sorted.{IsPartitionPoint}
use Rattle.std.specs.declared.cmp.Ordering.TheVariants.{Less, Greater}
use Rattle.fol_model.specs.declared.places.ChunkPos.{ChunkPos}
use Rattle.fol_model.specs.Geometry.{same_chunk}
use Rattle.fol_keyed.specs.Members.{is_listed}
use Rattle.fol_keyed.specs.Order.{chunk_cmp}
use Rattle.fol_keyed.proofs.Answers.{on_ok}
use Rattle.fol_keyed.proofs.OneMore.{recorded_there, recorded_between, recorded_where}
use Rattle.fol_keyed.proofs.Pending.{changed_has, changed_rises, changes_back, list_in_order, pending_come}
use Rattle.fol_keyed.proofs.chunk_set.ChunkSet.widen.Goals as goal

pub place_of-requires : goal.place_of-requires
place_of-requires c = rw c.deref.ensures.value (list_in_order c.self.inside.list.items c.self.inside.changes.items _ c.self.invariant (rw (← c.self.view_is) at c.requires))

pub come-requires-clause-order : goal.come-requires-clause-order
come-requires-clause-order c = list_in_order c.self.inside.list.items c.self.inside.changes.items _ c.self.invariant (rw (← c.self.view_is) at c.requires)

pub returns-in-Ok-clause-order : goal.returns-in-Ok-clause-order
returns-in-Ok-clause-order c =
    changed_rises c.self.inside.list.items c.take_back.new.changes.items
    (list_in_order c.self.inside.list.items c.self.inside.changes.items _ c.self.invariant (rw (← c.self.view_is) at c.requires)) c.take_back.ensures.order

pub returns-in-Ok-clause-has : goal.returns-in-Ok-clause-has
returns-in-Ok-clause-has c = λ q.
    let at : (c.in-Ok.field-0 < length c.self.inside.list.items) × ((d : ChunkPos) → get_or c.self.inside.list.items c.in-Ok.field-0 d ≡ c.args.c) = rw c.deref.ensures.value at c.in-Ok.ensures in
    let there = recorded_where c.self.inside.list.items c.in-Ok.field-0 c.args.c at.0 at.1 in
    let was = ap (λ (l : List ChunkPos). is_listed l q) (sym c.self.view_is) ∙ changed_has c.self.inside.list.items c.self.inside.changes.items c.self.invariant.changes_rise q in
    changed_has c.self.inside.list.items c.take_back.new.changes.items c.take_back.ensures.order q
    ∙ changes_back c.self.inside.list.items c.self.inside.changes.items c.args.c q c.take_back.new.changes.items (c.take_back.ensures.has q) there
    ∙ ap (λ a. a || same_chunk c.args.c q) (sym was)

pub returns-in-Ok-place_of-clause-has : goal.returns-in-Ok-place_of-clause-has
returns-in-Ok-place_of-clause-has c = λ q.
    let at : (c.in-Err.i ≤ length c.self.inside.list.items) × IsPartitionPoint (λ q. chunk_cmp q c.args.c ≡ Less) (λ q. chunk_cmp q c.args.c ≡ Greater) c.self.inside.list.items c.in-Err.i = rw c.deref.ensures.value at c.in-Err.ensures in
    let none = recorded_between c.self.inside.list.items c.in-Err.i c.args.c at.1 in
    let also : (c.in-Ok-place_of.field-0 < length c.self.inside.changes.items) × ((d : ChunkPos) → get_or c.self.inside.changes.items c.in-Ok-place_of.field-0 d ≡ c.args.c) = rw c.deref-in-Err.ensures.value at c.in-Ok-place_of.ensures in
    let waits = recorded_where c.self.inside.changes.items c.in-Ok-place_of.field-0 c.args.c also.0 also.1 in
    let was = ap (λ (l : List ChunkPos). is_listed l c.args.c) (sym c.self.view_is) ∙ changed_has c.self.inside.list.items c.self.inside.changes.items c.self.invariant.changes_rise c.args.c in
    recorded_there c.args.self.now c.args.c q (was ∙ pending_come c.self.inside.list.items c.self.inside.changes.items c.args.c none waits)

pub returns-in-Err-place_of-clause-order : goal.returns-in-Err-place_of-clause-order
returns-in-Err-place_of-clause-order c =
    on_ok c.come.result _ _ c.come.ensures.has (λ h. changed_rises c.come.new.list.items c.come.new.changes.items c.come.ensures.order c.come.ensures.pending.changes_rise)

pub returns-in-Err-place_of-clause-has : goal.returns-in-Err-place_of-clause-has
returns-in-Err-place_of-clause-has c =
    on_ok c.come.result _ _ c.come.ensures.has (λ h q.
    let was = ap (λ (l : List ChunkPos). is_listed l q) (sym c.self.view_is) ∙ changed_has c.self.inside.list.items c.self.inside.changes.items c.self.invariant.changes_rise q in
    changed_has c.come.new.list.items c.come.new.changes.items c.come.ensures.pending.changes_rise q
    ∙ h q
    ∙ ap (λ a. a || same_chunk c.args.c q) (sym was))
