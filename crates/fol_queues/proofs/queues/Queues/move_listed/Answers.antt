use Rattle.std.proofs.Common.{◌≡◌, ◌+◌, ◌++◌, take, drop, length, ◌∙◌, ap, refl, arith, w64}
use Rattle.std.specs.Prelude.{All, IsTrue}
use Rattle.std.proofs.lemmas.Int.{to_z-of_z}
use Rattle.std.proofs.lemmas.List.Sorted.{All-permutation, IsPermutation-trans, length_permutation}
use Rattle.fol_keyed.specs.Parted.{Parted}
use Rattle.fol_keyed.proofs.Written.{written}
use Rattle.fol_queues.specs.declared.dated.Dated.{Dated}
use Rattle.fol_queues.specs.Again.{with_again}
use Rattle.fol_queues.specs.Waiting.{lies_listed, raised, IsRaisable}
use Rattle.fol_queues.specs.Parted.{MovedInto}
use Rattle.fol_queues.proofs.Coming.{length_with_again, permuted_count, without_again}
use Rattle.fol_queues.proofs.Parting.{moved_before, parted_again}
use Rattle.fol_queues.proofs.Turns.{heap_stays, heap_to, restored}
use Rattle.fol_queues.proofs.Queued.{left_of, left_distinct, passing_raisable, moves_into, moves_distinct, moves_len}
use Rattle.fol_queues.proofs.queues.Queues.move_listed.Goals as goal

-- how many the other queue's heap has, once those that came back are in it
counted : (c : goal.After-move_listed-arg-2-1) → length c.put_back-2.new.tasks.items ≡ length c.into.inside.tasks.items + length c.into.inside.again.items
counted c = length_permutation _ _ c.put_back-2.ensures.back ∙ length_with_again c.into.inside.tasks.items c.into.inside.again.items c.into.inside.deadline

pub move_listed-requires-clause-room : goal.move_listed-requires-clause-room
move_listed-requires-clause-room c =
    let room = rw (← c.self.view_is, ← c.into.view_is) at c.requires.room in
    let same = permuted_count (lies_listed c.args.chunks.now) _ _ c.put_back.ensures.back in
    rw c.of-list.ensures (omega (arith, room, same, counted c, c.into.invariant.room, c.put_back-2.ensures.capacity))

pub move_listed-requires-clause-deadlines : goal.move_listed-requires-clause-deadlines
move_listed-requires-clause-deadlines c =
    let ready : All (λ (d : Dated). IsTrue (lies_listed c.args.chunks.now d) → IsRaisable c.args.offset d) c.put_back.new.tasks.items =
    All-permutation (λ (d : Dated). IsTrue (lies_listed c.args.chunks.now d) → IsRaisable c.args.offset d) _ _ c.put_back.ensures.back (passing_raisable _ (lies_listed c.args.chunks.now) c.args.offset c.self.invariant.distinct (rw (← c.self.view_is) at c.requires.deadlines)) in
    rw (c.of-list.ensures, to_z-of_z w64 c.args.offset c.ranges.offset) ready

pub restore-requires : goal.restore-requires
restore-requires c = record { bound = omega (arith, (moves_len _ _ _ _ _ _ c.move_listed.ensures.moved).1, c.deref_mut-2.ensures.len) }

-- the tasks of the other queue, once they are a heap again
whole : (c : goal.After-into-1) → take c.move_listed.new.into.len (c.restore.new.tasks ++ drop (length c.restore.new.tasks) c.move_listed.new.into.items) ≡ c.restore.new.tasks
whole c = written c.move_listed.new.into.len c.restore.new.tasks c.move_listed.new.into.items (omega arith) (omega arith)

all : (c : goal.After-into-1) → with_again (take c.move_listed.new.into.len (c.restore.new.tasks ++ drop (length c.restore.new.tasks) c.move_listed.new.into.items)) c.put_back-2.new.again.items c.into.inside.deadline ≡ c.restore.new.tasks
all c = without_again _ _ c.into.inside.deadline c.put_back-2.ensures.none ∙ whole c

-- the tasks on the chunks went to the other queue
moved : (c : goal.After-into-1) → MovedInto (lies_listed c.args.chunks.now) (raised c.args.offset) (with_again c.self.inside.tasks.items c.self.inside.again.items c.self.inside.deadline) c.move_listed.new.tasks.items
    (with_again c.into.inside.tasks.items c.into.inside.again.items c.into.inside.deadline) c.restore.new.tasks
moved c =
    let went : MovedInto (lies_listed c.args.chunks.now) (raised c.args.offset) c.put_back.new.tasks.items c.move_listed.new.tasks.items c.put_back-2.new.tasks.items c.move_listed.new.into.items =
    rw (c.of-list.ensures, to_z-of_z w64 c.args.offset c.ranges.offset) at c.move_listed.ensures.moved in
    let h = moved_before (lies_listed c.args.chunks.now) (raised c.args.offset) _ _ _ _ _ _ c.put_back.ensures.back c.put_back-2.ensures.back went in
    record { moved = h.moved; joins = IsPermutation-trans _ _ _ h.joins (rw c.deref_mut-2.ensures.value at c.restore.ensures.same); parted = h.parted }

-- the tasks that stay, once they are a heap again
built : (c : goal.After-into-1) → take c.move_listed.new.tasks.len (c.build.new.tasks ++ drop (length c.build.new.tasks) c.move_listed.new.tasks.items) ≡ c.build.new.tasks
built c = written c.move_listed.new.tasks.len c.build.new.tasks c.move_listed.new.tasks.items (omega arith) (omega arith)

kept : (c : goal.After-into-1) → with_again (take c.move_listed.new.tasks.len (c.build.new.tasks ++ drop (length c.build.new.tasks) c.move_listed.new.tasks.items)) c.put_back.new.again.items c.self.inside.deadline ≡ c.build.new.tasks
kept c = without_again _ _ c.self.inside.deadline c.put_back.ensures.none ∙ built c

parted : (c : goal.After-into-1) → Parted (lies_listed c.args.chunks.now) (with_again c.self.inside.tasks.items c.self.inside.again.items c.self.inside.deadline) c.build.new.tasks (moved c).moved
parted c = parted_again _ _ _ _ _ (moved c).parted (rw c.deref_mut.ensures.value at c.build.ensures.same)

pub invariant_of-self : goal.invariant_of-self
invariant_of-self c = record {
  distinct = rw (kept c) (left_distinct _ (lies_listed c.args.chunks.now) _ _ (parted c) c.self.invariant.distinct);
  heap = rw (built c) c.build.ensures.order;
  rising = rw c.put_back.ensures.none tt;
  room = rw (built c) (omega (arith, ap length c.put_back.ensures.none));
}

pub invariant_of-into : goal.invariant_of-into
invariant_of-into c = record {
  distinct =
      rw (all c) (moves_distinct (lies_listed c.args.chunks.now) (raised c.args.offset) (λ d. refl) _ _ _ _ (moved c) c.self.invariant.distinct c.into.invariant.distinct
      (rw (← c.self.view_is, ← c.into.view_is) at c.requires.apart));
  heap =
      let ordered = c.len-ordered.result in
      let before = heap_to ordered c.put_back-2.new.tasks.items (omega arith) c.put_back-2.ensures.order in
      let first = heap_stays ordered c.put_back-2.new.tasks.items c.move_listed.new.into.items (λ k d l. c.move_listed.ensures.first k d (omega (arith, l))) before in
      rw (whole c) (restored ordered _ c.restore.new.tasks (rw c.deref_mut-2.ensures.value at c.restore.ensures.order) first);
  rising = rw c.put_back-2.ensures.none tt;
  room = rw (whole c) (omega (arith, ap length c.put_back-2.ensures.none));
}

pub returns-clause-stayed : goal.returns-clause-stayed
returns-clause-stayed c = rw (← c.self.view_is, kept c) (left_of _ (lies_listed c.args.chunks.now) _ _ (parted c) c.self.invariant.distinct)

pub returns-clause-moved : goal.returns-clause-moved
returns-clause-moved c =
    rw (← c.self.view_is, ← c.into.view_is, all c)
    (moves_into (lies_listed c.args.chunks.now) (raised c.args.offset) (λ d. refl) _ _ _ _ (moved c) c.self.invariant.distinct c.into.invariant.distinct
    (rw (← c.self.view_is, ← c.into.view_is) at c.requires.apart))

pub returns-clause-len : goal.returns-clause-len
returns-clause-len c =
    let len = moves_len (lies_listed c.args.chunks.now) (raised c.args.offset) _ _ _ _ (moved c) in
    rw (← c.self.view_is, kept c) (omega (arith, len))

pub returns-clause-into_len : goal.returns-clause-into_len
returns-clause-into_len c =
    let len = moves_len (lies_listed c.args.chunks.now) (raised c.args.offset) _ _ _ _ (moved c) in
    rw (← c.self.view_is, ← c.into.view_is, all c) (omega (arith, len))

pub returns-clause-spare : goal.returns-clause-spare
returns-clause-spare c =
    let len = moves_len (lies_listed c.args.chunks.now) (raised c.args.offset) _ _ _ _ (moved c) in
    let total = length_with_again c.self.inside.tasks.items c.self.inside.again.items c.self.inside.deadline in
    rw (← c.self.view_is) (omega (arith, len, total, ap length c.put_back.ensures.none, c.put_back.ensures.capacity, c.move_listed.ensures.capacity))

pub returns-clause-into_spare : goal.returns-clause-into_spare
returns-clause-into_spare c =
    let len = moves_len (lies_listed c.args.chunks.now) (raised c.args.offset) _ _ _ _ (moved c) in
    let total = length_with_again c.into.inside.tasks.items c.into.inside.again.items c.into.inside.deadline in
    rw (← c.self.view_is, ← c.into.view_is) (omega (arith, len, total, ap length c.put_back-2.ensures.none, c.put_back-2.ensures.capacity, c.move_listed.ensures.into_capacity))
