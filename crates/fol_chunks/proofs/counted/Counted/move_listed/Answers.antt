use Rattle.std.proofs.Common.{◌≡◌, sym, arith}
use Rattle.std.specs.List.{count_by}
use Rattle.std.proofs.lemmas.List.Sums.{count_by-le-length}
use Rattle.fol_model.specs.Geometry.{chunk_of}
use Rattle.fol_model.specs.ActionStep.{Standing}
use Rattle.fol_keyed.specs.Members.{is_listed}
use Rattle.fol_chunks.proofs.EntityLists.{joined_parts, left_rest}
use Rattle.fol_chunks.proofs.Tallies.{all_stay, counted_left, counted_more, in_chunks, none_moved, total_is}
use Rattle.fol_chunks.proofs.counted.Counted.move_listed.Goals as goal

pub move_listed-requires-clause-room : goal.move_listed-requires-clause-room
move_listed-requires-clause-room c =
    let room = rw (← c.self.view_is, ← c.into.view_is) at c.requires.room in
    omega (arith, room, total_is c.self.inside.entities.items c.self.inside.tally.entries c.self.invariant c.args.chunks.now c.requires.chunks)

pub move_listed-requires-clause-few : goal.move_listed-requires-clause-few
move_listed-requires-clause-few c =
    omega (
      arith,
      total_is c.self.inside.entities.items c.self.inside.tally.entries c.self.invariant c.args.chunks.now c.requires.chunks,
      count_by-le-length (in_chunks c.args.chunks.now) c.self.inside.entities.items,
      c.self.inside.entities.ok,
    )

-- ---- some stand in the chunks
pub invariant_of-self : goal.invariant_of-self
invariant_of-self c =
    counted_left c.args.chunks.now c.self.inside.entities.items c.move_listed-then-move_listed-gt0.new.entities.items c.self.inside.tally.entries c.move_listed.new.tally.entries c.self.invariant
    c.move_listed-then-move_listed-gt0.ensures.rest c.move_listed.ensures.left c.move_listed-then-move_listed-gt0.ensures.order

pub invariant_of-into : goal.invariant_of-into
invariant_of-into c =
    counted_more c.args.chunks.now c.self.inside.entities.items c.self.inside.entities.items c.self.inside.tally.entries c.self.inside.tally.entries c.self.invariant
    c.into.inside.entities.items c.move_listed-then-move_listed-gt0.new.into.items c.into.inside.tally.entries c.move_listed.new.into.entries c.into.invariant
    c.move_listed-then-move_listed-gt0.ensures.parts c.move_listed.ensures.moved c.move_listed-then-move_listed-gt0.ensures.into_order

pub returns-then-move_listed-gt0-clause-left : goal.returns-then-move_listed-gt0-clause-left
returns-then-move_listed-gt0-clause-left c = rw (← c.self.view_is) c.move_listed-then-move_listed-gt0.ensures.left

pub returns-then-move_listed-gt0-clause-moved : goal.returns-then-move_listed-gt0-clause-moved
returns-then-move_listed-gt0-clause-moved c = rw (← c.self.view_is, ← c.into.view_is) c.move_listed-then-move_listed-gt0.ensures.moved

pub returns-then-move_listed-gt0-clause-into_spare : goal.returns-then-move_listed-gt0-clause-into_spare
returns-then-move_listed-gt0-clause-into_spare c =
    rw (← c.self.view_is, ← c.into.view_is)
    (omega (
      arith,
      c.move_listed-then-move_listed-gt0.ensures.into_len,
      c.move_listed.ensures.into_spare,
      c.move_listed-then-move_listed-gt0.ensures.into_capacity,
      total_is c.self.inside.entities.items c.self.inside.tally.entries c.self.invariant c.args.chunks.now c.requires.chunks,
    ))

-- ---- none does
pub invariant_of-self-else-move_listed-gt0 : goal.invariant_of-self-else-move_listed-gt0
invariant_of-self-else-move_listed-gt0 c =
    let none : count_by (in_chunks c.args.chunks.now) c.self.inside.entities.items ≡ 0 =
    omega (arith, c.move_listed.ensures.total, total_is c.self.inside.entities.items c.self.inside.tally.entries c.self.invariant c.args.chunks.now c.requires.chunks) in
    counted_left c.args.chunks.now c.self.inside.entities.items c.self.inside.entities.items c.self.inside.tally.entries c.move_listed.new.tally.entries c.self.invariant
    (sym (all_stay (in_chunks c.args.chunks.now) c.self.inside.entities.items none)) c.move_listed.ensures.left c.self.invariant.order

pub invariant_of-into-else-move_listed-gt0 : goal.invariant_of-into-else-move_listed-gt0
invariant_of-into-else-move_listed-gt0 c =
    let none : count_by (in_chunks c.args.chunks.now) c.self.inside.entities.items ≡ 0 =
    omega (arith, c.move_listed.ensures.total, total_is c.self.inside.entities.items c.self.inside.tally.entries c.self.invariant c.args.chunks.now c.requires.chunks) in
    counted_more c.args.chunks.now c.self.inside.entities.items c.self.inside.entities.items c.self.inside.tally.entries c.self.inside.tally.entries c.self.invariant
    c.into.inside.entities.items c.into.inside.entities.items c.into.inside.tally.entries c.move_listed.new.into.entries c.into.invariant
    (none_moved (in_chunks c.args.chunks.now) c.self.inside.entities.items c.into.inside.entities.items none) c.move_listed.ensures.moved c.into.invariant.order

pub returns-else-move_listed-gt0-clause-left : goal.returns-else-move_listed-gt0-clause-left
returns-else-move_listed-gt0-clause-left c =
    let none : count_by (in_chunks c.args.chunks.now) c.self.inside.entities.items ≡ 0 =
    omega (arith, c.move_listed.ensures.total, total_is c.self.inside.entities.items c.self.inside.tally.entries c.self.invariant c.args.chunks.now c.requires.chunks) in
    rw (← c.self.view_is)
    (left_rest (λ (s : Standing). is_listed c.args.chunks.now (chunk_of s.at)) c.self.inside.entities.items c.self.inside.entities.items c.self.invariant.order
    (sym (all_stay (in_chunks c.args.chunks.now) c.self.inside.entities.items none)))

pub returns-else-move_listed-gt0-clause-moved : goal.returns-else-move_listed-gt0-clause-moved
returns-else-move_listed-gt0-clause-moved c =
    let none : count_by (in_chunks c.args.chunks.now) c.self.inside.entities.items ≡ 0 =
    omega (arith, c.move_listed.ensures.total, total_is c.self.inside.entities.items c.self.inside.tally.entries c.self.invariant c.args.chunks.now c.requires.chunks) in
    let apart = rw (← c.self.view_is, ← c.into.view_is) at c.requires.apart in
    rw (← c.self.view_is, ← c.into.view_is)
    (joined_parts (λ (s : Standing). is_listed c.args.chunks.now (chunk_of s.at)) c.self.inside.entities.items c.into.inside.entities.items c.self.invariant.order c.into.inside.entities.items c.into.invariant.order apart
    (none_moved (in_chunks c.args.chunks.now) c.self.inside.entities.items c.into.inside.entities.items none))

pub returns-else-move_listed-gt0-clause-len : goal.returns-else-move_listed-gt0-clause-len
returns-else-move_listed-gt0-clause-len c =
    rw (← c.self.view_is) (omega (arith, c.move_listed.ensures.total, total_is c.self.inside.entities.items c.self.inside.tally.entries c.self.invariant c.args.chunks.now c.requires.chunks))

pub returns-else-move_listed-gt0-clause-into_len : goal.returns-else-move_listed-gt0-clause-into_len
returns-else-move_listed-gt0-clause-into_len c =
    rw (← c.self.view_is, ← c.into.view_is) (omega (arith, c.move_listed.ensures.total, total_is c.self.inside.entities.items c.self.inside.tally.entries c.self.invariant c.args.chunks.now c.requires.chunks))
