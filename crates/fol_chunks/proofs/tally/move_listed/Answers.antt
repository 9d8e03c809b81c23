use Rattle.std.proofs.Common.{◌≡◌, ◌+◌, ◌∙◌, sym, ap, refl, arith, cond, take, pos}
use Rattle.std.proofs.lemmas.List.{take_all}
use Rattle.fol_model.specs.declared.places.ChunkPos.{ChunkPos}
use Rattle.fol_chunks.specs.Tallies.{is_key_of, number_of, total_of}
use Rattle.fol_blocks.proofs.ChunkLists.{key_of}
use Rattle.fol_chunks.proofs.Tallies.{left_more, moved_more, no_total, none_comes, none_left, number_as_before, number_stays, total_more, total_within}
use Rattle.fol_chunks.proofs.tally.move_listed.Goals as goal

abbrev origin : ChunkPos
origin = record { x = pos 0; z = pos 0 }

pub loop-c-init : goal.loop-c-init
loop-c-init c = record {
  total = refl;
  left = λ q. refl;
  moved = λ q. omega arith;
  room = omega arith;
  into_room = omega arith;
}

pub move_number-moved-requires-clause-room : goal.move_number-moved-requires-clause-room
move_number-moved-requires-clause-room c =
    rw c.key_of.ensures
    (omega (
      arith,
      number_stays c.args.chunks.now c.loop-c.c-index origin (omega arith) c.requires.order c.args.tally.now.entries c.loop-c.tally.entries c.loop-c.invariant.left,
      total_more c.args.chunks.now c.loop-c.c-index origin (omega arith) c.args.tally.now.entries,
      total_within c.args.chunks.now c.loop-c.c-index origin (omega arith) c.args.tally.now.entries,
      c.requires.room,
      c.loop-c.invariant.total,
      c.loop-c.invariant.into_room,
    ))

pub move_number-moved-requires-clause-few : goal.move_number-moved-requires-clause-few
move_number-moved-requires-clause-few c =
    rw c.key_of.ensures
    (omega (
      arith,
      number_stays c.args.chunks.now c.loop-c.c-index origin (omega arith) c.requires.order c.args.tally.now.entries c.loop-c.tally.entries c.loop-c.invariant.left,
      number_as_before c.args.chunks.now c.loop-c.c-index origin (omega arith) c.requires.order c.args.tally.now.entries c.loop-c.tally.entries c.loop-c.invariant.left c.args.into.now.entries c.loop-c.into.entries c.loop-c.invariant.moved,
      c.requires.few_each (key_of c.args.chunks.now c.loop-c.c-index origin),
    ))

-- the sum after one chunk more
next : (c : goal.After-move_number-moved) → c.loop-c.moved + c.move_number-moved.result ≡ total_of c.args.tally.now.entries (take (c.loop-c.c-index + 1) c.args.chunks.now)
next c =
    let n = rw c.key_of.ensures at c.move_number-moved.ensures.number in
    omega (
      arith,
      n,
      c.loop-c.invariant.total,
      number_stays c.args.chunks.now c.loop-c.c-index origin (omega arith) c.requires.order c.args.tally.now.entries c.loop-c.tally.entries c.loop-c.invariant.left,
      total_more c.args.chunks.now c.loop-c.c-index origin (omega arith) c.args.tally.now.entries,
    )

pub overflow_add-moved : goal.overflow_add-moved
overflow_add-moved c = omega (arith, next c, total_within c.args.chunks.now c.loop-c.c-index origin (omega arith) c.args.tally.now.entries, c.requires.few)

pub loop-c-preserved : goal.loop-c-preserved
loop-c-preserved c = record {
  total = next c;
  left = left_more c.args.chunks.now c.loop-c.c-index origin (omega arith) c.requires.order c.args.tally.now.entries c.loop-c.tally.entries c.loop-c.invariant.left _ (rw c.key_of.ensures at c.move_number-moved.ensures.left);
  moved = moved_more c.args.chunks.now c.loop-c.c-index origin (omega arith) c.requires.order c.args.tally.now.entries c.loop-c.tally.entries c.loop-c.invariant.left c.args.into.now.entries c.loop-c.into.entries c.loop-c.invariant.moved _ (rw c.key_of.ensures at c.move_number-moved.ensures.moved);
  room = omega arith;
  into_room = omega arith;
}

whole : (c : goal.After-loop-c) → take c.loop-c.c-index c.args.chunks.now ≡ c.args.chunks.now
whole c = take_all c.loop-c.c-index c.args.chunks.now (omega arith)

pub returns-clause-total : goal.returns-clause-total
returns-clause-total c = c.loop-c.invariant.total ∙ ap (λ l. total_of c.args.tally.now.entries l) (whole c)

pub returns-clause-left : goal.returns-clause-left
returns-clause-left c = λ q. c.loop-c.invariant.left q ∙ ap (λ l. cond (is_key_of l q) 0 (number_of c.args.tally.now.entries q)) (whole c)

pub returns-clause-moved : goal.returns-clause-moved
returns-clause-moved c = λ q. c.loop-c.invariant.moved q ∙ ap (λ l. number_of c.args.into.now.entries q + cond (is_key_of l q) (number_of c.args.tally.now.entries q) 0) (whole c)

pub returns-clause-into_spare : goal.returns-clause-into_spare
returns-clause-into_spare c = omega (arith, c.loop-c.invariant.into_room, returns-clause-total c)

-- ---- no number is kept
pub returns-then-is_empty-clause-total : goal.returns-then-is_empty-clause-total
returns-then-is_empty-clause-total c = sym (no_total c.args.tally.now.entries (c.is_empty.ensures.0 c.if-is_empty.true) c.args.chunks.now)

pub returns-then-is_empty-clause-left : goal.returns-then-is_empty-clause-left
returns-then-is_empty-clause-left c = λ q. none_left c.args.tally.now.entries (c.is_empty.ensures.0 c.if-is_empty.true) (is_key_of c.args.chunks.now q) q

pub returns-then-is_empty-clause-moved : goal.returns-then-is_empty-clause-moved
returns-then-is_empty-clause-moved c = λ q. none_comes c.args.tally.now.entries (c.is_empty.ensures.0 c.if-is_empty.true) (is_key_of c.args.chunks.now q) (number_of c.args.into.now.entries q) q
