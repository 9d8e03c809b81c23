use Rattle.std.proofs.Common.{◌≡◌, ◌+◌, ◌∙◌, sym, ap, arith, take, pos}
use Rattle.std.proofs.lemmas.List.{take_all}
use Rattle.fol_model.specs.declared.places.ChunkPos.{ChunkPos}
use Rattle.fol_chunks.specs.Tallies.{total_of}
use Rattle.fol_chunks.proofs.Tallies.{no_total, total_more, total_within}
use Rattle.fol_chunks.proofs.tally.total.Goals as goal

abbrev origin : ChunkPos
origin = record { x = pos 0; z = pos 0 }

-- the sum after one chunk more
next : (c : goal.After-number_at-total) → c.loop-c.total + c.number_at-total.result ≡ total_of c.args.tally.now.entries (take (c.loop-c.c-index + 1) c.args.chunks.now)
next c =
    let here = rw c.key_of.ensures at c.number_at-total.ensures in
    omega (arith, here, c.loop-c.invariant, total_more c.args.chunks.now c.loop-c.c-index origin (omega arith) c.args.tally.now.entries)

pub overflow_add-total : goal.overflow_add-total
overflow_add-total c = omega (arith, next c, total_within c.args.chunks.now c.loop-c.c-index origin (omega arith) c.args.tally.now.entries, c.requires)

pub loop-c-preserved : goal.loop-c-preserved
loop-c-preserved c = next c

pub returns : goal.returns
returns c = c.loop-c.invariant ∙ ap (λ l. total_of c.args.tally.now.entries l) (take_all c.loop-c.c-index c.args.chunks.now (omega arith))

pub returns-then-is_empty : goal.returns-then-is_empty
returns-then-is_empty c = sym (no_total c.args.tally.now.entries (c.is_empty.ensures.0 c.if-is_empty.true) c.args.chunks.now)
