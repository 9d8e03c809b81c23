use Rattle.std.proofs.Common.{◌≡◌, ◌+◌, sym, ◌∙◌, ap, arith, take, pos}
use Rattle.std.specs.List.{count_by}
use Rattle.std.proofs.lemmas.List.{take_all}
use Rattle.std.proofs.lemmas.List.Sums.{count_by-le-length}
use Rattle.fol_model.specs.declared.places.ChunkPos.{ChunkPos}
use Rattle.fol_blocks.specs.Cells.{blocks_in}
use Rattle.fol_blocks.specs.Weights.{lies_in}
use Rattle.fol_blocks.proofs.ChunkLists.{count_next, in_none}
use Rattle.fol_blocks.proofs.Weighing.{count_is}
use Rattle.fol_blocks.proofs.cells.count_listed.Goals as goal

abbrev origin : ChunkPos
origin = record { x = pos 0; z = pos 0 }

-- the count after one chunk more
next : (c : goal.After-count_at-count) → c.loop-c.count + c.count_at-count.result ≡ count_by (lies_in (take (c.loop-c.c-index + 1) c.args.chunks.now)) (blocks_in c.args.cells.now.entries)
next c =
    let here = rw c.key_of.ensures at c.count_at-count.ensures in
    ap (λ n. c.loop-c.count + n) here
    ∙ count_next c.args.cells.now.entries c.args.chunks.now c.loop-c.c-index c.loop-c.count origin c.requires.cells c.requires.order (omega arith) c.loop-c.invariant

pub loop-c-init : goal.loop-c-init
loop-c-init c = sym (count_is (lies_in (take 0 c.args.chunks.now)) (blocks_in c.args.cells.now.entries) ∙ in_none (λ x. 1) (blocks_in c.args.cells.now.entries))

pub overflow_add-count : goal.overflow_add-count
overflow_add-count c = omega (arith, next c, count_by-le-length (lies_in (take (c.loop-c.c-index + 1) c.args.chunks.now)) (blocks_in c.args.cells.now.entries))

pub loop-c-preserved : goal.loop-c-preserved
loop-c-preserved c = next c

pub returns : goal.returns
returns c = c.loop-c.invariant ∙ ap (λ l. count_by (lies_in l) (blocks_in c.args.cells.now.entries)) (take_all c.loop-c.c-index c.args.chunks.now (omega arith))
