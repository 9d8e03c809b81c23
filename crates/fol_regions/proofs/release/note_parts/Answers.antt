use Rattle.std.proofs.Common.{◌+◌, ap, arith, ◌∷◌, [], length, length-append}
use Rattle.std.proofs.lemmas.List.{append_assoc}
use Rattle.std.proofs.lemmas.List.FromFn.{length-range_with_len}
use Rattle.std.specs.List.{range_with_len}
use Rattle.fol_regions.specs.Changes.{Changes}
use Rattle.fol_regions.proofs.ChangeLists.{range_more}
use Rattle.fol_regions.proofs.release.note_parts.Goals as goal

pub part-requires-clause-created : goal.part-requires-clause-created
part-requires-clause-created c =
    omega (arith, ap (λ (x : Changes). length x.created) c.loop-i.invariant, length-append c.args.change.now.created (range_with_len c.args.first c.loop-i.i), length-range_with_len c.args.first c.loop-i.i)

pub part-requires-clause-parts : goal.part-requires-clause-parts
part-requires-clause-parts c =
    omega (arith, ap (λ (x : Changes). length x.parts) c.loop-i.invariant, length-append c.args.change.now.parts (range_with_len c.args.first c.loop-i.i), length-range_with_len c.args.first c.loop-i.i)

pub loop-i-preserved : goal.loop-i-preserved
loop-i-preserved c =
    let more = range_more c.args.first c.loop-i.i in
    rw (c.part.ensures, c.loop-i.invariant, more) (λ i. record {
      created = append_assoc c.args.change.now.created (range_with_len c.args.first c.loop-i.i) ((c.args.first + c.loop-i.i) ∷ []) i;
      dead = c.args.change.now.dead;
      merges = c.args.change.now.merges;
      parts = append_assoc c.args.change.now.parts (range_with_len c.args.first c.loop-i.i) ((c.args.first + c.loop-i.i) ∷ []) i;
    })
