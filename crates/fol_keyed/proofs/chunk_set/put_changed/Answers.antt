use Rattle.std.proofs.Common.{◌+◌, ◌++◌, List, drop, sym, ◌∙◌, ap, arith, append_assoc}
use Rattle.std.specs.Prelude.{pos}
use Rattle.std.proofs.lemmas.List.Kept.{IsStrictlySortedBy-filter}
use Rattle.fol_model.specs.declared.places.ChunkPos.{ChunkPos}
use Rattle.fol_keyed.specs.Order.{chunk_cmp}
use Rattle.fol_keyed.specs.ChunkSets.{changed}
use Rattle.fol_keyed.proofs.Pending.{changed_next, changed_none}
use Rattle.fol_keyed.proofs.chunk_set.put_changed.Goals as goal

abbrev first : ChunkPos
first = record { x = pos 0; z = pos 0 }

pub loop-c-preserved : goal.loop-c-preserved
loop-c-preserved c =
    let done = c.put_change-rest.ensures in
    let xs = c.loop-c.rest.now in
    let cs = c.args.changes.now in
    let k = c.loop-c.c-index in
    record {
      order = λ some. rw done.rest (IsStrictlySortedBy-filter chunk_cmp _ xs (c.loop-c.invariant.order some));
      room = omega (arith, done.len, done.capacity, c.loop-c.invariant.room, c.loop-c-test.true);
      put = (λ i. done.out i ++ changed (done.rest i) (drop (k + 1) cs))
          ∙ append_assoc c.loop-c.out.items _ _
          ∙ ap (λ (l : List ChunkPos). c.loop-c.out.items ++ l) (sym (changed_next xs cs k first c.loop-c-test.true))
          ∙ c.loop-c.invariant.put;
    }

pub returns : goal.returns
returns c =
    let ok = c.extend_from_slice.ensures.succeeds (omega (arith, c.loop-c.invariant.room)) in
    let added = rw ok at c.extend_from_slice.ensures.items in
    added ∙ ap (λ (l : List ChunkPos). c.loop-c.out.items ++ l) (sym (changed_none c.loop-c.rest.now c.args.changes.now c.loop-c.c-index c.loop-c-test.false)) ∙ c.loop-c.invariant.put
