use Rattle.std.proofs.Common.{refl, ◌∙◌, ap, arith, length}
use Rattle.fol_split.specs.Runs.{no_run, AreRuns, run_at, first_of}
use Rattle.fol_split.proofs.Parting.{split_start, split_next}
use Rattle.fol_split.proofs.Rows.{first_in}
use Rattle.fol_split.proofs.splitter.split.Goals as goal
use Rattle.fol_split.proofs.splitter.split.Goals.{then-is_left, else-is_left}

pub loop-k-init : goal.loop-k-init
loop-k-init c = record {
  split = split_start c.args.pool.now c.args.spans.now.items c.args.merge c.requires.none_taken c.requires.no_part;
  runs = refl;
  few = omega (arith, ap length c.requires.no_part);
  room = c.requires.room;
}

pub is_left-requires : goal.is_left-requires
is_left-requires c = omega (arith, ap length c.loop-k.invariant.runs, c.len-k-end.ensures.value)

pub take_part-requires-clause-left : goal.take_part-requires-clause-left
take_part-requires-clause-left c =
    let runs = c.loop-k.pool.runs in
    let sound : AreRuns runs = rw c.loop-k.invariant.runs c.len-k-end.ensures.runs in
    let there = first_in (run_at runs c.loop-k.k) (sound.solid c.loop-k.k no_run (omega (arith, ap length c.loop-k.invariant.runs, c.len-k-end.ensures.value))) in
    c.is_left.ensures (first_of (run_at runs c.loop-k.k)) there ∙ c.if-is_left.true

pub loop-k-preserved : goal.loop-k-preserved
loop-k-preserved c = elim c.if-is_left.branch [
  | then-is_left w ↦ rw (w.pool-is, w.spans-is) (record {
    split = w.take_part.ensures.after;
    runs = w.take_part.ensures.runs ∙ c.loop-k.invariant.runs;
    few = w.take_part.ensures.few;
    room = w.take_part.ensures.room;
  })
  | else-is_left w ↦ rw (w.pool-is, w.spans-is) (record {
    split = split_next c.loop-k.pool c.loop-k.spans.items c.args.merge c.loop-k.k c.loop-k.invariant.split (λ s h. c.is_left.ensures s h ∙ w.if-is_left.false);
    runs = c.loop-k.invariant.runs;
    few = c.loop-k.invariant.few;
    room = c.loop-k.invariant.room;
  })
]
