use Rattle.fol_tick.proofs.NextTask.{next_taken, prepared_next}
use Rattle.fol_tick.proofs.run.run_from.Goals as goal

pub run_next-requires-clause-prepared : goal.run_next-requires-clause-prepared
run_next-requires-clause-prepared g c =
    let here = next_taken c.args.tick.now.due c.args.tick.now.next c.index-as_slice-tick.result c.requires.some (rw c.as_slice.ensures at c.index-as_slice-tick.is) c.args.stock.now c.requires.stock in
    prepared_next c.args.tick.now c.index-as_slice-tick.result c.requires.may_run c.requires.some (rw c.as_slice.ensures at c.index-as_slice-tick.is) _ (c.take-prepared.ensures _ here).0

pub returns-clause-stock : goal.returns-clause-stock
returns-clause-stock g c =
    let here = next_taken c.args.tick.now.due c.args.tick.now.next c.index-as_slice-tick.result c.requires.some (rw c.as_slice.ensures at c.index-as_slice-tick.is) c.args.stock.now c.requires.stock in
    (c.take-prepared.ensures _ here).1
