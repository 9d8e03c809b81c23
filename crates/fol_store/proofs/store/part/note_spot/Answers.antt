use Rattle.fol_keyed.proofs.Recorded.{recorded_last}
use Rattle.fol_keyed.proofs.Answers.{on_ok}
use Rattle.fol_store.proofs.store.part.note_spot.Goals as goal

pub returns-in-Some-clause-noted : goal.returns-in-Some-clause-noted
returns-in-Some-clause-noted c = on_ok c.add.result _ _ c.add.ensures.ok (λ e i at. rw e (recorded_last c.args.list.now.items c.args.c))
