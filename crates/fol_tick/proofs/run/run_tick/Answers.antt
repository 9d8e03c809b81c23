use Rattle.std.proofs.Common.{refl}
use Rattle.fol_tick.proofs.Stages.{finishes}
use Rattle.fol_tick.proofs.run.run_tick.Goals as goal

pub returns-clause-ok : goal.returns-clause-ok
returns-clause-ok g c =
    let ran = c.in_ok-run_due.ensures.runs in
    let flat = rw c.settle_for.ensures.same at c.step_entities.ensures.moved in (
      ran.0,
      ran.1,
      finishes c.args.tick.now c.run_due.new.tick _ ran.0 ran.2 c.in_ok-run_due.ensures.ok
          (record {
            worker = refl;
            region = refl;
            begun = refl;
            chunks = c.settle_for.ensures.same;
            due = refl;
            counter = refl;
            owed = refl;
            queues = refl;
          })
          refl refl
          (λ i. record { flat = flat i; ran = c.run_due.new.tick.log.ran; wishes = c.run_due.new.tick.log.wishes }),
    )

pub step_entities-requires-clause-order : goal.step_entities-requires-clause-order
step_entities-requires-clause-order g c = rw c.settle_for.ensures.same c.in_ok-run_due.ensures.may_run.chunk_order

pub step_entities-requires-clause-places : goal.step_entities-requires-clause-places
step_entities-requires-clause-places g c = rw c.settle_for.ensures.same c.in_ok-run_due.ensures.may_run.chunk_places
