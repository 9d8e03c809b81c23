-- What is offered may be run.
use Rattle.std.proofs.Common.{ℕ, [], length}
use Rattle.std.proofs.lemmas.List.{append-nil}
use Rattle.fol_model.specs.declared.events.Event.TheVariants.{Begin}
use Rattle.fol_model.specs.QueuedTask.{begun}
use Rattle.fol_model.specs.World.{World}
use Rattle.fol_model.specs.Run.{world}
use Rattle.fol_laws.proofs.WholeRuns.{Good, good_after, good_run}
use Rattle.fol_data.specs.declared.tick.Tick.{Tick}
use Rattle.fol_tick.specs.Runs.{MayRun}
use Rattle.fol_tick_laws.proofs.BegunTicks.{may_run}
use Rattle.fol_offers.specs.Fit.{IsFitTick}

-- whoever its worker is
pub fit_may_run : (tick : Tick) (k : ℕ) → IsFitTick tick → MayRun (record tick { worker = k })
fit_may_run tick k fit =
    let w : World = world fit.opening fit.history in
    let there : Good fit.opening w = good_run fit.opening fit.history [] fit.grid (rw append-nil fit.run) in
    let behind : Good fit.opening (begun w 0 tick.region) = good_after fit.opening w (Begin 0 tick.region) there fit.allowed in
    let may : MayRun tick = may_run fit.opening w 0 tick.region (length fit.history) tick behind fit.is in
    record {
      unmoved = may.unmoved;
      within = may.within;
      chunk_order = may.chunk_order;
      chunk_places = may.chunk_places;
      task_order = may.task_order;
      task_limits = may.task_limits;
      fresh = may.fresh;
    }
