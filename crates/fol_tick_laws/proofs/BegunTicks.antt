-- What a tick that was begun may do.
use Rattle.std.proofs.Common.{◌≡◌, ℕ, refl, sym, ◌∙◌, ap, arith, List, [], ◌∷◌, drop}
use Rattle.std.specs.Prelude.{IsNone, IsTrue, None}
use Rattle.std.specs.List.{AllByRecursion}
use Rattle.std.proofs.lemmas.List.Elements.{All-from_recursion}
use Rattle.fol_model.specs.declared.openings.Opening.{Opening}
use Rattle.fol_model.specs.declared.tasks.Task.{Task}
use Rattle.fol_model.specs.ActionStep.{Flat}
use Rattle.fol_model.specs.Limits.{is_action}
use Rattle.fol_model.specs.Outputs.{is_chunk_of}
use Rattle.fol_model.specs.QueuedTask.{begun}
use Rattle.fol_model.specs.World.{World, due}
use Rattle.fol_laws.proofs.OutcomeLaws.{due_tasks_rise}
use Rattle.fol_laws.proofs.WholeRuns.{Good}
use Rattle.fol_laws.proofs.WishLimits.{TaskOk, due_ok}
use Rattle.fol_chunks.specs.Contents.{flat_of, is_recorded, within}
use Rattle.fol_data.specs.declared.tick.Tick.{Tick}
use Rattle.fol_tick.specs.Runs.{AreFresh, MayRun}
use Rattle.fol_core.specs.Ticks.{IsTick}
use Rattle.fol_world.proofs.ChunkLists.{kept_sorted, kept_within}
use Rattle.fol_tick_laws.proofs.FreshArrivals.{fresh_due}

flat_begun : (w : World) (k r : ℕ) → (begun w k r).flat ≡ w.flat
unfolding begun
flat_begun w k r = refl

limits : (ts : List Task) → AllByRecursion TaskOk ts → AllByRecursion (λ (t : Task). IsTrue (is_action t.action)) ts
limits [] ok = tt
limits (t ∷ ts) ok = (ok.0.action, limits ts ok.1)

-- its due tasks are those of its region behind the Begin
pub due_is : (w : World) (k r place : ℕ) (tick : Tick) → IsTick w place k r tick → tick.due ≡ due (begun w k r) r
due_is w k r place tick is = rw (is.worker, is.region) at is.of.due

module _ (o : Opening) (w : World) (k r place : ℕ) (tick : Tick) (good : Good o (begun w k r)) (is : IsTick w place k r tick) where
  abbrev v : World
  v = begun w k r

  own_due : tick.due ≡ due v r
  own_due = due_is w k r place tick is

  absent : (id : ℕ) → v.flat.standing id ≡ None → IsNone ((flat_of tick.body.chunks).standing id)
  absent id none =
      let nowhere : w.flat.standing id ≡ None = sym (ap (λ (f : Flat). f.standing id) (flat_begun w k r)) ∙ none in
      let there : (flat_of tick.body.chunks).standing id ≡ (within (is_recorded tick.chunks) w.flat).standing id = ap (λ (f : Flat). f.standing id) is.contents in
      rw there (rw nowhere refl)

  fresh : AreFresh (flat_of tick.body.chunks) (drop tick.next tick.due)
  fresh = rw (is.next, own_due) (fresh_due o v r good (flat_of tick.body.chunks) absent)

  pub may_run : MayRun tick
  may_run = record {
    unmoved = is.moved;
    within = (let first = is.next in omega arith);
    chunk_order = rw is.of.chunks (kept_sorted (is_chunk_of w.grid tick.region));
    chunk_places = rw is.of.chunks (kept_within (is_chunk_of w.grid tick.region));
    task_order = rw own_due (due_tasks_rise v r);
    task_limits = rw own_due (All-from_recursion (λ (t : Task). IsTrue (is_action t.action)) (due v r) (limits (due v r) (due_ok v r v.next_job good.sound.each)));
    fresh = fresh;
  }
