-- A tick that was begun and is finished: what it did, and that it is out.
use Rattle.std.proofs.Common.{◌≡◌, ℕ, ◌∙◌, ap, List, ◌∷◌, ◌++◌, length}
use Rattle.fol_model.specs.declared.openings.Opening.{Opening}
use Rattle.fol_model.specs.declared.events.Entry.{Entry}
use Rattle.fol_model.specs.declared.events.Event.TheVariants.{Begin}
use Rattle.fol_model.specs.ActionStep.{Flat}
use Rattle.fol_model.specs.FlatTick.{FlatEnd, flat_tick, outcomes}
use Rattle.fol_model.specs.OpenTick.{NoEnd}
use Rattle.fol_model.specs.World.{World}
use Rattle.fol_model.specs.Run.{Allowed, world}
use Rattle.fol_laws.specs.LateBegin.{NoneTouches}
use Rattle.fol_chunks.specs.Contents.{flat_of, is_recorded, within}
use Rattle.fol_data.specs.declared.tick.Tick.{Tick}
use Rattle.fol_tick.specs.Calls.{HostCall, AreCallsOf, given}
use Rattle.fol_tick.specs.Runs.{Finishes, stage_of}
use Rattle.fol_tick.proofs.TickLaws.{end_is_flat_tick}
use Rattle.fol_core.specs.Meaning.{Meaning}
use Rattle.fol_core.specs.Ticks.{HasRun, IsOut, IsTick, IsTickOf}

module _ (o : Opening) (h : List Entry) (k r : ℕ) (a b : Tick) (xs : List HostCall) (is : IsTick (world o h) (length h) k r a) (done : Finishes a b xs) where
  abbrev w : World
  w = world o h

  whole : stage_of b ≡ flat_tick (is_recorded a.chunks) (given a.due xs) a.due (flat_of a.body.chunks)
  whole = end_is_flat_tick a b xs is.next is.ran is.wishes done

  -- the calls are those of the due tasks, and so are the outcomes
  pub all_served : AreCallsOf a.due xs
  all_served = rw is.next at done.served

  pub all_ran : b.log.ran ≡ outcomes (is_recorded a.chunks) (given a.due xs) (flat_of a.body.chunks) a.due
  unfolding flat_tick
  all_ran = ap (λ (x : FlatEnd). x.ran) whole

  pub worker_is : b.worker ≡ k
  worker_is = done.same.worker ∙ is.worker

  pub region_is : b.region ≡ r
  region_is = done.same.region ∙ is.region

  of_begin : IsTickOf w b
  of_begin =
      let seat = done.same.worker in
      let region = done.same.region in
      let chunks = done.same.chunks in
      let due = done.same.due in
      let counter = done.same.counter in
      let queues = done.same.queues in
      record {
        chunks = rw (chunks, region) is.of.chunks;
        due = rw (due, seat, region) is.of.due;
        counter = rw (counter, region) is.of.counter;
        owed = rw region (done.same.owed ∙ is.of.owed);
        queued = rw (counter, queues, seat, region) is.of.queued;
      }

  whole_now : stage_of b ≡ flat_tick (is_recorded b.chunks) (given a.due xs) b.due (within (is_recorded b.chunks) w.flat)
  whole_now =
      let chunks = done.same.chunks in
      let due = done.same.due in
      rw (chunks, due) (whole ∙ ap (λ (f : Flat). flat_tick (is_recorded a.chunks) (given a.due xs) a.due f) is.contents)

  has_run : HasRun (given a.due xs) (within (is_recorded b.chunks) w.flat) b
  has_run = record {
    contents = ap (λ (x : FlatEnd). x.flat) whole_now;
    ran = ap (λ (x : FlatEnd). x.ran) whole_now;
    wishes = ap (λ (x : FlatEnd). x.wishes) whole_now;
    moved = done.moved;
  }

  -- it is out in each history in which it is open
  pub out_since : (m : Meaning) (between since : List Entry) (by : ℕ) → m.opening ≡ o → m.history ≡ (h ++ between) ++ (record { by = by; event = Begin k r }) ∷ since
      → Allowed (world o h) (Begin k r) → NoneTouches (world o h) r between → NoEnd r since → IsOut m b
  out_since m between since by opening history allowed calm runs_on = record {
    made = record {
      before = h;
      between = between;
      since = since;
      by = by;
      begin = rw (worker_is, region_is) history;
      allowed = rw (opening, region_is) allowed;
      calm = rw (opening, region_is) calm;
      runs_on = rw region_is runs_on;
    };
    place = done.same.begun ∙ is.begun;
    of = rw opening of_begin;
    given = given a.due xs;
    run = rw opening has_run;
  }
