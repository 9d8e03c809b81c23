-- A tick that was given out and is finished is that of its End.
use Rattle.std.proofs.Common.{◌≡◌, ℕ, ◌+◌, ◌≤◌, refl, sym, ◌∙◌, ap, true, false, inl, inr, List, ◌∷◌, ◌++◌}
use Rattle.std.specs.Prelude.{nat_lt, if◌then◌else◌, filter, Option, Some, None}
use Rattle.std.proofs.lemmas.Bool.{cases_Bool, cases_lt, lt-ltb, ltb-true, true≢false}
use Rattle.fol_model.specs.declared.openings.Opening.{Opening}
use Rattle.fol_model.specs.declared.tasks.Ran.{Ran}
use Rattle.fol_model.specs.declared.tasks.Task.{Task}
use Rattle.fol_model.specs.declared.events.Event.TheVariants.{Begin}
use Rattle.fol_model.specs.declared.events.Entry.{Entry}
use Rattle.fol_model.specs.GridNumbers.{IsGrid}
use Rattle.fol_model.specs.GridState.{GridState}
use Rattle.fol_model.specs.Universe.{all_chunks}
use Rattle.fol_model.specs.Outputs.{is_chunk_of}
use Rattle.fol_model.specs.ActionStep.{Flat, Recorded, at_id}
use Rattle.fol_model.specs.FlatTick.{FlatEnd, flat_tick}
use Rattle.fol_model.specs.Job.{Job}
use Rattle.fol_model.specs.Begin.{begin}
use Rattle.fol_model.specs.QueuedTask.{begun, counted_down, queued_in}
use Rattle.fol_model.specs.World.{World, due, start}
use Rattle.fol_model.specs.End.{run_down}
use Rattle.fol_model.specs.Run.{Run, RunFrom, after_all, world}
use Rattle.fol_laws.proofs.FunctionsChanged.{at_here}
use Rattle.fol_laws.proofs.WholeRuns.{Good}
use Rattle.fol_chunks.specs.Contents.{flat_of, is_recorded, within}
use Rattle.fol_queues.specs.Waiting.{jobs_of}
use Rattle.fol_data.specs.declared.tick.Tick.{Tick}
use Rattle.fol_world.specs.AtEnd.{AtEnd}
use Rattle.fol_world.specs.Hands.{since, since_from}
use Rattle.fol_world.proofs.BackTasks.{on_recorded, since_along, since_at}
use Rattle.fol_core.proofs.FinishedRun as fr
use Rattle.fol_core.proofs.OutAtBegin.{OutAtBegin}

not_less : (n m : ℕ) → nat_lt n m ≡ false → m ≤ n
not_less n m h = elim (cases_lt n m) [ inl l ↦ absurd (true≢false (sym (lt-ltb n m l) ∙ h)) | inr l ↦ l ]

none_queued : (g : GridState) (r : ℕ) → queued_in g r None ≡ None
unfolding queued_in
none_queued g r = refl

module _ (o : Opening) (ok : IsGrid o.grid) (h : List Entry) (run : Run o h) (tick : Tick) (out : OutAtBegin o h tick) where
  abbrev r : ℕ
  r = tick.region

  abbrev es : List Entry
  es = out.before

  abbrev mid : List Entry
  mid = out.since

  abbrev u : World
  u = after_all (start o) out.before

  abbrev v : World
  v = begun (after_all (start o) out.before) tick.worker tick.region

  abbrev w : World
  w = after_all (begun (after_all (start o) out.before) tick.worker tick.region) out.since

  run_at : RunFrom (start o) (es ++ (record { by = out.by; event = Begin tick.worker r }) ∷ mid)
  run_at = rw out.begin at run

  pub same_world : world o h ≡ w
  same_world = ap (after_all (start o)) out.begin ∙ fr.world_at (start o) es (record { by = out.by; event = Begin tick.worker r }) mid

  same_since : since o h ≡ since_from v (at_id (since_from (start o) (λ q. 0) es) r u.next_job) mid
  same_since = ap (since_from (start o) (λ q. 0)) out.begin ∙ since_at (start o) (λ q. 0) es (record { by = out.by; event = Begin tick.worker r }) mid

  recorded : w.recorded r ≡ is_chunk_of u.grid r
  recorded = fr.recorded_now o ok es mid out.by tick.worker r out.runs_on run_at

  recorded_then : v.recorded r ≡ is_chunk_of u.grid r
  recorded_then = fr.recorded o ok es mid out.by tick.worker r out.runs_on run_at

  listed : is_recorded tick.chunks ≡ w.recorded r
  listed = fr.listed o ok es mid out.by tick.worker r out.runs_on run_at tick.chunks out.of.chunks

  listed_then : is_recorded tick.chunks ≡ v.recorded r
  listed_then = listed ∙ recorded ∙ sym recorded_then

  flat_then : v.flat ≡ u.flat
  unfolding begun
  flat_then = refl

  abbrev done : FlatEnd
  done = flat_tick (v.recorded r) out.given (due v r) (within (v.recorded r) v.flat)

  ran_as : flat_tick (is_recorded tick.chunks) out.given tick.due (within (is_recorded tick.chunks) u.flat) ≡ done
  ran_as = ap (λ (p : Recorded). flat_tick p out.given tick.due (within p u.flat)) listed_then
      ∙ ap (λ (ts : List Task). flat_tick (v.recorded r) out.given ts (within (v.recorded r) u.flat)) out.of.due
      ∙ ap (λ (f : Flat). flat_tick (v.recorded r) out.given (due v r) (within (v.recorded r) f)) (sym flat_then)

  ran_is : tick.log.ran ≡ done.ran
  ran_is = out.run.ran ∙ ap (λ (x : FlatEnd). x.ran) ran_as

  wishes_are : tick.log.wishes ≡ done.wishes
  wishes_are = out.run.wishes ∙ ap (λ (x : FlatEnd). x.wishes) ran_as

  contents_are : flat_of tick.body.chunks ≡ done.flat
  contents_are = out.run.contents ∙ ap (λ (x : FlatEnd). x.flat) ran_as

  good_v : Good o v
  good_v = fr.good_v o ok es mid out.by tick.worker r out.runs_on run_at

  begun_grid : (x : Option Job) → queued_in u.grid r x ≡ queued_in v.grid r x
  unfolding queued_in begun begin
  begun_grid None = refl
  begun_grid (Some j) = refl

  -- the tasks that were queued just after the Begin
  begun_queue : (n : ℕ) → jobs_of tick.body.queues (tick.body.tick + 1) n ≡ queued_in v.grid r (v.jobs n)
  begun_queue n = ap (λ (f : ℕ → Option Job). f n) out.of.queued ∙ begun_grid (v.jobs n)

  next_then : v.next_job ≡ u.next_job
  unfolding begun
  next_then = refl

  since_is : since o h r ≡ v.next_job
  since_is = ap (λ (f : ℕ → ℕ). f r) same_since
      ∙ since_along o v (at_id (since_from (start o) (λ q. 0) es) r u.next_job) mid r good_v (fr.ticks_then o ok es mid out.by tick.worker r out.runs_on run_at) out.runs_on
      (fr.here o ok es mid out.by tick.worker r out.runs_on run_at).1
      ∙ at_here (since_from (start o) (λ q. 0) es) r u.next_job ∙ sym next_then

  end_queue : (n : ℕ) → jobs_of tick.body.queues (tick.body.tick + 1) n ≡ (if nat_lt n (since o h r) then queued_in w.grid r (w.jobs n) else None)
  end_queue n = begun_queue n ∙ (elim (cases_Bool (nat_lt n v.next_job)) [
    | inl l ↦ let k : nat_lt n (since o h r) ≡ true = rw since_is l in
        rw k (sym ((fr.queue o ok es mid out.by tick.worker r out.runs_on run_at).jobs n (ltb-true n v.next_job l)))
    | inr l ↦ let k : nat_lt n (since o h r) ≡ false = rw since_is l in
        let z : v.jobs n ≡ None = good_v.sound.numbers n (not_less n v.next_job l) in
        rw (k, z) (none_queued v.grid r)
  ])

  down_then : (n : ℕ) → v.jobs n ≡ counted_down u.grid r (u.jobs n)
  unfolding begun
  down_then n = refl

  there : (n : ℕ) (j : Job) → jobs_of tick.body.queues (tick.body.tick + 1) n ≡ Some j → w.recorded r j.chunk ≡ true
  there n j e =
      let a : queued_in u.grid r (counted_down u.grid r (u.jobs n)) ≡ Some j = sym (ap (queued_in u.grid r) (down_then n)) ∙ begun_grid (v.jobs n) ∙ sym (begun_queue n) ∙ e in
      ap (λ (p : Recorded). p j.chunk) recorded ∙ on_recorded u (fr.good_u o ok es mid out.by tick.worker r out.runs_on run_at).sound r n j a

  at_then : AtEnd w (since o h) tick
  at_then = record {
    ticks = fr.ticks_now o ok es mid out.by tick.worker r out.runs_on run_at;
    chunks = out.of.chunks ∙ ap (λ (p : Recorded). filter p all_chunks) (sym recorded);
    listed = listed;
    due = out.of.due ∙ sym (fr.due_now o ok es mid out.by tick.worker r out.runs_on run_at);
    ran = let i = fr.is_end o ok es mid out.by tick.worker r out.runs_on run_at out.given in rw ran_is i.ran;
    wishes = let i = fr.is_end o ok es mid out.by tick.worker r out.runs_on run_at out.given in rw (ran_is, wishes_are) i.wishes;
    contents = let c = fr.contents_now o ok es mid out.by tick.worker r out.runs_on run_at out.given in
        contents_are ∙ c ∙ ap (λ (p : Recorded). within p (run_down w r done.ran).flat) (recorded_then ∙ sym recorded) ∙ ap (λ (x : List Ran). within (w.recorded r) (run_down w r x).flat) (sym ran_is);
    counter = out.of.counter ∙ sym (fr.counter o ok es mid out.by tick.worker r out.runs_on run_at);
    owed = out.of.owed ∙ sym (fr.owes o ok es mid out.by tick.worker r out.runs_on run_at);
    queue = end_queue;
    there = there;
  }

  pub worker_at : tick.worker ≡ (world o h).worker r
  worker_at = rw same_world (sym (fr.seat o ok es mid out.by tick.worker r out.runs_on run_at))

  pub at_end : AtEnd (world o h) (since o h) tick
  at_end = rw same_world at_then
