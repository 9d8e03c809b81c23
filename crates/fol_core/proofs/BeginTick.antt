-- The entry and the tick of a Begin.
use Rattle.std.proofs.Common.{◌≡◌, ℕ, ◌+◌, ◌-◌, ◌<◌, ◌^◌, refl, sym, ◌∙◌, ap, arith, true, false, not, ◌||◌, List, [], ◌∷◌, ◌++◌}
use Rattle.std.specs.Prelude.{nat_lt}
use Rattle.std.proofs.Math.Path.{fun_ext}
use Rattle.std.proofs.lemmas.Bool.{and_parts, or_parts, ltb-true}
use Rattle.fol_model.specs.declared.openings.Opening.{Opening}
use Rattle.fol_model.specs.declared.events.Event.TheVariants.{Begin}
use Rattle.fol_model.specs.declared.events.Entry.{Entry}
use Rattle.fol_model.specs.GridState.{is_ready}
use Rattle.fol_model.specs.Begin.{begin}
use Rattle.fol_model.specs.ActionStep.{at_id}
use Rattle.fol_model.specs.FlatTick.{Rising}
use Rattle.fol_model.specs.QueuedTask.{begun, counted_down, queued_in}
use Rattle.fol_model.specs.World.{World}
use Rattle.fol_model.specs.Run.{Allowed, world}
use Rattle.fol_chunks.specs.Contents.{flat_of as contents_of, is_recorded, outside, within}
use Rattle.fol_queues.specs.Waiting.{jobs_of as queued_of, option_filter, task_in}
use Rattle.fol_regions.specs.Table.{grid_state}
use Rattle.fol_store.specs.Bag.{taken_out}
use Rattle.fol_store.specs.Stock.{bag_of, flat_of, jobs_of, next_of}
use Rattle.fol_data.specs.declared.tick.Tick.{Tick}
use Rattle.fol_world.specs.declared.tables.Course.{Course}
use Rattle.fol_world.specs.declared.tables.Tables.{Tables}
use Rattle.fol_world.specs.Agenda.{IsAgenda, owes}
use Rattle.fol_core.specs.Answers.{is_over, is_owing}
use Rattle.fol_world.specs.Begun.{due_task, left_job}
use Rattle.fol_world.specs.Stands.{Stands}
use Rattle.fol_core.specs.Ticks.{IsTick}
use Rattle.fol_core.proofs.BeginKept.{begin_contents, begin_due, begin_fits, begin_left, begun_marks, its_chunks}
use Rattle.fol_world.proofs.GatheredBags.{ready_here, ready_now}
use Rattle.fol_core.proofs.LoadKept.{course_more}
use Rattle.fol_world.proofs.Longer.{stands_more}

begun_jobs : (w : World) (worker id n : ℕ) → (begun w worker id).jobs n ≡ counted_down w.grid id (w.jobs n)
unfolding begun
begun_jobs w worker id n = refl

module _ (o : Opening) (h : List Entry) (t : Tables) (s : Stands o h t) (id : ℕ) (owing : owes (grid_state t.regions) (bag_of t.store) id ≡ true) (settled : (bag_of t.store id).listed ≡ true) where
  rests_now : (bag_of t.store id).owed ≡ (world o h).owed id
  rests_now = (s.fits.stored.bags id).owes (sym (s.fits.stored.bags id).here ∙ ready_here o h t s id owing)

  counts_now : (bag_of t.store id).tick ≡ (world o h).tick id
  counts_now = (s.fits.stored.bags id).counter (sym (s.fits.stored.bags id).here ∙ ready_here o h t s id owing)

  owed_some : nat_lt 0 ((world o h).owed id) ≡ true
  owed_some = ap (nat_lt 0) (sym rests_now) ∙ (and_parts (is_ready ((grid_state t.regions).state id)) (nat_lt 0 (bag_of t.store id).owed) owing).1

  pub not_over : (t.course.finished || t.course.stopped) ≡ false → is_over (world o h) ≡ false
  not_over e = let p = or_parts t.course.finished t.course.stopped e in let a = sym s.fits.course.finished ∙ p.0 in let b = sym s.fits.course.stopped ∙ p.1 in rw (a, b) refl

  pub owing_world : is_owing (world o h) id ≡ true
  owing_world = let r = ready_now o h t s id owing in let z = owed_some in rw (r, z) refl

  pub begin_stands : (by worker : ℕ) (u : Tables) (d : Course) → (t.course.finished || t.course.stopped) ≡ false → t.course.size < 2 ^ 50 → grid_state u.regions ≡ begin (grid_state t.regions) id
      → flat_of u.store ≡ outside (is_recorded (bag_of t.store id).chunks) (flat_of t.store)
      → jobs_of u.store ≡ (λ n. option_filter (λ j. not (is_recorded (bag_of t.store id).chunks j.chunk)) (jobs_of t.store n)) → bag_of u.store ≡ at_id (bag_of t.store) id (taken_out (bag_of t.store id))
      → next_of u.store ≡ next_of t.store → IsAgenda u.agenda.items (grid_state u.regions) (bag_of u.store) → u.grid ≡ t.grid → u.tickets.entries ≡ t.tickets.entries → u.course ≡ t.course
      → d ≡ record u.course { size = u.course.size + 1 } → Stands o (h ++ (record { by = by; event = Begin worker id }) ∷ []) (record u { course = d })
  begin_stands by worker u d on few regions flat jobs bags next agenda grid tickets course grows =
      let p = or_parts t.course.finished t.course.stopped on in
      let ok : Allowed (world o h) (Begin worker id) = (ready_now o h t s id owing, ltb-true 0 ((world o h).owed id) owed_some, sym s.fits.course.stopped ∙ p.1) in
      let one : d.size ≡ t.course.size + 1 = ap (λ (x : Course). x.size) grows ∙ ap (λ (x : Course). x.size + 1) course in
      stands_more o h (record { by = by; event = Begin worker id }) t (record u { course = d }) s (sym s.fits.course.finished ∙ p.0) ok
      (begin_fits o h t s id owing settled worker u d regions flat jobs bags next agenda grid tickets (course_more (world o h) (begun (world o h) worker id) t.course u.course d (begun_marks (world o h) worker id) s.fits.course course grows))
      (omega arith) (omega arith) (λ x. omega arith)

  pub tick_is : (worker place : ℕ) (tick : Tick) → tick.worker ≡ worker → tick.region ≡ id → tick.begun ≡ place → tick.chunks ≡ (bag_of t.store id).chunks → tick.body.tick ≡ (bag_of t.store id).tick
      → tick.body.owed ≡ (bag_of t.store id).owed - 1 → contents_of tick.body.chunks ≡ within (is_recorded (bag_of t.store id).chunks) (flat_of t.store)
      → queued_of tick.body.queues (tick.body.tick + 1) ≡ (λ n. left_job (is_recorded (bag_of t.store id).chunks) (jobs_of t.store n)) → Rising tick.due
      → task_in tick.due ≡ (λ n. due_task (is_recorded (bag_of t.store id).chunks) n (jobs_of t.store n)) → tick.log.ran ≡ [] → tick.log.wishes ≡ [] → tick.next ≡ 0 → tick.moved ≡ false
      → IsTick (world o h) place worker id tick
  tick_is worker place tick w r b chunks counter owed contents left rises due' ran wishes next moved = record {
    worker = w;
    region = r;
    begun = b;
    of = record {
      chunks = rw r (chunks ∙ its_chunks o h t s id owing settled);
      due = rw (w, r) (begin_due o h t s id owing settled worker tick.due rises due');
      counter = rw r (counter ∙ counts_now);
      owed = rw r (owed ∙ ap (λ n. n - 1) rests_now);
      queued = rw (w, r) (begin_left o h t s id owing settled (queued_of tick.body.queues (tick.body.tick + 1)) left ∙ fun_ext (λ n. ap (queued_in (world o h).grid id) (sym (begun_jobs (world o h) worker id n))));
    };
    contents = begin_contents o h t s id owing settled (contents_of tick.body.chunks) contents ∙ ap (λ xs. within (is_recorded xs) (world o h).flat) (sym chunks);
    ran = ran;
    wishes = wishes;
    next = next;
    moved = moved;
  }
