-- What the tables stand for after a quiet tick.
use Rattle.std.proofs.Common.{◌≡◌, ◌≢◌, ℕ, ◌+◌, ◌-◌, ◌≤◌, ◌<◌, ◌^◌, refl, sym, ◌∙◌, ap, subst, arith, true, false, inl, inr, ◌&&◌, ◌||◌, List, [], ◌∷◌, ◌++◌, filter, length-append, All, IsTrue}
use Rattle.std.specs.Prelude.{nat_eq, nat_lt, Option, Some, None}
use Rattle.std.specs.Option.{ForSome}
use Rattle.std.proofs.Math.Path.{fun_ext}
use Rattle.std.proofs.lemmas.Bool.{cases_Bool, cases_eq, and_parts, ltb-true, lt-ltb, lt-leb, or_parts}
use Rattle.fol_model.specs.declared.regions.State.TheVariants.{Ready, Ticking}
use Rattle.fol_model.specs.declared.tasks.Ran.{Ran}
use Rattle.fol_model.specs.declared.events.Accept.{Accept}
use Rattle.fol_model.specs.declared.openings.Opening.{Opening}
use Rattle.fol_model.specs.declared.events.Event.TheVariants.{Begin, End}
use Rattle.fol_model.specs.declared.events.Entry.{Entry}
use Rattle.std.specs.List.Sorted.{IsStrictlySortedBy}
use Rattle.fol_model.specs.declared.places.ChunkPos.{ChunkPos}
use Rattle.fol_model.specs.Geometry.{is_chunk, section_of}
use Rattle.fol_model.specs.Universe.{all_chunks}
use Rattle.fol_model.specs.GridState.{GridState, is_loaded, is_ready}
use Rattle.fol_model.specs.ActionStep.{Recorded, at_id}
use Rattle.fol_model.specs.FlatTick.{moved}
use Rattle.fol_model.specs.Job.{Job, is_taken}
use Rattle.fol_model.specs.Outputs.{is_chunk_of}
use Rattle.fol_model.specs.QueuedTask.{begun, counted_down}
use Rattle.fol_model.specs.World.{World, due, start}
use Rattle.fol_model.specs.Begin.{begin}
use Rattle.fol_model.specs.Release.{release}
use Rattle.fol_model.specs.Counters.{owed_after_release, tick_after_release}
use Rattle.fol_model.specs.End.{ended}
use Rattle.fol_model.specs.Run.{Allowed, Run, after, world}
use Rattle.fol_laws.proofs.CounterGrowth.{all_most}
use Rattle.fol_laws.proofs.FunctionsChanged.{at_here, at_other}
use Rattle.fol_laws.proofs.LongerRuns.{run_more, world_more}
use Rattle.fol_laws.proofs.RecordedMargins.{chunk_held}
use Rattle.fol_laws.proofs.WholeRuns.{Good}
use Rattle.fol_chunks.specs.Contents.{is_recorded, outside}
use Rattle.fol_chunks.specs.Order.{chunk_cmp}
use Rattle.fol_regions.specs.Table.{grid_state}
use Rattle.fol_sections.specs.Places.{count_at}
use Rattle.fol_store.specs.Bag.{Bag}
use Rattle.fol_store.specs.Passing.{nearer}
use Rattle.fol_store.specs.Stock.{bag_of, jobs_of}
use Rattle.fol_world.specs.declared.tables.Course.{Course}
use Rattle.fol_world.specs.declared.tables.Tables.{Tables}
use Rattle.fol_world.specs.Begun.{due_task}
use Rattle.fol_world.specs.Bags.{IsBagOf}
use Rattle.fol_world.specs.Hands.{at_rest, in_hands, rests, since}
use Rattle.fol_world.specs.Agenda.{IsAgenda, owes}
use Rattle.fol_world.specs.Quiet.{CanPass, PassesTick}
use Rattle.fol_world.specs.Stands.{Fits, IsCourse, Stands}
use Rattle.fol_core.proofs.BeginKept.{begin_due, begun_marks, its_chunks}
use Rattle.fol_core.proofs.BegunHands.{not_in_hands}
use Rattle.fol_world.proofs.ChunkLists.{kept_listed, kept_sorted, kept_within, loaded_within, owned}
use Rattle.fol_world.proofs.GatheredBags.{ready_here, ready_now}
use Rattle.fol_world.proofs.Held.{ends_most}
use Rattle.fol_core.proofs.LoadKept.{SameMarks}
use Rattle.fol_world.proofs.Longer.{answered_more, good_of, since_more}
use Rattle.fol_core.proofs.QuietHands.{moved_outside, quiet_hands, quiet_rest, quiet_untaken}
use Rattle.fol_core.proofs.QuietWorlds.{end_allowed, passed, quiet_ended}

-- ---- the bags
quiet_bag : (g : GridState) (tick owed : ℕ → ℕ) (recorded : ℕ → Recorded) (x : Recorded) (id : ℕ) (f : ℕ → Bag) → g.state id ≡ Ready → ((r : ℕ) → IsBagOf g tick owed recorded r (f r)) → (r : ℕ)
    → IsBagOf g (at_id tick id (tick id + 1)) (at_id owed id (owed id - 1)) (at_id recorded id x) r (at_id f id (record (f id) { tick = (f id).tick + 1; owed = (f id).owed - 1 }) r)
quiet_bag g tick owed recorded x id f ready is r = elim (cases_eq r id) [
  | inl e ↦ let b = is id in
      let bag = at_here f id (record (f id) { tick = (f id).tick + 1; owed = (f id).owed - 1 }) in
      let t = at_here tick id (tick id + 1) in let o = at_here owed id (owed id - 1) in
      rw (e, bag) (record {
        here = b.here;
        taken = b.taken;
        counter = λ h. ap (λ n. n + 1) (b.counter h) ∙ sym t;
        owes = λ h. ap (λ n. n - 1) (b.owes h) ∙ sym o;
        listed = b.listed;
        since = b.since;
        out = λ k. let no : Ready ≡ Ticking = sym ready ∙ k in absurd (cc);
      })
  | inr d ↦ let b = is r in
      let bag = at_other f id (record (f id) { tick = (f id).tick + 1; owed = (f id).owed - 1 }) r d in
      let t = at_other tick id (tick id + 1) r d in let o = at_other owed id (owed id - 1) r d in let c = at_other recorded id x r d in
      rw bag (record {
        here = b.here;
        taken = b.taken;
        counter = λ h. b.counter h ∙ sym t;
        owes = λ h. b.owes h ∙ sym o;
        listed = b.listed;
        since = b.since;
        out = λ k. b.out k ∙ ap (λ p. filter p all_chunks) (sym c);
      })
]

-- where no task of the chunks has the rest 1, none is due
none_due : (rec : Recorded) (n : ℕ) (o : Option Job) → ForSome o (λ j. rec j.chunk ≡ true → 2 ≤ j.rest) → None ≡ due_task rec n o
none_due rec n None h = refl
none_due rec n (Some j) h = elim (cases_Bool (rec j.chunk)) [
  | inl e ↦ let l = lt-leb j.rest 1 (omega (arith, h j refl e)) in rw (e, l) refl
  | inr e ↦ rw e refl
]

-- the counter of a region that owes a tick; it is no higher than the history is long
pub counter_is : (o : Opening) (h : List Entry) (t : Tables) → Stands o h t → (id : ℕ) → owes (grid_state t.regions) (bag_of t.store) id ≡ true → (bag_of t.store id).tick ≡ (world o h).tick id
counter_is o h t s id owing = (s.fits.stored.bags id).counter (sym (s.fits.stored.bags id).here ∙ ready_here o h t s id owing)

pub counter_most : (o : Opening) (h : List Entry) (t : Tables) → Stands o h t → (id : ℕ) → owes (grid_state t.regions) (bag_of t.store) id ≡ true → (bag_of t.store id).tick ≤ 2 ^ 50 + 1
counter_most o h t s id owing = omega (arith, counter_is o h t s id owing, all_most (start o) h 0 (λ q. omega arith) id, ends_most h, s.size.size, s.size.most)

-- the chunks of the region's bag are in order, and within the limits
module _ (o : Opening) (h : List Entry) (t : Tables) (s : Stands o h t) (id : ℕ) (quiet : CanPass (grid_state t.regions) t.store id) where
  exact_chunks : (bag_of t.store id).chunks ≡ filter (is_chunk_of (world o h).grid id) all_chunks
  exact_chunks = its_chunks o h t s id quiet.owing (and_parts (bag_of t.store id).listed (bag_of t.store id).calm quiet.whole).0

  pub in_order : IsStrictlySortedBy chunk_cmp (bag_of t.store id).chunks
  in_order = rw exact_chunks (kept_sorted (is_chunk_of (world o h).grid id))

  pub in_limits : All (λ c. IsTrue (is_chunk c)) (bag_of t.store id).chunks
  in_limits = rw exact_chunks (kept_within (is_chunk_of (world o h).grid id))

module _ (o : Opening) (h : List Entry) (t : Tables) (s : Stands o h t) (id : ℕ) (quiet : CanPass (grid_state t.regions) t.store id) (u : Tables) (passes : PassesTick t u id) (worker : ℕ) where
  abbrev w : World
  w = world o h

  abbrev rec : Recorded
  rec = is_recorded (bag_of t.store id).chunks

  listed : (bag_of t.store id).listed ≡ true
  listed = (and_parts (bag_of t.store id).listed (bag_of t.store id).calm quiet.whole).0

  ready : w.grid.state id ≡ Ready
  ready = ready_now o h t s id quiet.owing

  good : Good o w
  good = good_of o h t s

  positive : 0 < id
  positive = good.sound.rules.given id (λ d. let r = ready in cc)

  own_chunks : rec ≡ is_chunk_of w.grid id
  own_chunks = ap is_recorded (its_chunks o h t s id quiet.owing listed) ∙ kept_listed (is_chunk_of w.grid id) (loaded_within w.grid id good.sound.rules)

  rest_at : (n : ℕ) → jobs_of t.store n ≡ at_rest w.grid (since o h) n (w.jobs n)
  rest_at n = ap (λ (f : ℕ → Option Job). f n) s.fits.stored.jobs

  later : (n : ℕ) (j : Job) → at_rest w.grid (since o h) n (w.jobs n) ≡ Some j → rec j.chunk ≡ true → 2 ≤ j.rest
  later n j e = passes.later n j (rest_at n ∙ e)

  loaded_job : (n : ℕ) (j : Job) → w.jobs n ≡ Some j → is_loaded w.grid j.chunk ≡ true
  loaded_job n j e = lt-ltb 0 (w.grid.holds j.chunk) (chunk_held w n j good.sound e)

  other_taker : (n : ℕ) (j : Job) → w.jobs n ≡ Some j → j.taker ≢ id
  other_taker n j e x = let p = positive in let z : j.taker ≢ 0 = λ q. omega arith in
      let ticks = (good.sound.each n j e).takes z in let same = ap w.grid.state x in let r = ready in cc

  untaken : (n : ℕ) → is_taken id (counted_down w.grid id (w.jobs n)) ≡ false
  untaken n = quiet_untaken w.grid id ready positive (since o h) n w.next_job rec own_chunks (w.jobs n) (later n) (loaded_job n) (other_taker n)

  none : due (begun w worker id) id ≡ []
  none = sym (begin_due o h t s id quiet.owing listed worker [] tt (fun_ext (λ n. none_due rec n (jobs_of t.store n) (passes.later n))))

  recorded_here : (begun w worker id).recorded id ≡ rec
  unfolding begun
  recorded_here = at_here w.recorded id (λ c. is_loaded w.grid c && nat_eq (w.grid.owner (section_of w.grid.grid c)) id) ∙ sym own_chunks

  -- no worker has a chunk of the region
  free : (c : ChunkPos) → rec c ≡ true → in_hands w.grid w.recorded c ≡ false
  free c k = not_in_hands w.grid id ready positive w.recorded c (owned w.grid id c (sym (ap (λ (r : Recorded). r c) own_chunks) ∙ k))

  rests_again : grid_state t.regions ≡ w.grid
  rests_again = s.fits.regions

  -- the world after the Begin and the End
  ended_world : ended (begun w worker id) id [] ≡ passed w worker id
  ended_world = quiet_ended w worker id none untaken
      (let P : GridState → Type 0 = λ g. release (begin g id) id ≡ g in subst P s.fits.regions quiet.rests)
      (let P : GridState → Type 0 = λ g. (f : ℕ → ℕ) (q : ℕ) → tick_after_release (begin g id) id f q ≡ f q in subst P s.fits.regions quiet.counters)
      (let P : GridState → Type 0 = λ g. (f : ℕ → ℕ) (q : ℕ) → owed_after_release (begin g id) id f q ≡ f q in subst P s.fits.regions quiet.owed)

  allowed_end : Allowed (begun w worker id) (End worker id ((begun w worker id).tick id + 1) [] [])
  allowed_end = end_allowed w worker id none untaken
      (let P : GridState → Type 0 = λ g. release (begin g id) id ≡ g in subst P s.fits.regions quiet.rests)
      (let P : GridState → Type 0 = λ g. (f : ℕ → ℕ) (q : ℕ) → tick_after_release (begin g id) id f q ≡ f q in subst P s.fits.regions quiet.counters)
      (let P : GridState → Type 0 = λ g. (f : ℕ → ℕ) (q : ℕ) → owed_after_release (begin g id) id f q ≡ f q in subst P s.fits.regions quiet.owed)

  begun_counter : (begun w worker id).tick id ≡ w.tick id
  unfolding begun
  begun_counter = refl

  passed_fits : (d : Course) → IsCourse d (passed w worker id) → Fits (record u { course = d }) (passed w worker id) (at_id (since o h) id w.next_job)
  unfolding begun
  passed_fits d course =
      let regions' : grid_state u.regions ≡ w.grid = ap grid_state passes.regions ∙ s.fits.regions in
      record {
        grid = passes.grid ∙ s.fits.grid;
        regions = regions';
        stored = record {
          flat = passes.flat ∙ ap (moved rec) s.fits.stored.flat ∙ moved_outside rec (in_hands w.grid w.recorded) free w.flat
              ∙ ap (λ (x : Recorded). outside (in_hands w.grid w.recorded) (moved x w.flat)) (sym recorded_here)
              ∙ ap (λ (x : Recorded). outside x (moved ((begun w worker id).recorded id) w.flat)) (sym (quiet_hands w.grid id ready positive w.recorded (λ c. is_loaded w.grid c && nat_eq (w.grid.owner (section_of w.grid.grid c)) id)));
          jobs = passes.jobs ∙ fun_ext (λ n. ap (nearer rec) (rest_at n) ∙ quiet_rest w.grid id ready positive (since o h) n w.next_job rec own_chunks (w.jobs n) (later n) (loaded_job n));
          next = passes.next ∙ s.fits.stored.next;
          bags = λ r. let P : (ℕ → Bag) → Type 0 = λ b. IsBagOf w.grid (at_id w.tick id (w.tick id + 1)) (at_id w.owed id (w.owed id - 1)) (at_id w.recorded id (λ c. is_loaded w.grid c && nat_eq (w.grid.owner (section_of w.grid.grid c)) id)) r (b r) in
              subst P (sym passes.bags) (quiet_bag w.grid w.tick w.owed w.recorded (λ c. is_loaded w.grid c && nat_eq (w.grid.owner (section_of w.grid.grid c)) id) id (bag_of t.store) ready s.fits.stored.bags r);
        };
        tickets = λ q. ap (λ x. count_at x.entries q) passes.tickets ∙ s.fits.tickets q;
        agenda = let P : GridState → Type 0 = λ g. IsAgenda u.agenda.items g (bag_of u.store) in subst P regions' passes.agenda;
        course = course;
      }

  -- ---- the history with both entries
  module _ (on : (t.course.finished || t.course.stopped) ≡ false) (few : t.course.size + 2 ≤ 2 ^ 50) where
    abbrev b : Entry
    b = record { by = worker; event = Begin worker id }

    abbrev e : Entry
    e = record { by = worker; event = End worker id ((begun w worker id).tick id + 1) [] [] }

    owed_some : 1 ≤ w.owed id
    owed_some = let here : rests w.grid id ≡ true = sym (s.fits.stored.bags id).here ∙ ready_here o h t s id quiet.owing in
        let some : nat_lt 0 (bag_of t.store id).owed ≡ true = (and_parts (is_ready ((grid_state t.regions).state id)) (nat_lt 0 (bag_of t.store id).owed) quiet.owing).1 in
        omega (arith, ltb-true 0 (bag_of t.store id).owed some, (s.fits.stored.bags id).owes here)

    allowed_begin : Allowed w (Begin worker id)
    allowed_begin = (ready, owed_some, sym s.fits.course.stopped ∙ (or_parts t.course.finished t.course.stopped on).1)

    begun_now : world o (h ++ b ∷ []) ≡ begun w worker id
    begun_now = world_more (start o) h b

    marks : SameMarks w (begun w worker id)
    marks = begun_marks w worker id

    run_begun : Run o (h ++ b ∷ [])
    run_begun = run_more (start o) h b s.run (sym s.fits.course.finished ∙ (or_parts t.course.finished t.course.stopped on).0) allowed_begin

    pub quiet_world : world o ((h ++ b ∷ []) ++ e ∷ []) ≡ passed w worker id
    quiet_world = world_more (start o) (h ++ b ∷ []) e ∙ ap (λ (v : World). after v e.event) begun_now ∙ ended_world

    run_ended : Run o ((h ++ b ∷ []) ++ e ∷ [])
    run_ended = run_more (start o) (h ++ b ∷ []) e run_begun
        (ap (λ (v : World). v.finished) begun_now ∙ marks.finished ∙ sym s.fits.course.finished ∙ (or_parts t.course.finished t.course.stopped on).0)
        (let P : World → Type 0 = λ v. Allowed v e.event in subst P (sym begun_now) allowed_end)

    since_now : since o ((h ++ b ∷ []) ++ e ∷ []) ≡ at_id (since o h) id w.next_job
    since_now = since_more (start o) (λ r. 0) (h ++ b ∷ []) e ∙ since_more (start o) (λ r. 0) h b

    pub quiet_stands : (d : Course) → d ≡ record u.course { size = u.course.size + 2 } → Stands o ((h ++ b ∷ []) ++ e ∷ []) (record u { course = d })
    quiet_stands d grows =
        let same : IsCourse d (passed w worker id) = (let c = s.fits.course in let m = marks in let k : d ≡ record t.course { size = t.course.size + 2 } = grows ∙ ap (λ (x : Course). record x { size = x.size + 2 }) passes.course in rw k (record {
          next_job = c.next_job ∙ sym m.next_job;
          in_phase = c.in_phase ∙ sym m.in_phase;
          sum = c.sum ∙ sym m.sum;
          stopped = c.stopped ∙ sym m.stopped;
          finished = c.finished ∙ sym m.finished;
        })) in
        let size : d.size ≡ t.course.size + 2 = ap (λ (x : Course). x.size) grows ∙ ap (λ (x : Course). x.size + 2) passes.course in
        record {
          grid = s.grid;
          run = run_ended;
          fits = rw (quiet_world, since_now) (passed_fits d same);
          size = record {
            size = omega (arith, size, s.size.size, answered_more (h ++ b ∷ []) e, answered_more h b, length-append (h ++ b ∷ []) (e ∷ []), length-append h (b ∷ []));
            most = omega (arith, size, few);
            before = λ x. omega (arith, size, few);
          };
        }

    -- the same, with what the entries and the course were told to be
    module _ (tick : ℕ) (ran : List Ran) (accepts : List Accept) (told : tick ≡ (bag_of t.store id).tick + 1) (no_ran : ran ≡ []) (no_accepts : accepts ≡ []) where
      abbrev f : Entry
      f = record { by = worker; event = End worker id tick ran accepts }

      same_counter : tick ≡ (begun w worker id).tick id + 1
      same_counter = told ∙ ap (λ n. n + 1) (counter_is o h t s id quiet.owing ∙ sym begun_counter)

      same_end : e ≡ f
      same_end = λ i. record { by = worker; event = End worker id (sym same_counter i) (sym no_ran i) (sym no_accepts i) }

      pub quiet_kept : (c d : Course) → c ≡ record u.course { size = u.course.size + 1 } → d ≡ record c { size = c.size + 1 } → Stands o ((h ++ b ∷ []) ++ f ∷ []) (record u { course = d })
      quiet_kept c d one two =
          let more : u.course.size + 1 + 1 ≡ u.course.size + 2 = omega arith in
          let both : d ≡ record u.course { size = u.course.size + 2 } = two ∙ ap (λ (x : Course). record x { size = x.size + 1 }) one ∙ ap (λ n. let r : Course = record u.course { size = n } in r) more in
          let P : Entry → Type 0 = λ x. Stands o ((h ++ b ∷ []) ++ x ∷ []) (record u { course = d }) in subst P same_end (quiet_stands d both)

      -- the counter rose
      pub quiet_counts : (world o ((h ++ b ∷ []) ++ f ∷ [])).tick id ≡ w.tick id + 1
      quiet_counts = ap (λ (x : Entry). (world o ((h ++ b ∷ []) ++ x ∷ [])).tick id) (sym same_end) ∙ ap (λ (v : World). v.tick id) quiet_world ∙ at_here w.tick id (w.tick id + 1)
