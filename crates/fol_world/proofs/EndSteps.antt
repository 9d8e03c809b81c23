-- The steps of an End: what each needs, and what the tables stand for after it.
use Rattle.std.proofs.Common.{◌≡◌, ℕ, ◌+◌, ◌*◌, ◌≤◌, ◌<◌, ◌^◌, refl, sym, ◌∙◌, ap, subst, arith, true, inl, inr, List, [], ◌∷◌, ◌++◌, length, ◌||◌, vec_len, vec_capacity}
use Rattle.std.specs.Prelude.{nat_eq, nat_lt, if◌then◌else◌, filter, Option, Some, None, IsTrue}
use Rattle.std.specs.List.{AllByRecursion}
use Rattle.std.specs.Option.{ForSome, is_none, option_or}
use Rattle.std.proofs.Math.Path.{fun_ext}
use Rattle.std.proofs.lemmas.Bool.{cases_Bool, eqb-true, and_parts, ltb-false, ltb-true}
use Rattle.std.proofs.lemmas.List.{append-nil}
use Rattle.fol_model.specs.declared.places.ChunkPos.{ChunkPos}
use Rattle.fol_model.specs.declared.regions.State.TheVariants.{Dead, Ticking}
use Rattle.fol_model.specs.declared.openings.Opening.{Opening}
use Rattle.fol_model.specs.declared.tasks.Wish.{Wish}
use Rattle.fol_model.specs.declared.events.Accept.{Accept}
use Rattle.fol_model.specs.declared.events.Entry.{Entry}
use Rattle.fol_model.specs.declared.events.Event.TheVariants.{End}
use Rattle.fol_model.specs.Geometry.{chunk_of}
use Rattle.fol_model.specs.GridState.{GridState, is_ticking, present_count}
use Rattle.fol_model.specs.Universe.{all_chunks}
use Rattle.fol_model.specs.Outputs.{is_chunk_of}
use Rattle.fol_model.specs.Counters.{owed_after_release, tick_after_release}
use Rattle.fol_model.specs.Release.{release}
use Rattle.fol_model.specs.ActionStep.{Flat, Recorded, Standing}
use Rattle.fol_model.specs.Job.{Job, is_on}
use Rattle.fol_model.specs.World.{World, due, start}
use Rattle.fol_model.specs.End.{all_accepted, answers, dropped, ended, released, run_down, ticked}
use Rattle.fol_model.specs.Run.{RunFrom, world}
use Rattle.fol_laws.proofs.FunctionsChanged.{at_here, at_other}
use Rattle.fol_laws.proofs.NewCounters.{new_counters}
use Rattle.fol_laws.proofs.NumberGrowth.{ids_grow, jobs_grow}
use Rattle.fol_laws.proofs.CounterGrowth.{all_most}
use Rattle.fol_laws.proofs.SoundRuns.{Ending, run_down_ending, wishes_ok}
use Rattle.fol_laws.proofs.TickingKept.{Kept, kept_all}
use Rattle.fol_laws.proofs.UnseenEnds.{recorded_owner}
use Rattle.fol_laws.proofs.WholeRuns.{Good}
use Rattle.fol_laws.proofs.WishLimits.{WishOk}
use Rattle.fol_model.specs.QueuedTask.{is_queued_in, queued_in}
use Rattle.fol_end_laws.proofs.SentNowhere.{sent_nowhere}
use Rattle.fol_chunks.specs.Contents.{Apart, Contents, flat_of as contents_of, is_recorded, joined, option_filter, outside, within}
use Rattle.fol_queues.specs.Waiting.{dated, jobs_of as jobs_in}
use Rattle.fol_data.specs.declared.tick.Tick.{Tick}
use Rattle.fol_data.specs.declared.region_data.RegionData.{RegionData}
use Rattle.fol_data.specs.Rests.{IsInTime, rests_of}
use Rattle.fol_regions.specs.Table.{grid_state}
use Rattle.fol_regions.specs.Changes.{release_change}
use Rattle.fol_world.specs.Agenda.{Covers}
use Rattle.fol_store.specs.Stock.{bag_of, flat_of, jobs_of, next_of}
use Rattle.fol_world.specs.declared.tables.Tables.{Tables}
use Rattle.fol_world.specs.AtEnd.{end_event, AtEnd}
use Rattle.fol_world.specs.Bags.{KeepsUp}
use Rattle.fol_world.specs.CatchingUp.{AreHeld}
use Rattle.fol_world.specs.Hands.{at_rest, in_hands, since}
use Rattle.fol_world.specs.MostParts.{parts_at_most}
use Rattle.fol_world.specs.Follows.{Settle}
use Rattle.fol_world.specs.Released.{CanEnd, CanRelease, EndsRegion, heirs, parts_in, released_bags}
use Rattle.fol_world.proofs.ReturnedBags.{back_joins, back_order, returned_lists, returned_settle}
use Rattle.fol_world.proofs.SettledBags.{settled_bags}
use Rattle.fol_world.specs.Stands.{AreTickets, Fits, Stands}
use Rattle.fol_world.specs.Underway.{AreFit, Ends, HasRoomFor, MayAcceptAll, Midway, StillHold, Underway, holding}
use Rattle.fol_world.proofs.Holding.{holding_none}
use Rattle.fol_world.proofs.BackTasks.{apart, end_queue, in_time, tasks_apart}
use Rattle.fol_world.proofs.Flats.{flat_ext}
use Rattle.fol_world.proofs.Held.{ends_most}
use Rattle.fol_world.proofs.Longer.{good_of}
use Rattle.fol_world.proofs.MostParts.{all_wished_few, parts_enough, parts_less}
use Rattle.fol_laws.proofs.ReleaseKeeps.{grid_release}
use Rattle.fol_world.proofs.OwedKept.{all_owe}
use Rattle.fol_world.proofs.ReleasedHands.{flat_back, in_hands_there, jobs_back}
use Rattle.fol_world.proofs.ReleasedStock.{ReleasedTo, released_to}
use Rattle.fol_world.proofs.RunDown.{ending_again, few_on, grid_again, still_there, stored_again}
use Rattle.fol_world.proofs.SinceRuns.{since_most}
use Rattle.fol_world.proofs.TicketRuns.{tickets_most}
use Rattle.fol_world.proofs.Unheld.{none_on, none_rests}
use Rattle.fol_world.proofs.UnsettledBags.{have_bags}

-- one of a list of which all are so
one_of : (P : Wish → Type 0) (before behind : List Wish) (x : Wish) → AllByRecursion P (before ++ x ∷ behind) → P x
one_of P [] behind x all = all.0
one_of P (y ∷ before) behind x all = one_of P before behind x all.1

filter_twice : (rec : Recorded) (x : Option Standing) → option_filter (λ (s : Standing). rec (chunk_of s.at)) x ≡ option_filter (λ (s : Standing). rec (chunk_of s.at)) (option_filter (λ (s : Standing). rec (chunk_of s.at)) x)
filter_twice rec None = refl
filter_twice rec (Some s) = elim (cases_Bool (rec (chunk_of s.at))) [ inl e ↦ rw (e, e) refl | inr e ↦ rw e refl ]

abbrev taker_in : Job → Option Job → ℕ
taker_in i None = i.taker
taker_in i (Some j) = j.taker

pub within_twice : (rec : Recorded) (f : Flat) → within rec f ≡ within rec (within rec f)
within_twice rec f = flat_ext (within rec f) (within rec (within rec f))
    (λ b. elim (cases_Bool (rec (chunk_of b))) [ inl e ↦ rw e refl | inr e ↦ rw e refl ])
    (λ id. filter_twice rec (f.standing id))

pub queued_was : (g : GridState) (r : ℕ) (x : Option Job) (j : Job) → queued_in g r x ≡ Some j → (x ≡ Some j) × (j.taker ≡ 0)
unfolding queued_in
queued_was g r None j h = absurd (cc)
queued_was g r (Some i) j h = elim (cases_Bool (is_queued_in g r i)) [
  | inl k ↦ let e : Some i ≡ Some j = rw k at h in
      let z : i.taker ≡ 0 = eqb-true _ _ (and_parts (nat_eq i.taker 0) _ k).0 in
      (e, sym (ap (taker_in i) e) ∙ z)
  | inr k ↦ let e : None ≡ Some j = rw k at h in absurd (cc)
]

module _ (t : Tables) (tick : Tick) (o : Opening) (h : List Entry) (s : Stands o h t) (at : AtEnd (world o h) (since o h) tick) where
  abbrev w : World
  w = world o h

  abbrev r : ℕ
  r = tick.region

  abbrev v : World
  v = run_down (world o h) tick.region tick.log.ran

  good : Good o w
  good = good_of o h t s

  run_nil : RunFrom (start o) (h ++ [])
  run_nil = rw (append-nil h) s.run

  -- the event, where these are the answers
  pub end_is : (old new listed : List Accept) → old ≡ [] → new ≡ old ++ answers v tick.log.wishes → listed ≡ new
      → End tick.worker r (tick.body.tick + 1) tick.log.ran listed ≡ end_event w tick.worker r tick.log.ran
  end_is old new listed empty given e =
      let c : tick.body.tick + 1 ≡ w.tick r + 1 = ap (λ (n : ℕ). n + 1) at.counter in
      let n : new ≡ answers v tick.log.wishes = given ∙ ap (λ (xs : List Accept). xs ++ answers v tick.log.wishes) empty in
      let a : listed ≡ answers v (ticked w r tick.log.ran).wishes = e ∙ n ∙ ap (answers v) (sym at.wishes) in
      ap (λ (k : ℕ). End tick.worker r k tick.log.ran listed) c ∙ ap (λ (xs : List Accept). End tick.worker r (w.tick r + 1) tick.log.ran xs) a

  -- ---- the wishes can be accepted
  all_ok : AllByRecursion (WishOk (w.recorded r)) tick.log.wishes
  all_ok = rw at.wishes at (wishes_ok w r tick.log.ran good.sound)

  pub fits_all : AreFit (v.recorded r) v tick.log.wishes
  unfolding dropped
  fits_all before behind x e =
      let ok : AllByRecursion (WishOk (w.recorded r)) (before ++ x ∷ behind) = rw e at all_ok in (
        one_of (WishOk (w.recorded r)) before behind x ok,
        λ a is. sent_nowhere o h [] s.grid run_nil r tick.log.ran before behind x a at.ticks (at.wishes ∙ e) is,
      )

  counter_most : w.tick r ≤ 2 ^ 51
  counter_most = omega (arith, all_most (start o) h 0 (λ q. omega arith) r, ends_most h, s.size.size, s.size.most)

  pub bound : tick.body.tick + 1 ≤ 2 ^ 62
  bound = omega (arith, counter_most, at.counter)

  down_ending : Ending r v
  down_ending = run_down_ending w r tick.log.ran good.sound at.ticks

  few_next : w.grid.next + 2 ^ 52 ≤ 2 ^ 61
  few_next = omega (arith, ids_grow o h [] s.grid run_nil, ends_most h, s.size.size, s.size.most)

  few_jobs : w.next_job ≤ 2 + 2 ^ 50
  few_jobs = omega (arith, jobs_grow o h [] s.grid run_nil, s.size.size, s.size.most)

  new_ticks : (q : ℕ) → v.grid.next ≤ q → v.tick q ≡ 0
  unfolding dropped
  new_ticks q l = at_other w.tick r (w.tick r + 1) q (λ e. let b = good.sound.rules.below_next r (λ d. let x = at.ticks in cc) in omega arith) ∙ new_counters o h [] s.grid run_nil q l

  module _ (size : t.course.size + (1 + length tick.log.wishes) ≤ 2 ^ 50) (memory : HasRoomFor t tick.body.chunks (length tick.log.wishes)) where
    -- ---- before the tasks that ran dropped their holds
    abbrev u : World
    u = holding (due (world o h) tick.region) (run_down (world o h) tick.region tick.log.ran)

    again : u.grid ≡ w.grid
    again = grid_again o h s.grid s.run r at.ticks tick.log.ran

    still_ends : Ends u (since o h) r (length tick.log.wishes + 0)
    unfolding dropped
    still_ends = record {
      ending = ending_again o h s.grid s.run r at.ticks tick.log.ran;
      own = λ c e. recorded_owner w r c good.recorded.margin at.ticks e;
      new_ticks = new_ticks;
      since_most = since_most o h;
      few_ids = omega (arith, few_next, size);
      few_jobs = omega (arith, few_jobs, size);
      few_tickets = λ c. omega (arith, tickets_most o h c, few_on o h s.grid s.run r at.ticks tick.log.ran c, few_jobs, s.size.size, s.size.most);
    }

    still_midway : Midway t u (since o h)
    unfolding dropped
    still_midway = record {
      grid = s.fits.grid;
      regions = s.fits.regions ∙ sym again;
      stored = stored_again o h s.grid s.run r at.ticks tick.log.ran (since o h) t.store s.fits.stored;
      tickets = λ c. omega (arith, s.fits.tickets c);
      covers = subst (λ (g : GridState). Covers t.agenda.items g (bag_of t.store)) (sym again) s.fits.agenda.covers;
      course = record { next_job = s.fits.course.next_job; in_phase = s.fits.course.in_phase; sum = s.fits.course.sum; stopped = s.fits.course.stopped; finished = s.fits.course.finished };
    }

    few_parts : parts_at_most (grid_state t.regions) (length tick.log.wishes + 0) ≤ parts_at_most (grid_state t.regions) (length tick.log.wishes)
    few_parts = parts_less (grid_state t.regions) (grid_state t.regions) _ _ (omega arith)

    still_underway : Underway t tick.body.chunks u (since o h) r (length tick.log.wishes + 0)
    unfolding dropped
    still_underway = record {
      midway = still_midway;
      ends = still_ends;
      room = record {
        regions = omega (arith, memory.regions);
        tasks = omega (arith, memory.tasks);
        slots = omega (arith, memory.slots, few_parts);
        tickets = memory.tickets;
        agenda = omega (arith, memory.agenda, few_parts);
        entities = omega (arith, memory.entities);
      };
      contents = at.contents;
    }

    pub first : StillHold t tick.body.chunks v (since o h) r tick.due (length tick.log.wishes + 0)
    unfolding dropped
    first = rw at.due (record {
      underway = still_underway;
      tickets = s.fits.tickets;
      there = still_there o h s.grid s.run r at.ticks tick.log.ran;
    })

    pub may_accept : MayAcceptAll t tick.body.chunks r tick.due tick.log.wishes
    may_accept = record { world = v; since = since o h; rest = 0; held = first; fit = fits_all }

  -- once none holds its chunk any more
  pub none_holds : (t2 : Tables) (k : Contents) (z : World) → StillHold t2 k z (since o h) r [] 0 → Underway t2 k z (since o h) r 0
  none_holds t2 k z held = subst (λ (y : World). Underway t2 k y (since o h) r 0) (holding_none z) held.underway

  -- ---- after the wishes were accepted
  module _ (t2 : Tables) (k : Contents) (u : Underway t2 k (all_accepted v tick.log.wishes) (since o h) r 0) (tickets : AreTickets t2.tickets.entries (all_accepted v tick.log.wishes).tickets) where
    abbrev z : World
    z = all_accepted (run_down (world o h) tick.region tick.log.ran) tick.log.wishes

    abbrev g : GridState
    g = (all_accepted (run_down (world o h) tick.region tick.log.ran) tick.log.wishes).grid

    abbrev body : RegionData
    body = record tick.body { tick = tick.body.tick + 1; chunks = k }

    kept : Kept r v z
    kept = kept_all (w.recorded r) r v tick.log.wishes r down_ending down_ending.ticks all_ok

    recorded_same : z.recorded r ≡ w.recorded r
    unfolding dropped
    recorded_same = kept.recorded

    pub ticks_still : (grid_state t2.regions).state r ≡ Ticking
    ticks_still = rw u.midway.regions u.ends.ending.ticks

    pub few_ids : (grid_state t2.regions).next < 2 ^ 62
    few_ids = rw u.midway.regions (omega (arith, u.ends.few_ids))

    pub still_taken : (bag_of t2.store r).taken ≡ true
    still_taken = (u.midway.stored.bags r).taken ∙ ap is_ticking u.ends.ending.ticks

    pub its_chunks : tick.chunks ≡ (bag_of t2.store r).chunks
    its_chunks = at.chunks ∙ ap (λ (p : Recorded). filter p all_chunks) (sym recorded_same) ∙ sym ((u.midway.stored.bags r).out u.ends.ending.ticks)

    -- a task that comes back
    comes : (n : ℕ) (j : Job) → jobs_in tick.body.queues (tick.body.tick + 1) n ≡ Some j → (w.jobs n ≡ Some j) × (j.taker ≡ 0)
    comes n j e = let q = sym (at.queue n) ∙ e in elim (cases_Bool (nat_lt n (since o h r))) [
      | inl l ↦ let x : queued_in w.grid r (w.jobs n) ≡ Some j = rw l at q in queued_was w.grid r (w.jobs n) j x
      | inr l ↦ let x : None ≡ Some j = rw l at q in absurd (cc)
    ]

    pub are_in_time : (n : ℕ) → ForSome (dated tick.body.queues n) (IsInTime (tick.body.tick + 1))
    are_in_time n = in_time tick.body.queues (tick.body.tick + 1) n (λ j e. let c = comes n j e in let ok = good.sound.each n j c.0 in (ok.rest_low c.1, ok.rest_high))

    contents_in : contents_of k ≡ within (w.recorded r) z.flat
    contents_in = u.contents ∙ ap (λ (p : Recorded). within p z.flat) recorded_same

    pub contents_there : contents_of k ≡ within (is_recorded tick.chunks) (contents_of k)
    contents_there = contents_in ∙ within_twice (w.recorded r) z.flat ∙ ap (within (w.recorded r)) (sym contents_in) ∙ ap (λ (p : Recorded). within p (contents_of k)) (sym at.listed)

    pub tasks_there : (n : ℕ) → ForSome (rests_of body n) (λ j. is_recorded tick.chunks j.chunk ≡ true)
    tasks_there n j e = ap (λ (p : Recorded). p j.chunk) at.listed ∙ at.there n j e

    in_hand : (c : ChunkPos) → z.recorded r c ≡ true → in_hands g z.recorded c ≡ true
    in_hand = in_hands_there g r u.ends.ending.sound.rules u.ends.ending.sound.grid u.ends.ending.ticks z.recorded u.ends.own

    pub contents_apart : Apart (flat_of t2.store) (contents_of k)
    contents_apart = rw (u.midway.stored.flat, u.contents) (apart (in_hands g z.recorded) (z.recorded r) z.flat in_hand)

    below_next : (n : ℕ) → n < since o h r → n < v.next_job
    unfolding dropped
    below_next n l = omega (arith, since_most o h r)

    queue_still : (n : ℕ) → n < since o h r → queued_in g r (z.jobs n) ≡ queued_in w.grid r (w.jobs n)
    queue_still n l =
        let q = end_queue w good.sound r tick.log.ran at.ticks in
        let e : (ticked w r tick.log.ran).wishes ≡ tick.log.wishes = at.wishes in
        let q' : (k : Kept r v z) (i : ℕ) → i < v.next_job → queued_in g r (z.jobs i) ≡ queued_in w.grid r (w.jobs i) = rw e at q in
        q' kept n (below_next n l)

    -- what comes back, in the world after the wishes
    back : (n : ℕ) → rests_of body n ≡ (if nat_lt n (since o h r) then queued_in g r (z.jobs n) else None)
    back n = at.queue n ∙ (elim (cases_Bool (nat_lt n (since o h r))) [
      | inl l ↦ rw l (sym (queue_still n (ltb-true n (since o h r) l)))
      | inr l ↦ rw l refl
    ])

    pub jobs_apart : (n : ℕ) → IsTrue (is_none (jobs_of t2.store n) || is_none (rests_of body n))
    jobs_apart n = let a : jobs_of t2.store n ≡ at_rest g (since o h) n (z.jobs n) = ap (λ (f : ℕ → Option Job). f n) u.midway.stored.jobs in let b = back n in
        rw (a, b) (tasks_apart g r u.ends.ending.sound.rules u.ends.ending.sound.grid u.ends.ending.ticks (since o h) n (z.jobs n))

    -- the tasks, once they are back
    job_now : (n : ℕ) → option_or (jobs_of t2.store n) (rests_of body n) ≡ at_rest (release g r) (since o h) n (z.jobs n)
    job_now n = let a : jobs_of t2.store n ≡ at_rest g (since o h) n (z.jobs n) = ap (λ (f : ℕ → Option Job). f n) u.midway.stored.jobs in let b = back n in
        rw (a, b) (jobs_back g r u.ends.ending.sound.rules u.ends.ending.sound.grid u.ends.ending.ticks (since o h) n (z.jobs n))

    tasks_held : AreHeld g (λ n. option_or (jobs_of t2.store n) (rests_of body n))
    tasks_held q unheld n =
        let none : g.holds q ≤ 0 = ltb-false 0 (g.holds q) unheld in
        ap (is_on q) (job_now n) ∙ none_rests (release g r) (since o h) n q (z.jobs n) (none_on g z.tickets z.jobs z.next_job u.ends.ending.sound q (omega (arith, none)) n)

    are_held : AreHeld (grid_state t2.regions) (λ n. option_or (jobs_of t2.store n) (rests_of body n))
    are_held = rw u.midway.regions tasks_held

    -- ---- the release
    to : ReleasedTo g (release g r) r (release_change g r) z.tick z.owed (tick_after_release g r z.tick) (owed_after_release g r z.owed) z.recorded (bag_of t2.store)
    to = released_to g r u.ends.ending.sound.rules u.ends.ending.sound.grid u.ends.ending.ticks z.tick z.owed z.recorded (bag_of t2.store) u.midway.stored.bags

    counter_now : tick.body.tick + 1 ≡ z.tick r
    unfolding dropped
    counter_now = ap (λ (n : ℕ). n + 1) at.counter ∙ sym (kept.tick ∙ at_here w.tick r (w.tick r + 1))

    owed_now : tick.body.owed ≡ z.owed r
    unfolding dropped
    owed_now = at.owed ∙ sym (all_owe (w.recorded r) v tick.log.wishes r r down_ending down_ending.ticks all_ok)

    back_follows : (bag_of t2.store r).listed ≡ true → KeepsUp (bag_of t2.store r) (filter (is_chunk_of g r) all_chunks)
    back_follows w = (u.midway.stored.bags r).listed (λ d. let x : Ticking ≡ Dead = sym u.ends.ending.ticks ∙ d in absurd (cc)) w

    parts_few : length (parts_in (release g r) (release_change g r) r) ≤ parts_at_most (grid_state t2.regions) 0
    parts_few = rw u.midway.regions (parts_enough g g _ 0 to.few u.ends.ending.sound.rules (omega arith))

    can_now : CanRelease t2.store t2.agenda.items g r (z.tick r) (z.owed r)
    can_now = record {
      joins = λ b is. back_joins g r u.ends.ending.sound.rules u.ends.ending.sound.grid u.ends.ending.ticks z.tick z.owed z.recorded (bag_of t2.store) u.midway.stored.bags b is (release_change g r).merges to.joins;
      order = back_order g r u.ends.ending.sound.rules u.ends.ending.sound.grid u.ends.ending.ticks z.tick z.owed z.recorded (bag_of t2.store) u.midway.stored.bags;
      settles = returned_settle g r u.ends.ending.sound.rules u.ends.ending.sound.grid u.ends.ending.ticks z.tick z.owed z.recorded (bag_of t2.store) u.midway.stored.bags;
      lists = returned_lists g r u.ends.ending.sound.rules u.ends.ending.sound.grid u.ends.ending.ticks z.tick z.owed z.recorded (bag_of t2.store) u.midway.stored.bags;
      follow = rw u.midway.stored.next to.follow;
      slots = omega (arith, parts_few, u.room.slots);
      bags = have_bags (release g r) (tick_after_release g r z.tick) (owed_after_release g r z.owed) z.recorded (released_bags (release g r) (release_change g r) r (z.tick r) (z.owed r) (bag_of t2.store)) to.bags;
      covers = to.covers t2.agenda.items u.midway.covers;
    }

    pub can_release : CanRelease t2.store t2.agenda.items (grid_state t2.regions) r (tick.body.tick + 1) tick.body.owed
    can_release = rw (u.midway.regions, counter_now, owed_now) can_now

    heirs_few : length (heirs (release (grid_state t2.regions) r) (release_change (grid_state t2.regions) r) r) ≤ parts_at_most (grid_state t2.regions) 0
    heirs_few = rw u.midway.regions (parts_enough g g _ 0 to.few_heirs u.ends.ending.sound.rules (omega arith))

    -- the sections are those that were there before, and those that the wishes added
    present_now : present_count g ≤ present_count w.grid + 289 * length tick.log.wishes
    unfolding dropped
    present_now = all_wished_few (w.recorded r) v tick.log.wishes r down_ending all_ok

    pub heirs_foreseen : length (heirs (release (grid_state t2.regions) r) (release_change (grid_state t2.regions) r) r) ≤ parts_at_most (grid_state t.regions) (length tick.log.wishes)
    heirs_foreseen = rw (u.midway.regions, s.fits.regions) (parts_enough w.grid g _ _ to.few_heirs u.ends.ending.sound.rules present_now)

    pub agenda_room : vec_len t2.agenda + length (heirs (release (grid_state t2.regions) r) (release_change (grid_state t2.regions) r) r) ≤ vec_capacity t2.agenda
    agenda_room = omega (arith, heirs_few, u.room.agenda)

    pub can_end : CanEnd t2 r tick.chunks body
    can_end = record {
      comes = record {
        ticks = ticks_still;
        out = still_taken;
        chunks = its_chunks;
        grid = u.midway.grid ∙ ap (λ (i : GridState). i.grid) (sym u.midway.regions);
        follows = rw u.midway.regions back_follows;
        bound = bound;
        in_time = are_in_time;
        contents_there = contents_there;
        tasks_there = tasks_there;
        contents_apart = contents_apart;
        tasks_apart = jobs_apart;
        held = are_held;
      };
      spare = omega (arith, u.room.regions);
      few_ids = few_ids;
      rules = rw u.midway.regions u.ends.ending.sound.rules;
      can = can_release;
      room = agenda_room;
    }

    module _ (t3 : Tables) (ends : EndsRegion t2 t3 r body) where
      regions_now : grid_state t3.regions ≡ release g r
      regions_now = ends.regions ∙ ap (λ (i : GridState). release i r) u.midway.regions

      flat_now : flat_of t3.store ≡ outside (in_hands (release g r) z.recorded) z.flat
      flat_now = ends.contents ∙ ap (λ (f : Flat). joined f (contents_of k)) u.midway.stored.flat ∙ ap (joined (outside (in_hands g z.recorded) z.flat)) u.contents
          ∙ flat_back g r u.ends.ending.sound.rules u.ends.ending.sound.grid u.ends.ending.ticks z.recorded u.ends.own z.flat

      next_now : next_of t3.store ≡ (release g r).next
      next_now = let e : next_of t3.store ≡ next_of t2.store + length (parts_in (release g r) (release_change g r) r) = let n = ends.next in rw u.midway.regions at n in omega (arith, e, u.midway.stored.next, to.next)

      bags_now : Settle (release g r) (released_bags (release g r) (release_change g r) r (z.tick r) (z.owed r) (bag_of t2.store)) (bag_of t3.store)
      bags_now = let e = u.midway.regions in let c = counter_now in let d = owed_now in let b = ends.bags in rw (e, c, d) at b

      end_fits : Fits t3 (released z r) (since o h)
      unfolding released
      end_fits = record {
        grid = ends.grid ∙ u.midway.grid ∙ sym (grid_release g r);
        regions = regions_now;
        stored = record {
          flat = flat_now;
          jobs = ends.tasks ∙ fun_ext job_now;
          next = next_now;
          bags = settled_bags (release g r) (tick_after_release g r z.tick) (owed_after_release g r z.owed) z.recorded (released_bags (release g r) (release_change g r) r (z.tick r) (z.owed r) (bag_of t2.store)) (bag_of t3.store) to.bags bags_now;
        };
        tickets = let e = ends.tickets in rw e tickets;
        agenda = let a = ends.agenda in rw regions_now at a;
        course = let e = ends.course in rw e (record { next_job = u.midway.course.next_job; in_phase = u.midway.course.in_phase; sum = u.midway.course.sum; stopped = u.midway.course.stopped; finished = u.midway.course.finished });
      }

      pub fits_end : Fits t3 (ended w r tick.log.ran) (since o h)
      unfolding ended
      fits_end = let e : (ticked w r tick.log.ran).wishes ≡ tick.log.wishes = at.wishes in rw e end_fits
