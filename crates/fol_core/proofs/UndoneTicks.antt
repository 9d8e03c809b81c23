-- The tick of a prepared region comes back: what that needs, and what the tables stand for then.
use Rattle.std.proofs.Common.{◌≡◌, ◌≢◌, ℕ, ◌+◌, ◌-◌, ◌≤◌, ◌<◌, ◌^◌, refl, sym, ◌∙◌, ap, subst, arith, Bool, true, false, inl, inr, not, ◌&&◌, ◌||◌, List, [], ◌∷◌, ◌++◌, filter, cond}
use Rattle.std.specs.Prelude.{nat_eq, nat_lt, IfSome, IsNone, IsTrue, Option, Some, None}
use Rattle.std.specs.Global.{Vec}
use Rattle.std.specs.Option.{is_none, is_some, option_map, option_or}
use Rattle.std.proofs.Math.Path.{fun_ext}
use Rattle.std.proofs.lemmas.Bool.{cases_Bool, cases_eq, and_from, and_parts, eq-eqb, lt-ltb, ltb-false, or_parts, true≢false}
use Rattle.fol_model.specs.declared.places.ChunkPos.{ChunkPos}
use Rattle.fol_model.specs.declared.openings.Opening.{Opening}
use Rattle.fol_model.specs.declared.events.Entry.{Entry}
use Rattle.fol_model.specs.declared.regions.State.{State}
use Rattle.fol_model.specs.declared.regions.State.TheVariants.{Ready, Ticking}
use Rattle.fol_model.specs.declared.tasks.Task.{Task}
use Rattle.fol_model.specs.Geometry.{section_of}
use Rattle.fol_model.specs.Universe.{all_chunks}
use Rattle.fol_model.specs.Counting.{count_below}
use Rattle.fol_model.specs.GridState.{GridState, is_loaded, is_ticking}
use Rattle.fol_model.specs.Rules.{Rules}
use Rattle.fol_model.specs.Begin.{begin}
use Rattle.fol_model.specs.ActionStep.{Recorded, at_id}
use Rattle.fol_model.specs.FlatTick.{Rising}
use Rattle.fol_model.specs.Job.{Job, is_on}
use Rattle.fol_model.specs.Outputs.{is_chunk_of}
use Rattle.fol_model.specs.QueuedTask.{begun, counted_down, queued_in}
use Rattle.fol_model.specs.World.{World, start}
use Rattle.fol_model.specs.Run.{world}
use Rattle.fol_laws.proofs.CountBelow.{count_less}
use Rattle.fol_laws.proofs.CounterGrowth.{all_most}
use Rattle.fol_laws.proofs.FunctionsChanged.{at_here, at_other}
use Rattle.fol_laws.proofs.OutcomesAgain.{due_rising}
use Rattle.fol_laws.proofs.RecordedMargins.{chunk_held}
use Rattle.fol_laws.proofs.WholeRuns.{Good}
use Rattle.fol_early_laws.specs.EarlyBegins.{ahead_of, down_all, unhanded}
use Rattle.fol_early_laws.proofs.EarlyEvents.{owed_off, state_off}
use Rattle.fol_early_laws.proofs.EarlyWorlds.{ahead_more, unhanded_ahead, unhanded_begun}
use Rattle.fol_chunks.specs.Contents.{flat_of as contents_of, is_recorded, joined, outside, within}
use Rattle.fol_queues.specs.declared.dated.Dated.{Dated}
use Rattle.fol_queues.specs.Waiting.{dated, job_of, jobs_of as jobs_in, task_in}
use Rattle.fol_data.specs.declared.region_data.RegionData.{RegionData}
use Rattle.fol_data.specs.declared.tick.Tick.{Tick}
use Rattle.fol_data.specs.Rests.{rests_of}
use Rattle.fol_regions.specs.Answers.{unbegun}
use Rattle.fol_regions.specs.Table.{grid_state}
use Rattle.fol_store.specs.Bag.{Bag}
use Rattle.fol_store.specs.Stock.{bag_of, flat_of, jobs_of}
use Rattle.fol_core.specs.declared.machine.Room.{Room}
use Rattle.fol_core.specs.declared.machine.Room.TheVariants.{Begin, End}
use Rattle.fol_world.specs.declared.tables.Course.{Course}
use Rattle.fol_world.specs.declared.tables.Tables.{Tables}
use Rattle.fol_world.specs.Agenda.{Covers, HaveBags, owes}
use Rattle.fol_core.specs.Ahead.{AheadRun, AreAmong, StandsAhead}
use Rattle.fol_world.specs.Bags.{AreBut, IsBagOf, KeepsUp}
use Rattle.fol_world.specs.CatchingUp.{AreHeld}
use Rattle.fol_world.specs.Hands.{at_rest, in_hands, owner_of, since, went}
use Rattle.fol_core.specs.Meaning.{ForBegin}
use Rattle.fol_world.specs.Released.{CanComeBack, IsReturned}
use Rattle.fol_core.specs.Room.{EntryRoom, HasRoom, room_of}
use Rattle.fol_world.specs.Stands.{Fits, IsCourse, Stands}
use Rattle.fol_core.specs.Ticks.{IsTick}
use Rattle.fol_queues.specs.Again.{AreNew}
use Rattle.fol_core.specs.Undone.{IsRoomAgain, Undoes, rests_again}
use Rattle.fol_core.proofs.Ahead.{at_again, good_now, state_ahead}
use Rattle.fol_core.proofs.AheadRuns.{good_at}
use Rattle.fol_world.proofs.BackTasks.{apart, chunk_in, in_time}
use Rattle.fol_core.proofs.BeginKept.{state_else}
use Rattle.fol_core.proofs.BegunHands.{hands_after, not_in_hands, went_quiet}
use Rattle.fol_world.proofs.ChunkLists.{kept_listed, loaded_within, owned}
use Rattle.fol_core.proofs.DueLists.{due_has}
use Rattle.fol_world.proofs.EndSteps.{queued_was, within_twice}
use Rattle.fol_world.proofs.Flats.{joined_back}
use Rattle.fol_world.proofs.Held.{ends_most}
use Rattle.fol_world.proofs.JoinedBags.{behind, in_front}
use Rattle.fol_world.proofs.KeptUp.{keeps_exact}
use Rattle.fol_core.proofs.OwedMost.{owed_most}
use Rattle.fol_world.proofs.Unheld.{none_on, none_rests}
use Rattle.fol_core.proofs.UndoneTasks.{again_at, again_job, all_new, job_back, jobs_apart, one_listed, one_number, taken_apart, taken_one}
use Rattle.fol_world.proofs.UnsettledBags.{have_bags}

none_dated : (k : ℕ) (x : Option Dated) → option_map (job_of k) x ≡ None → IsNone x
none_dated k None e = refl
none_dated k (Some d) e = absurd (cc)

-- a task that is queued with a region is on its ground
queued_there : (g : GridState) (r : ℕ) (x : Option Job) (j : Job) → queued_in g r x ≡ Some j → nat_eq (owner_of g j.chunk) r ≡ true
unfolding queued_in
queued_there g r None j e = absurd (cc)
queued_there g r (Some i) j e = elim (cases_Bool (nat_eq i.taker 0 && nat_eq (owner_of g i.chunk) r)) [
  | inl k ↦ let s : Some i ≡ Some j = rw k at e in ap (λ (o : Option Job). nat_eq (owner_of g (chunk_in i.chunk o)) r) (sym s) ∙ (and_parts (nat_eq i.taker 0) (nat_eq (owner_of g i.chunk) r) k).1
  | inr k ↦ let s : None ≡ Some j = rw k at e in absurd (cc)
]

-- whose room it is
pub room_is : (t : Tables) (id : ℕ) (room : Option Room) → IfSome room (IsRoomAgain t id) → is_some room ≡ true → room_of room ≡ ForBegin id
room_is t id None is k = absurd (true≢false (sym k))
room_is t id (Some (End wishes accepts)) is k = absurd is
room_is t id (Some (Begin own due)) is k = ap (λ (n : ℕ). ForBegin n) is.own

-- a Begin that is taken back
back_grid : (g : GridState) (id : ℕ) → g.state id ≡ Ready → unbegun (begin g id) id ≡ g
unfolding unbegun begin
back_grid g id ready = ap (λ (f : ℕ → State). let k : GridState = record g { state = f } in k) (at_again g.state id Ready Ticking ready)

-- the world of the tables without the Begin of the region of the tick
module _ (o : Opening) (h : List Entry) (p : ℕ → Bool) (t : Tables) (s : StandsAhead o h p t) (tick : Tick) (marked : p tick.region ≡ true) (of : IsTick (world o h) tick.begun 0 tick.region tick) where
  abbrev id : ℕ
  id = tick.region

  abbrev w : World
  w = world o h

  abbrev x : World
  x = world o s.runs.ahead.entries

  abbrev q : ℕ → Bool
  q = at_id p tick.region false

  off : at_id p tick.region false tick.region ≡ false
  off = at_here p tick.region false

  among : AreAmong q p
  among r k = elim (cases_eq r tick.region) [
    | inl e ↦ absurd (true≢false (sym k ∙ ap q e ∙ off))
    | inr d ↦ sym (at_other p tick.region false r d) ∙ k
  ]

  pub less : AheadRun o h q
  less = s.runs.others q among

  abbrev y : World
  y = world o less.entries

  good : Good o w
  good = good_now o h p t s

  good_less : Good o y
  good_less = good_at o less.entries s.runs.grid less.run

  -- ---- the Begin leads from the one to the other
  same : unhanded x ≡ unhanded (begun y 0 id)
  same = s.runs.ahead.is.same ∙ sym (
      unhanded_begun y 0 id ∙ ap (λ (v : World). unhanded (begun v 0 id)) less.is.same ∙ ap unhanded (ahead_more w q id off)
      ∙ unhanded_ahead w (at_id q id true) ∙ ap (ahead_of w) (at_again p id true false marked)
      )

  grid_is : x.grid ≡ begin y.grid id
  unfolding begun
  grid_is = ap (λ (v : World). v.grid) same

  recorded_is : x.recorded ≡ at_id y.recorded id (λ c. is_loaded y.grid c && nat_eq (y.grid.owner (section_of y.grid.grid c)) id)
  unfolding begun
  recorded_is = ap (λ (v : World). v.recorded) same

  owed_is : x.owed ≡ at_id y.owed id (y.owed id - 1)
  unfolding begun
  owed_is = ap (λ (v : World). v.owed) same

  flat_is : x.flat ≡ y.flat
  unfolding begun
  flat_is = ap (λ (v : World). v.flat) same

  counters_are : x.tick ≡ y.tick
  unfolding begun
  counters_are = ap (λ (v : World). v.tick) same

  tickets_are : x.tickets ≡ y.tickets
  unfolding begun
  tickets_are = ap (λ (v : World). v.tickets) same

  next_is : x.grid.next ≡ y.grid.next
  unfolding begun begin
  next_is = ap (λ (v : World). v.grid.next) same

  holds_are : x.grid.holds ≡ y.grid.holds
  unfolding begun begin
  holds_are = ap (λ (v : World). v.grid.holds) same

  size_is : x.grid.grid ≡ y.grid.grid
  unfolding begun begin
  size_is = ap (λ (v : World). v.grid.grid) same

  course_of : (c : Course) → IsCourse c x → IsCourse c y
  unfolding begun
  course_of c is = record {
    next_job = is.next_job ∙ ap (λ (v : World). v.next_job) same;
    in_phase = is.in_phase ∙ ap (λ (v : World). v.in_phase) same;
    sum = is.sum ∙ ap (λ (v : World). v.sum) same;
    stopped = is.stopped ∙ ap (λ (v : World). v.stopped) same;
    finished = is.finished ∙ ap (λ (v : World). v.finished) same;
  }

  -- ---- what holds of the region in both
  ready_now : w.grid.state id ≡ Ready
  ready_now = s.runs.ahead.is.ready id marked

  ready : y.grid.state id ≡ Ready
  ready = state_off q w y less.is id off ∙ ready_now

  positive : 0 < id
  positive = good.sound.rules.given id (λ d. let r = ready_now in cc)

  below : id < w.grid.next
  below = good.sound.rules.below_next id (λ d. let r = ready_now in cc)

  ticks : x.grid.state id ≡ Ticking
  ticks = state_ahead o h p t s id marked

  its_chunks : is_chunk_of y.grid id ≡ is_chunk_of w.grid id
  unfolding ahead_of
  its_chunks = ap (λ (v : World). is_chunk_of v.grid id) less.is.same

  flat_now : y.flat ≡ w.flat
  unfolding ahead_of
  flat_now = ap (λ (v : World). v.flat) less.is.same

  next_now : y.grid.next ≡ w.grid.next
  unfolding ahead_of
  next_now = ap (λ (v : World). v.grid.next) less.is.same

  counter_now : y.tick id ≡ w.tick id
  unfolding ahead_of
  counter_now = ap (λ (v : World). v.tick id) less.is.same

  owner_now : (c : ChunkPos) → owner_of x.grid c ≡ owner_of w.grid c
  unfolding ahead_of
  owner_now c = ap (λ (v : World). owner_of v.grid c) s.runs.ahead.is.same

  recorded_now : x.recorded id ≡ is_chunk_of w.grid id
  unfolding ahead_of
  recorded_now = ap (λ (v : World). v.recorded id) s.runs.ahead.is.same ∙ (rw marked refl)

  jobs_then : (n : ℕ) → x.jobs n ≡ down_all w.grid p (w.jobs n)
  unfolding ahead_of
  jobs_then n = ap (λ (v : World). v.jobs n) s.runs.ahead.is.same

  jobs_less : (n : ℕ) → y.jobs n ≡ down_all w.grid q (w.jobs n)
  unfolding ahead_of
  jobs_less n = ap (λ (v : World). v.jobs n) less.is.same

  -- ---- what the tick has
  recs : is_recorded tick.chunks ≡ is_chunk_of w.grid id
  recs = ap is_recorded of.of.chunks ∙ kept_listed (is_chunk_of w.grid id) (loaded_within w.grid id good.sound.rules)

  queue : (n : ℕ) → jobs_in tick.body.queues (tick.body.tick + 1) n ≡ queued_in w.grid id (counted_down w.grid id (w.jobs n))
  unfolding begun
  queue n = ap (λ (f : ℕ → Option Job). f n) of.of.queued

  due_at : (n : ℕ) → task_in tick.due n ≡ taken_one id n (counted_down w.grid id (w.jobs n))
  unfolding begun
  due_at n = ap (λ ts. task_in ts n) of.of.due
      ∙ due_has (begun w tick.worker id) id (λ k. taken_one id k (counted_down w.grid id (w.jobs k))) (λ k. one_listed id k (counted_down w.grid id (w.jobs k))) (λ k u e. one_number id k (counted_down w.grid id (w.jobs k)) u e)
      (λ k l. let none = good.sound.numbers k l in rw none refl) n

  pub rising : Rising tick.due
  rising = subst Rising (sym of.of.due) (due_rising (begun w tick.worker id) id (begun w tick.worker id).next_job)

  pub are_new : AreNew tick.due (dated tick.body.queues)
  are_new = all_new tick.due (dated tick.body.queues) (λ n u e. none_dated (tick.body.tick + 1) (dated tick.body.queues n) (queue n ∙ taken_apart w.grid id positive n (w.jobs n) u (sym (due_at n) ∙ e)))

  other_taker : (n : ℕ) (j : Job) → w.jobs n ≡ Some j → j.taker ≢ id
  other_taker n j e k =
      let l = positive in
      let z : j.taker ≢ 0 = λ m. omega arith in
      let takes = (good.sound.each n j e).takes z in
      let like = ap w.grid.state k in
      let r = ready_now in cc

  again : (n : ℕ) → rests_again tick n ≡ queued_in w.grid id (w.jobs n)
  again n =
      ap (option_map (job_of tick.body.tick)) (ap (λ (u : Option Task). again_at (tick.body.tick + 1) u (dated tick.body.queues n)) (due_at n))
      ∙ again_job w.grid id positive n tick.body.tick (w.jobs n) (dated tick.body.queues n) (λ j e z. (good.sound.each n j e).rest_low z) (other_taker n) (queue n)

  pub counter_most : tick.body.tick ≤ 2 ^ 62
  counter_most = omega (arith, of.of.counter, all_most (start o) h 0 (λ r. omega arith) id, ends_most h, s.runs.ahead.size, s.stands.size.size, s.stands.size.most)

  owed_again : tick.body.owed + 1 ≡ w.owed id
  owed_again = omega (arith, of.of.owed, s.runs.ahead.is.owes id marked)

  pub owed_few : tick.body.owed + 1 ≤ 10000
  owed_few = omega (arith, owed_again, owed_most o h s.runs.run id)

  -- ---- the tasks
  abbrev then : ℕ → ℕ
  then = since o s.runs.ahead.entries

  abbrev later : ℕ → ℕ
  later = since o less.entries

  calm : (n : ℕ) (c : ChunkPos) → owner_of w.grid c ≡ id → went w.grid (since o h) c n ≡ false
  calm n c e = went_quiet w.grid id ready_now positive (since o h) c n e

  job_rests : (n : ℕ) → jobs_of t.store n ≡ at_rest x.grid then n (down_all w.grid p (w.jobs n))
  job_rests n = ap (λ (f : ℕ → Option Job). f n) s.stands.fits.stored.jobs ∙ ap (at_rest x.grid then n) (jobs_then n)

  others_same : (r : ℕ) → r ≢ id → q r ≡ p r
  others_same r d = at_other p id false r d

  job_again : (n : ℕ) → option_or (jobs_of t.store n) (queued_in w.grid id (w.jobs n)) ≡ at_rest y.grid later n (y.jobs n)
  job_again n =
      ap (λ (a : Option Job). option_or a (queued_in w.grid id (w.jobs n))) (job_rests n)
      ∙ job_back w.grid x.grid y.grid (since o h) then later p q id marked off others_same n (calm n) (w.jobs n) (λ j e z. s.runs.ahead.goes n j e z) (λ j e z. less.goes n j e z)
      ∙ ap (at_rest y.grid later n) (sym (jobs_less n))

  tasks_apart : (n : ℕ) → IsTrue (is_none (jobs_of t.store n) || is_none (queued_in w.grid id (w.jobs n)))
  tasks_apart n = let a = job_rests n in
      rw a (jobs_apart w.grid x.grid y.grid (since o h) then later p q id marked off others_same n (calm n) (w.jobs n) (λ j e z. s.runs.ahead.goes n j e z))

  -- ---- it can come back
  its_recorded : (c : ChunkPos) → x.recorded id c ≡ is_recorded tick.chunks c
  its_recorded c = ap (λ (f : Recorded). f c) (recorded_now ∙ sym recs)

  hands : (c : ChunkPos) → in_hands x.grid x.recorded c ≡ (in_hands y.grid y.recorded c || is_chunk_of y.grid id c)
  hands c = (λ i. in_hands (grid_is i) (recorded_is i) c) ∙ hands_after y.grid id ready positive y.recorded c

  there : (c : ChunkPos) → is_recorded tick.chunks c ≡ true → in_hands x.grid x.recorded c ≡ true
  there c k = hands c ∙ ap (λ b. in_hands y.grid y.recorded c || b) (ap (λ (f : Recorded). f c) (its_chunks ∙ sym recs) ∙ k) ∙ or_true (in_hands y.grid y.recorded c)
    where
      or_true : (b : Bool) → (b || true) ≡ true
      or_true true = refl
      or_true false = refl

  pub ticks_in : (grid_state t.regions).state id ≡ Ticking
  ticks_in = ap (λ (g : GridState). g.state id) s.stands.fits.regions ∙ ticks

  tables_flat : flat_of t.store ≡ outside (in_hands x.grid x.recorded) w.flat
  tables_flat = s.stands.fits.stored.flat ∙ ap (outside (in_hands x.grid x.recorded)) (flat_is ∙ flat_now)

  module _ (body : RegionData) (counter : body.tick ≡ tick.body.tick) (things : body.chunks ≡ tick.body.chunks) (tasks : (n : ℕ) → rests_of body n ≡ rests_again tick n) where
    comes : (n : ℕ) → rests_of body n ≡ queued_in w.grid id (w.jobs n)
    comes n = tasks n ∙ again n

    was : (n : ℕ) (j : Job) → rests_of body n ≡ Some j → (w.jobs n ≡ Some j) × (j.taker ≡ 0)
    was n j e = queued_was w.grid id (w.jobs n) j (sym (comes n) ∙ e)

    contents : contents_of body.chunks ≡ within (is_recorded tick.chunks) w.flat
    contents = ap contents_of things ∙ of.contents

    follows : (bag_of t.store id).listed ≡ true → KeepsUp (bag_of t.store id) (filter (is_chunk_of (grid_state t.regions) id) all_chunks)
    follows k = let g = s.stands.fits.regions in rw g ((s.stands.fits.stored.bags id).listed (λ d. let r = ticks in cc) k)

    are_held : AreHeld (grid_state t.regions) (λ n. option_or (jobs_of t.store n) (rests_of body n))
    are_held c unheld n =
        let none : x.grid.holds c ≤ 0 = ltb-false 0 (x.grid.holds c) (ap (λ (g : GridState). is_loaded g c) (sym s.stands.fits.regions) ∙ unheld) in
        let few : y.grid.holds c ≤ 0 = omega (arith, none, ap (λ (f : ChunkPos → ℕ). f c) holds_are) in
        ap (λ (a : Option Job). is_on c (option_or (jobs_of t.store n) a)) (comes n) ∙ ap (is_on c) (job_again n)
        ∙ none_rests y.grid later n c (y.jobs n) (none_on y.grid y.tickets y.jobs y.next_job good_less.sound c (omega (arith, few)) n)

    pub can_come_back : CanComeBack t id tick.chunks body
    can_come_back = record {
      ticks = ticks_in;
      out = (s.stands.fits.stored.bags id).taken ∙ ap is_ticking ticks;
      chunks = of.of.chunks ∙ ap (λ (f : Recorded). filter f all_chunks) (sym recorded_now) ∙ sym ((s.stands.fits.stored.bags id).out ticks);
      grid = s.stands.fits.grid ∙ ap (λ (g : GridState). g.grid) (sym s.stands.fits.regions);
      follows = follows;
      bound = omega (arith, counter, counter_most);
      in_time = λ n. in_time body.queues body.tick n (λ j e. let k = was n j e in let ok = good.sound.each n j k.0 in (ok.rest_low k.1, ok.rest_high));
      contents_there = contents ∙ within_twice (is_recorded tick.chunks) w.flat ∙ ap (within (is_recorded tick.chunks)) (sym contents);
      tasks_there = λ n j e. ap (λ (f : Recorded). f j.chunk) recs
          ∙ and_from (is_loaded w.grid j.chunk) (nat_eq (owner_of w.grid j.chunk) id) (lt-ltb 0 (w.grid.holds j.chunk) (chunk_held w n j good.sound (was n j e).0)) (queued_there w.grid id (w.jobs n) j (sym (comes n) ∙ e));
      contents_apart = let a = tables_flat in let b = contents in rw (a, b) (apart (in_hands x.grid x.recorded) (is_recorded tick.chunks) w.flat there);
      tasks_apart = λ n. let a = comes n in rw a (tasks_apart n);
      held = are_held;
    }

  -- ---- the bags, once it is back
  module _ (f : ℕ → Bag) (own : IsReturned (grid_state t.regions) id tick.body.tick (tick.body.owed + 1) (f id)) (back : f ≡ at_id (bag_of t.store) id (f id)) where
    chunks_then : is_chunk_of (grid_state t.regions) id ≡ is_chunk_of y.grid id
    unfolding begin
    chunks_then = ap (λ (g : GridState). is_chunk_of g id) (s.stands.fits.regions ∙ grid_is)

    own_bag : IsBagOf y.grid y.tick y.owed y.recorded id (f id)
    own_bag = record {
      here = own.here ∙ (let r = ready in rw r refl);
      taken = own.taken ∙ (let r = ready in rw r refl);
      counter = λ k. own.counter ∙ of.of.counter ∙ sym counter_now;
      owes = λ k. own.owes ∙ owed_again ∙ sym (owed_off q w y less.is id off);
      listed = λ d k. keeps_exact (f id).since (f id).chunks (is_chunk_of y.grid id) (own.listed k ∙ ap (λ (b : Recorded). filter b all_chunks) chunks_then);
      since = λ k. own.since;
      out = λ k. let r = ready in absurd (cc);
    }

    other_bag : (r : ℕ) → r ≢ id → IsBagOf y.grid y.tick y.owed y.recorded r (f r)
    unfolding begin
    other_bag r d =
        let b = s.stands.fits.stored.bags r in
        let stays : f r ≡ bag_of t.store r = ap (λ (k : ℕ → Bag). k r) back ∙ at_other (bag_of t.store) id (f id) r d in
        let state : y.grid.state r ≡ x.grid.state r = sym (ap (λ (g : GridState). g.state r) grid_is ∙ state_else y.grid id r d) in
        let owed : y.owed r ≡ x.owed r = sym (ap (λ (k : ℕ → ℕ). k r) owed_is ∙ at_other y.owed id (y.owed id - 1) r d) in
        let rec : y.recorded r ≡ x.recorded r = sym (ap (λ (k : ℕ → Recorded). k r) recorded_is ∙ at_other y.recorded id (λ c. is_loaded y.grid c && nat_eq (y.grid.owner (section_of y.grid.grid c)) id) r d) in
        let chunks : is_chunk_of x.grid r ≡ is_chunk_of y.grid r = ap (λ (g : GridState). is_chunk_of g r) grid_is in
        rw stays (record {
          here = b.here ∙ (rw state refl);
          taken = b.taken ∙ (rw state refl);
          counter = λ k. b.counter (rw state at k) ∙ ap (λ (m : ℕ → ℕ). m r) counters_are;
          owes = λ k. b.owes (rw state at k) ∙ sym owed;
          listed = λ l k. subst (AreBut (bag_of t.store r).since (bag_of t.store r).chunks) (ap (λ (m : Recorded). filter m all_chunks) chunks) (b.listed (λ z. l (state ∙ z)) k);
          since = λ k. b.since (rw state at k);
          out = λ k. b.out (sym state ∙ k) ∙ ap (λ (m : Recorded). filter m all_chunks) (sym rec);
        })

    bags_back : (r : ℕ) → IsBagOf y.grid y.tick y.owed y.recorded r (f r)
    bags_back r = elim (cases_eq r id) [
      | inl e ↦ let P : ℕ → Type 0 = λ k. IsBagOf y.grid y.tick y.owed y.recorded k (f k) in subst P (sym e) own_bag
      | inr d ↦ other_bag r d
    ]

    -- ---- the grid and the stack
    pub back_regions : (g : GridState) → g ≡ unbegun (grid_state t.regions) id → g ≡ y.grid
    back_regions g e = e ∙ ap (λ (k : GridState). unbegun k id) (s.stands.fits.regions ∙ grid_is) ∙ back_grid y.grid id ready

    pub back_bags : (g : GridState) → g ≡ unbegun (grid_state t.regions) id → HaveBags g f
    back_bags g e = let same = back_regions g e in rw same (have_bags y.grid y.tick y.owed y.recorded f bags_back)

    pub back_state : (g : GridState) → g ≡ unbegun (grid_state t.regions) id → Ready ≡ g.state id
    back_state g e = sym (ap (λ (k : GridState). k.state id) (back_regions g e) ∙ ready)

    pub back_covers : (g : GridState) → g ≡ unbegun (grid_state t.regions) id → Covers (t.agenda.items ++ id ∷ []) g f
    back_covers g e r k = elim (cases_eq r id) [
      | inl z ↦ behind r t.agenda.items (id ∷ []) (let b : nat_eq r id ≡ true = eq-eqb r id z in rw b refl)
      | inr d ↦
          let state : g.state r ≡ x.grid.state r = ap (λ (m : GridState). m.state r) (back_regions g e) ∙ sym (ap (λ (m : GridState). m.state r) grid_is ∙ state_else y.grid id r d) in
          let stays : f r ≡ bag_of t.store r = ap (λ (m : ℕ → Bag). m r) back ∙ at_other (bag_of t.store) id (f id) r d in
          in_front r t.agenda.items (id ∷ []) (s.stands.fits.agenda.covers r (rw (state, stays) at k))
    ]

    -- the region owes a tick again
    pub back_owes : (g : GridState) → g ≡ unbegun (grid_state t.regions) id → owes g f id ≡ true
    back_owes g e =
        let some : nat_lt 0 (f id).owed ≡ true = lt-ltb 0 (f id).owed (omega (arith, own.owes)) in
        let state : g.state id ≡ Ready = sym (back_state g e) in rw (state, some) refl

  pub back_rules : Rules (unbegun (grid_state t.regions) id)
  back_rules = let e : unbegun (grid_state t.regions) id ≡ y.grid = ap (λ (k : GridState). unbegun k id) (s.stands.fits.regions ∙ grid_is) ∙ back_grid y.grid id ready in
      rw e good_less.sound.rules

  -- ---- the run has a Begin less
  one_less : count_below p w.grid.next ≡ count_below q w.grid.next + 1
  one_less =
      let some = count_less p q w.grid.next id below off (λ k e. sym (at_other p id false k e)) in
      let one : ◌≡◌ {A = ℕ} (cond (p id) 1 0) 1 = ap (λ b. cond b 1 0) marked in
      omega (arith, some, one)

  pub some_size : 1 ≤ t.course.size
  some_size = omega (arith, s.stands.size.size, s.runs.ahead.size, one_less)

  -- ---- the tables, once it is back
  module _ (u : Tables) (un : Undoes t u tick) (d : Course) (course : d ≡ record u.course { size = u.course.size - 1 }) where
    flat_back : flat_of u.store ≡ outside (in_hands y.grid y.recorded) y.flat
    flat_back = un.contents ∙ (λ i. joined (tables_flat i) (of.contents i))
        ∙ joined_back (in_hands x.grid x.recorded) (in_hands y.grid y.recorded) (is_recorded tick.chunks) left there w.flat ∙ ap (outside (in_hands y.grid y.recorded)) (sym flat_now)
      where
        apart_from : (a b : Bool) → (b ≡ true → a ≡ false) → a ≡ ((a || b) && not b)
        apart_from true true n = absurd (true≢false (n refl))
        apart_from true false n = refl
        apart_from false true n = refl
        apart_from false false n = refl

        left : (c : ChunkPos) → in_hands y.grid y.recorded c ≡ (in_hands x.grid x.recorded c && not (is_recorded tick.chunks c))
        left c =
            let same_there : is_recorded tick.chunks c ≡ is_chunk_of y.grid id c = ap (λ (f : Recorded). f c) (recs ∙ sym its_chunks) in
            apart_from (in_hands y.grid y.recorded c) (is_chunk_of y.grid id c) (λ k. not_in_hands y.grid id ready positive y.recorded c (owned y.grid id c k))
            ∙ sym (λ i. hands c i && not (same_there i))

    fits_back : Fits (record u { course = d }) y later
    fits_back = record {
      grid = un.grid ∙ s.stands.fits.grid ∙ size_is;
      regions = back_regions (bag_of u.store) un.own un.bags (grid_state u.regions) un.regions;
      stored = record {
        flat = flat_back;
        jobs = un.tasks ∙ fun_ext (λ n. ap (option_or (jobs_of t.store n)) (again n) ∙ job_again n);
        next = un.next ∙ s.stands.fits.stored.next ∙ next_is;
        bags = bags_back (bag_of u.store) un.own un.bags;
      };
      tickets = λ c. let e = un.tickets in (rw e (s.stands.fits.tickets c)) ∙ ap (λ (m : ChunkPos → ℕ). m c) tickets_are;
      agenda = let e = back_regions (bag_of u.store) un.own un.bags (grid_state u.regions) un.regions in rw e at un.agenda;
      course = let c = course_of t.course s.stands.fits.course in let e = course ∙ ap (λ (m : Course). let k : Course = record m { size = m.size - 1 } in k) un.course in
          rw e (record { next_job = c.next_job; in_phase = c.in_phase; sum = c.sum; stopped = c.stopped; finished = c.finished });
    }

    size_back : d.size ≡ t.course.size - 1
    size_back = ap (λ (m : Course). m.size) course ∙ ap (λ (m : Course). m.size - 1) un.course

    stopped_back : d.stopped ≡ t.course.stopped
    stopped_back = ap (λ (m : Course). m.stopped) course ∙ ap (λ (m : Course). m.stopped) un.course

    pub over_back : (d.finished || d.stopped) ≡ (t.course.finished || t.course.stopped)
    over_back = ap (λ (m : Course). m.finished || m.stopped) course ∙ ap (λ (m : Course). m.finished || m.stopped) un.course

    -- the room for the next Begin
    pub room_back : (room : Option Room) (v : Vec Entry) (early rest marks : ℕ) → IfSome room (IsRoomAgain (record u { course = d }) id) → EntryRoom t.course v early → early ≡ rest + 1 → id < marks
        → HasRoom room (record u { course = d }) v rest marks
    room_back None v early rest marks is entry one mark = tt
    room_back (Some (End wishes accepts)) v early rest marks is entry one mark = absurd is
    room_back (Some (Begin own due)) v early rest marks is entry one mark =
        let e = is.own in
        let on : (t.course.finished || t.course.stopped) ≡ false = sym over_back ∙ is.on in
        let going = or_parts t.course.finished t.course.stopped on in
        record {
          given = record {
            above = rw e positive;
            below = let g = back_regions (bag_of u.store) un.own un.bags (grid_state u.regions) un.regions in rw (e, g) (omega (arith, below, next_now));
          };
          size = omega (arith, size_back, some_size, s.stands.size.before going.1);
          history = omega (arith, entry on, one);
          mark = rw e mark;
          place = inr (rw e un.top);
          empty = is.empty;
          whole = λ k. rw e is.whole;
          due = λ k. rw e is.due;
        }

    stands_back : Stands o less.entries (record u { course = d })
    stands_back = record {
      grid = s.runs.grid;
      run = less.run;
      fits = fits_back;
      size = record {
        size = omega (arith, size_back, s.stands.size.size, s.runs.ahead.size, less.size, one_less);
        most = omega (arith, size_back, s.stands.size.most);
        before = λ k. omega (arith, size_back, s.stands.size.before (sym stopped_back ∙ k));
      };
    }

    ahead_back : StandsAhead o h q (record u { course = d })
    ahead_back = record {
      runs = record {
        grid = s.runs.grid;
        run = s.runs.run;
        ahead = less;
        others = λ m k. s.runs.others m (λ r e. among r (k r e));
      };
      stands = stands_back;
    }

    pub undone_ahead : (m : ℕ → Bool) → at_id p id false ≡ m → StandsAhead o h m (record u { course = d })
    undone_ahead m e = let P : (ℕ → Bool) → Type 0 = λ k. StandsAhead o h k (record u { course = d }) in subst P e ahead_back
