-- What the tables stand for after a Begin, and what its tick is.
use Rattle.std.proofs.Common.{◌≡◌, ◌≢◌, ℕ, ◌+◌, ◌-◌, ◌≤◌, ◌<◌, ◌^◌, refl, sym, ◌∙◌, ap, subst, arith, true, false, inl, inr, not, ◌&&◌, ◌||◌, List, filter}
use Rattle.std.specs.Prelude.{nat_eq, nat_lt, Option, Some, None}
use Rattle.std.proofs.Math.Path.{fun_ext}
use Rattle.std.proofs.lemmas.Bool.{cases_Bool, cases_eq, and_parts, ne_eqb, lt-ltb, true≢false}
use Rattle.fol_model.specs.declared.regions.State.TheVariants.{Ready}
use Rattle.fol_model.specs.declared.tasks.Task.{Task}
use Rattle.fol_model.specs.declared.openings.Opening.{Opening}
use Rattle.fol_model.specs.declared.events.Entry.{Entry}
use Rattle.fol_model.specs.Geometry.{section_of}
use Rattle.fol_model.specs.Universe.{all_chunks}
use Rattle.fol_model.specs.GridState.{GridState, is_loaded, is_ready}
use Rattle.fol_model.specs.Begin.{begin}
use Rattle.fol_model.specs.ActionStep.{Flat, Recorded, at_id}
use Rattle.fol_model.specs.FlatTick.{Rising}
use Rattle.fol_model.specs.Job.{Job}
use Rattle.fol_model.specs.Outputs.{is_chunk_of}
use Rattle.fol_model.specs.QueuedTask.{begun, counted_down, queued_in}
use Rattle.fol_model.specs.World.{World, due}
use Rattle.fol_model.specs.Run.{world}
use Rattle.fol_laws.proofs.FunctionsChanged.{at_here, at_other}
use Rattle.fol_laws.proofs.GridFields.{begin_grid, begin_here}
use Rattle.fol_laws.proofs.RecordedMargins.{chunk_held}
use Rattle.fol_laws.proofs.SoundState.{job_below}
use Rattle.fol_laws.proofs.WholeRuns.{Good}
use Rattle.fol_chunks.specs.Contents.{is_recorded, outside, within}
use Rattle.fol_queues.specs.Waiting.{option_filter, task_in}
use Rattle.fol_regions.specs.Table.{grid_state}
use Rattle.fol_sections.specs.Places.{count_at}
use Rattle.fol_store.specs.Bag.{Bag, is_whole, taken_out}
use Rattle.fol_store.specs.Stock.{bag_of, due_of, flat_of, jobs_of, next_of}
use Rattle.fol_world.specs.declared.tables.Course.{Course}
use Rattle.fol_world.specs.declared.tables.Tables.{Tables}
use Rattle.fol_world.specs.Agenda.{Covers, HaveBags, IsAgenda, owes}
use Rattle.fol_world.specs.Bags.{AreBut, IsBagOf}
use Rattle.fol_world.specs.Begun.{due_task, left_job}
use Rattle.fol_world.specs.Hands.{at_rest, in_hands, since}
use Rattle.fol_core.specs.declared.machine.Room.{Room}
use Rattle.fol_core.specs.declared.machine.Room.TheVariants.{Begin, End}
use Rattle.fol_core.specs.Meaning.{ForBegin}
use Rattle.fol_core.specs.Room.{HasPlace, HasRoom, IsDueList, room_of}
use Rattle.fol_regions.specs.Answers.{state_answer}
use Rattle.std.specs.Global.{Vec}
use Rattle.std.specs.Prelude.{vec_len, vec_capacity}
use Rattle.std.proofs.lemmas.Option.{same_Some}
use Rattle.fol_world.specs.Stands.{Fits, IsCourse, Stands}
use Rattle.fol_core.proofs.BegunHands.{due_is, hands_after, left_is, not_in_hands, outside_outside, rest_is, within_outside}
use Rattle.fol_world.proofs.ChunkLists.{kept_listed, loaded_within, owned}
use Rattle.fol_core.proofs.DueLists.{due_is_list, due_number}
use Rattle.fol_world.proofs.GatheredBags.{ready_now}
use Rattle.fol_world.proofs.KeptUp.{keeps_exact}
use Rattle.fol_core.proofs.LoadKept.{SameMarks}
use Rattle.fol_world.proofs.Longer.{good_of}
use Rattle.fol_world.proofs.UnsettledBags.{exact_bag, have_bags}

pub state_else : (g : GridState) (id r : ℕ) → r ≢ id → (begin g id).state r ≡ g.state r
unfolding begin
state_else g id r d = let z : nat_eq id r ≡ false = ne_eqb id r (λ e. d (sym e)) in rw z refl

same_chunks : (g : GridState) (id r : ℕ) → is_chunk_of (begin g id) r ≡ is_chunk_of g r
unfolding begin
same_chunks g id r = refl

begin_next : (g : GridState) (id : ℕ) → (begin g id).next ≡ g.next
unfolding begin
begin_next g id = refl

not_ready : (g : GridState) (id : ℕ) → is_ready ((begin g id).state id) ≡ false
not_ready g id = ap is_ready (begin_here g id)

begun_bag : (g : GridState) (id : ℕ) (tick owed : ℕ → ℕ) (recorded : ℕ → Recorded) (n : ℕ) (f : ℕ → Bag) → g.state id ≡ Ready → (f id).listed ≡ true → ((r : ℕ) → IsBagOf g tick owed recorded r (f r))
    → (r : ℕ) → IsBagOf (begin g id) tick (at_id owed id n) (at_id recorded id (λ c. is_loaded g c && nat_eq (g.owner (section_of g.grid c)) id)) r (at_id f id (taken_out (f id)) r)
begun_bag g id tick owed recorded n f ready listed is r = elim (cases_eq r id) [
  | inl e ↦ let ticks = begin_here g id in
      let here = at_here f id (taken_out (f id)) in
      let old = exact_bag g tick owed recorded id (f id) (is id) (λ d. cc) (rw ready refl) listed in
      let rec = at_here recorded id (λ c. is_loaded g c && nat_eq (g.owner (section_of g.grid c)) id) in
      rw (e, here) (record {
        here = rw ticks refl;
        taken = rw ticks refl;
        counter = λ x. absurd (true≢false (sym x ∙ rw ticks refl));
        owes = λ x. absurd (true≢false (sym x ∙ rw ticks refl));
        listed = λ d x. keeps_exact (f id).since (f id).chunks (is_chunk_of (begin g id) id) (old ∙ ap (λ p. filter p all_chunks) (sym (same_chunks g id id)));
        since = λ x. absurd (true≢false (sym x ∙ rw ticks refl));
        out = λ x. old ∙ ap (λ p. filter p all_chunks) (sym rec);
      })
  | inr d ↦ let state = state_else g id r d in
      let here = at_other f id (taken_out (f id)) r d in
      let rec = at_other recorded id (λ c. is_loaded g c && nat_eq (g.owner (section_of g.grid c)) id) r d in
      let o = at_other owed id n r d in
      let b = is r in
      rw here (record {
        here = b.here ∙ rw state refl;
        taken = b.taken ∙ rw state refl;
        counter = λ x. b.counter (rw state at x);
        owes = λ x. b.owes (rw state at x) ∙ sym o;
        listed = λ l x. subst (AreBut (f r).since (f r).chunks) (ap (λ p. filter p all_chunks) (sym (same_chunks g id r))) (b.listed (λ y. l (state ∙ y)) x);
        since = λ x. b.since (rw state at x);
        out = λ x. b.out (sym state ∙ x) ∙ ap (λ p. filter p all_chunks) (sym rec);
      })
]

pub begun_marks : (w : World) (worker id : ℕ) → SameMarks w (begun w worker id)
unfolding begun
begun_marks w worker id = record { next_job = refl; in_phase = refl; sum = refl; stopped = refl; finished = refl }

module _ (o : Opening) (h : List Entry) (t : Tables) (s : Stands o h t) (id : ℕ) (owing : owes (grid_state t.regions) (bag_of t.store) id ≡ true) where
  ready : (world o h).grid.state id ≡ Ready
  ready = ready_now o h t s id owing

  pub tidy_bags : HaveBags (begin (grid_state t.regions) id) (at_id (bag_of t.store) id (taken_out (bag_of t.store id)))
  tidy_bags = rw s.fits.regions (λ r x. elim (cases_eq r id) [
    | inl e ↦ absurd (true≢false (sym x ∙ ap (λ q. is_ready ((begin (world o h).grid id).state q)) e ∙ not_ready (world o h).grid id))
    | inr d ↦ ap (λ (b : Bag). b.here) (at_other (bag_of t.store) id (taken_out (bag_of t.store id)) r d)
        ∙ have_bags (world o h).grid (world o h).tick (world o h).owed (world o h).recorded (bag_of t.store) s.fits.stored.bags r (sym (ap is_ready (state_else (world o h).grid id r d)) ∙ x)
  ])

  pub tidy_covers : Covers t.agenda.items (begin (grid_state t.regions) id) (at_id (bag_of t.store) id (taken_out (bag_of t.store id)))
  tidy_covers = rw s.fits.regions (λ r x. let p = and_parts (is_ready ((begin (world o h).grid id).state r)) (nat_lt 0 (at_id (bag_of t.store) id (taken_out (bag_of t.store id)) r).owed) x in elim (cases_eq r id) [
    | inl e ↦ absurd (true≢false (sym p.0 ∙ ap (λ q. is_ready ((begin (world o h).grid id).state q)) e ∙ not_ready (world o h).grid id))
    | inr d ↦ let b = at_other (bag_of t.store) id (taken_out (bag_of t.store id)) r d in let st = state_else (world o h).grid id r d in
        let y : owes (world o h).grid (bag_of t.store) r ≡ true = rw (st, b) at x in s.fits.agenda.covers r y
  ])

  module _ (settled : (bag_of t.store id).listed ≡ true) where
    good : Good o (world o h)
    good = good_of o h t s

    positive : 0 < id
    positive = good.sound.rules.given id (λ d. let r = ready in cc)

    pub its_chunks : (bag_of t.store id).chunks ≡ filter (is_chunk_of (world o h).grid id) all_chunks
    its_chunks = let r = ready in
        exact_bag (world o h).grid (world o h).tick (world o h).owed (world o h).recorded id (bag_of t.store id) (s.fits.stored.bags id) (λ d. cc) (rw r refl) settled

    recs : is_recorded (bag_of t.store id).chunks ≡ is_chunk_of (world o h).grid id
    recs = ap is_recorded its_chunks ∙ kept_listed (is_chunk_of (world o h).grid id) (loaded_within (world o h).grid id good.sound.rules)

    loaded_job : (n : ℕ) (j : Job) → (world o h).jobs n ≡ Some j → is_loaded (world o h).grid j.chunk ≡ true
    loaded_job n j e = lt-ltb 0 ((world o h).grid.holds j.chunk) (chunk_held (world o h) n j good.sound e)

    other_taker : (n : ℕ) (j : Job) → (world o h).jobs n ≡ Some j → j.taker ≢ id
    other_taker n j e x = let p = positive in let z : j.taker ≢ 0 = λ q. omega arith in
        let ticks = (good.sound.each n j e).takes z in let same = ap (world o h).grid.state x in let r = ready in cc

    rest_at : (n : ℕ) → jobs_of t.store n ≡ at_rest (world o h).grid (since o h) n ((world o h).jobs n)
    rest_at n = ap (λ (f : ℕ → Option Job). f n) s.fits.stored.jobs

    -- the blocks and entities of the tick
    pub begin_contents : (f : Flat) → f ≡ within (is_recorded (bag_of t.store id).chunks) (flat_of t.store) → f ≡ within (is_recorded (bag_of t.store id).chunks) (world o h).flat
    begin_contents f e = e ∙ ap (within (is_recorded (bag_of t.store id).chunks)) s.fits.stored.flat
        ∙ within_outside (is_recorded (bag_of t.store id).chunks) (in_hands (world o h).grid (world o h).recorded) (world o h).flat
        (λ c k. not_in_hands (world o h).grid id ready positive (world o h).recorded c (owned (world o h).grid id c (sym (ap (λ (r : Recorded). r c) recs) ∙ k)))

    -- the tasks that wait with it
    pub begin_left : (f : ℕ → Option Job) → f ≡ (λ n. left_job (is_recorded (bag_of t.store id).chunks) (jobs_of t.store n)) → f ≡ (λ n. queued_in (world o h).grid id (counted_down (world o h).grid id ((world o h).jobs n)))
    begin_left f e = e ∙ fun_ext (λ n. ap (left_job (is_recorded (bag_of t.store id).chunks)) (rest_at n)
        ∙ left_is (world o h).grid id ready positive (since o h) n (world o h).next_job (is_recorded (bag_of t.store id).chunks) recs ((world o h).jobs n) (loaded_job n))

    module _ (worker : ℕ) where
      -- the tasks that are due in it
      pub begin_due : (ts : List Task) → Rising ts → task_in ts ≡ (λ n. due_task (is_recorded (bag_of t.store id).chunks) n (jobs_of t.store n)) → ts ≡ due (begun (world o h) worker id) id
      unfolding begun
      begin_due ts rises e = due_is_list (begun (world o h) worker id) id (λ n. due_task (is_recorded (bag_of t.store id).chunks) n (at_rest (world o h).grid (since o h) n ((world o h).jobs n)))
          (λ n. due_is (world o h).grid id ready positive (since o h) n (world o h).next_job (is_recorded (bag_of t.store id).chunks) recs ((world o h).jobs n) (loaded_job n) (other_taker n))
          (λ n x k. due_number (is_recorded (bag_of t.store id).chunks) n (at_rest (world o h).grid (since o h) n ((world o h).jobs n)) x k)
          (λ n l. let none = good.sound.numbers n l in rw none refl)
          ts rises
          (λ n. ap (λ (f : ℕ → Option Task). f n) e ∙ ap (due_task (is_recorded (bag_of t.store id).chunks) n) (rest_at n))

      pub begin_fits : (u : Tables) (d : Course) → grid_state u.regions ≡ begin (grid_state t.regions) id → flat_of u.store ≡ outside (is_recorded (bag_of t.store id).chunks) (flat_of t.store)
          → jobs_of u.store ≡ (λ n. option_filter (λ j. not (is_recorded (bag_of t.store id).chunks j.chunk)) (jobs_of t.store n)) → bag_of u.store ≡ at_id (bag_of t.store) id (taken_out (bag_of t.store id))
          → next_of u.store ≡ next_of t.store → IsAgenda u.agenda.items (grid_state u.regions) (bag_of u.store) → u.grid ≡ t.grid → u.tickets.entries ≡ t.tickets.entries → IsCourse d (begun (world o h) worker id)
          → Fits (record u { course = d }) (begun (world o h) worker id) (at_id (since o h) id (world o h).next_job)
      unfolding begun
      begin_fits u d regions flat jobs bags next agenda grid tickets course =
          let regions' : grid_state u.regions ≡ begin (world o h).grid id = regions ∙ ap (λ g. begin g id) s.fits.regions in
          record {
            grid = grid ∙ s.fits.grid ∙ sym (begin_grid (world o h).grid id);
            regions = regions';
            stored = record {
              flat = flat ∙ ap (outside (is_recorded (bag_of t.store id).chunks)) s.fits.stored.flat
                  ∙ outside_outside (is_recorded (bag_of t.store id).chunks) (in_hands (world o h).grid (world o h).recorded) (in_hands (begin (world o h).grid id) (at_id (world o h).recorded id (λ c. is_loaded (world o h).grid c && nat_eq ((world o h).grid.owner (section_of (world o h).grid.grid c)) id))) (world o h).flat
                  (λ c. hands_after (world o h).grid id ready positive (world o h).recorded c ∙ ap (λ (r : Recorded). in_hands (world o h).grid (world o h).recorded c || r c) (sym recs));
              jobs = jobs ∙ fun_ext (λ n. ap (option_filter (λ (j : Job). not (is_recorded (bag_of t.store id).chunks j.chunk))) (rest_at n)
                  ∙ rest_is (world o h).grid id ready positive (since o h) n (world o h).next_job (is_recorded (bag_of t.store id).chunks) recs ((world o h).jobs n) (λ j e. job_below n (world o h) j good.sound e) (loaded_job n));
              next = next ∙ s.fits.stored.next ∙ sym (begin_next (world o h).grid id);
              bags = λ r. let P : (ℕ → Bag) → Type 0 = λ b. IsBagOf (begin (world o h).grid id) (world o h).tick (at_id (world o h).owed id ((world o h).owed id - 1)) (at_id (world o h).recorded id (λ c. is_loaded (world o h).grid c && nat_eq ((world o h).grid.owner (section_of (world o h).grid.grid c)) id)) r (b r) in
                  subst P (sym bags) (begun_bag (world o h).grid id (world o h).tick (world o h).owed (world o h).recorded ((world o h).owed id - 1) (bag_of t.store) ready settled s.fits.stored.bags r);
            };
            tickets = λ q. ap (λ x. count_at x q) tickets ∙ s.fits.tickets q;
            agenda = let P : GridState → Type 0 = λ g. IsAgenda u.agenda.items g (bag_of u.store) in subst P regions' agenda;
            course = course;
          }

-- a region whose state was told to be Ready, and which owes some ticks
pub owing_now : (g : GridState) (f : ℕ → Bag) (id : ℕ) → state_answer g id ≡ Some Ready → 0 < (f id).owed → owes g f id ≡ true
owing_now g f id e l = elim (cases_Bool (nat_lt 0 id && nat_lt id g.next)) [
  | inl k ↦ let x : Some (g.state id) ≡ Some Ready = rw k at e in let y : g.state id ≡ Ready = same_Some (g.state id) Ready x in
      let z : nat_lt 0 (f id).owed ≡ true = lt-ltb 0 (f id).owed l in rw (y, z) refl
  | inr k ↦ let x : None ≡ Some Ready = rw k at e in absurd (cc)
]

-- the room that was reserved for a region
pub record RoomFor (t : Tables) (v : Vec Entry) (id early marks : ℕ) : Type 0 where
  pub size : t.course.size < 2 ^ 50
  pub history : vec_len v + 2 + early ≤ vec_capacity v
  pub mark : id < marks
  pub place : HasPlace t.agenda id early
  pub settled : owes (grid_state t.regions) (bag_of t.store) id ≡ true → (bag_of t.store id).listed ≡ true

same_begin : (a b : ℕ) → ForBegin a ≡ ForBegin b → a ≡ b
same_begin a b e = cc

pub room_for : (room : Option Room) (t : Tables) (v : Vec Entry) (id early marks : ℕ) → HasRoom room t v early marks → room_of room ≡ ForBegin id → RoomFor t v id early marks
room_for None t v id early marks r e = absurd (cc)
room_for (Some (End wishes accepts)) t v id early marks r e = absurd (cc)
room_for (Some (Begin own due)) t v id early marks r e = record {
  size = r.size;
  history = r.history;
  mark = let P : ℕ → Type 0 = λ n. n < marks in subst P (same_begin own id e) r.mark;
  place = let P : ℕ → Type 0 = λ n. HasPlace t.agenda n early in subst P (same_begin own id e) r.place;
  settled = let P : ℕ → Type 0 = λ n. owes (grid_state t.regions) (bag_of t.store) n ≡ true → is_whole (bag_of t.store n) ≡ true in
      λ o. (and_parts (bag_of t.store id).listed (bag_of t.store id).calm (subst P (same_begin own id e) r.whole o)).0;
}

-- with it the bag of the region is whole, where the region owes a tick
pub room_whole : (room : Option Room) (t : Tables) (v : Vec Entry) (id early marks : ℕ) → HasRoom room t v early marks → room_of room ≡ ForBegin id → owes (grid_state t.regions) (bag_of t.store) id ≡ true → is_whole (bag_of t.store id) ≡ true
room_whole None t v id early marks r e o = absurd (cc)
room_whole (Some (End wishes accepts)) t v id early marks r e o = absurd (cc)
room_whole (Some (Begin own due)) t v id early marks r e o = let P : ℕ → Type 0 = λ n. owes (grid_state t.regions) (bag_of t.store) n ≡ true → is_whole (bag_of t.store n) ≡ true in subst P (same_begin own id e) r.whole o

-- and there is room for its due tasks
pub room_due : (room : Option Room) (t : Tables) (v : Vec Entry) (id early marks : ℕ) (list : Vec Task) → HasRoom room t v early marks → room_of room ≡ ForBegin id → IsDueList room list → owes (grid_state t.regions) (bag_of t.store) id ≡ true → due_of t.store id ≤ vec_capacity list
room_due None t v id early marks list r e given o = absurd (cc)
room_due (Some (End wishes accepts)) t v id early marks list r e given o = absurd (cc)
room_due (Some (Begin own due)) t v id early marks list r e given o =
    let P : ℕ → Type 0 = λ n. owes (grid_state t.regions) (bag_of t.store) n ≡ true → due_of t.store n ≤ vec_capacity due in
    rw given (subst P (same_begin own id e) r.due o)
