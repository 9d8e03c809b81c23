-- Tasks that ran hold their chunks still while wishes are accepted: they hand their holds on, or drop them.
use Rattle.std.proofs.Common.{◌≡◌, ◌≢◌, ℕ, ◌+◌, ◌-◌, ◌≤◌, ◌<◌, refl, sym, ◌∙◌, ap, subst, arith, true, false, inl, inr, List, [], ◌∷◌, ◌++◌, length, take, drop, get_or}
use Rattle.std.specs.Prelude.{nat_eq, nat_lt, if◌then◌else◌, Some}
use Rattle.std.proofs.lemmas.List.{append-nil, drop_more, take-append-drop}
use Rattle.std.proofs.Math.Path.{fun_ext}
use Rattle.std.proofs.lemmas.Bool.{cases_Bool, lt-ltb, ne_eqb}
use Rattle.fol_model.specs.declared.places.ChunkPos.{ChunkPos}
use Rattle.fol_model.specs.declared.regions.State.TheVariants.{Dead, Ticking}
use Rattle.fol_model.specs.declared.tasks.Task.{Task}
use Rattle.fol_model.specs.declared.tasks.Wish.{Wish}
use Rattle.fol_model.specs.declared.events.Accept.TheVariants as accept
use Rattle.fol_model.specs.Geometry.{same_chunk}
use Rattle.fol_model.specs.GridState.{GridState, is_loaded, is_ticking, present_count}
use Rattle.fol_model.specs.Add.{add, counted, is_full, wanted}
use Rattle.fol_model.specs.Counters.{owed_after_add}
use Rattle.fol_model.specs.Drop.{drop_hold}
use Rattle.fol_model.specs.ActionStep.{Recorded, at_id}
use Rattle.fol_model.specs.Job.{queued}
use Rattle.fol_model.specs.Holds.{posted, posting}
use Rattle.fol_model.specs.World.{World}
use Rattle.fol_model.specs.End.{accepted}
use Rattle.fol_laws.proofs.SamePlaces.{same_chunk-self, same_chunk-true}
use Rattle.fol_laws.proofs.SoundRuns.{Ending, accepted_ending}
use Rattle.fol_laws.proofs.SoundState.{SoundWorld}
use Rattle.fol_laws.proofs.SoundSteps.{unloaded_sound}
use Rattle.fol_laws.proofs.WishLimits.{WishOk}
use Rattle.fol_end_laws.specs.DroppedHolds.{drop_each, on_chunk}
use Rattle.fol_end_laws.proofs.DropsInTurn.{on_both}
use Rattle.fol_regions.specs.Table.{grid_state}
use Rattle.fol_regions.proofs.AddAgain.{add_counts, none_wanted, counts_again}
use Rattle.fol_regions.specs.Answers.{add_answer}
use Rattle.fol_regions.specs.declared.answers.AddAnswer.TheVariants.{Full, Counted}
use Rattle.fol_chunks.specs.Contents.{Contents}
use Rattle.fol_store.specs.Relisted.{IsInOrder}
use Rattle.fol_store.specs.Stock.{bag_of, jobs_of}
use Rattle.fol_world.specs.declared.tables.Tables.{Tables}
use Rattle.fol_world.specs.Bags.{StoredIn}
use Rattle.fol_world.specs.Hands.{at_rest, in_hands, owner_of, ticker, went}
use Rattle.fol_world.specs.MostParts.{parts_at_most}
use Rattle.fol_world.specs.Posts.{CanQueue, Queues}
use Rattle.fol_world.specs.Released.{DropsHolds, Loosens}
use Rattle.fol_world.specs.Underway.{IsFree, MayAccept, StillHold, Underway, holding}
use Rattle.fol_world.proofs.Accepted.{delay_parts, no_job}
use Rattle.fol_world.proofs.Accepting.{covers_stirred, post_jobs, stirred_bag}
use Rattle.fol_world.proofs.Holding.{accepted_holding, answer_same, fewer, full_same, none_on, recorded_same, there_behind, tickets_same}
use Rattle.fol_world.proofs.MostParts.{parts_less}
use Rattle.fol_world.proofs.RunDown.{bags_loosened, covers_loosened}

-- ---- what is known while they do
module _ (t : Tables) (v : Contents) (w : World) (since : ℕ → ℕ) (r n : ℕ) (ts : List Task) (s : StillHold t v w since r ts n) where
  pub taken : (bag_of t.store r).taken ≡ true
  taken = (s.underway.midway.stored.bags r).taken ∙ ap is_ticking s.underway.ends.ending.ticks

  pub in_order : IsInOrder (bag_of t.store r)
  in_order l = ((s.underway.midway.stored.bags r).listed (λ d. let x : Ticking ≡ Dead = sym s.underway.ends.ending.ticks ∙ d in absurd (cc)) l).order

-- ---- some of them drop their holds
down_one : (w : World) (d : Task) (ts : List Task) → SoundWorld (holding (d ∷ ts) w) → SoundWorld (holding ts w)
unfolding drop_hold
down_one w d ts s =
    let c : ChunkPos = d.chunk in
    let self : same_chunk d.chunk d.chunk ≡ true = same_chunk-self d.chunk in
    let some : nat_eq (w.tickets d.chunk + on_chunk d.chunk (d ∷ ts)) 0 ≡ false = rw self (ne_eqb _ _ (λ z. omega arith)) in
    let less : SoundWorld (record (holding (d ∷ ts) w) {
      grid = drop_hold (holding (d ∷ ts) w).grid d.chunk;
      tickets = λ q. if same_chunk d.chunk q then (w.tickets d.chunk + on_chunk d.chunk (d ∷ ts)) - 1 else w.tickets q + on_chunk q (d ∷ ts);
    }) = unloaded_sound (holding (d ∷ ts) w).grid (holding (d ∷ ts) w).tickets w.jobs w.next_job s d.chunk some in
    let fall : (f : ChunkPos → ℕ) (q : ChunkPos) → (if same_chunk d.chunk q then (f d.chunk + on_chunk d.chunk (d ∷ ts)) - 1 else f q + on_chunk q (d ∷ ts)) ≡ f q + on_chunk q ts
    = λ f q. elim (cases_Bool (same_chunk d.chunk q)) [
      | inl e ↦ let same : d.chunk ≡ q = same_chunk-true d.chunk q e in
          let a : f d.chunk ≡ f q = ap f same in
          let b : on_chunk d.chunk ts ≡ on_chunk q ts = ap (λ (k : ChunkPos). on_chunk k ts) same in
          rw (e, self) (omega (arith, a, b))
      | inr e ↦ rw e (omega arith)
    ] in
    let holds : (λ q. (drop_hold (holding (d ∷ ts) w).grid d.chunk).holds q) ≡ (λ q. w.grid.holds q + on_chunk q ts) = fun_ext (fall w.grid.holds) in
    let tickets : (λ q. if same_chunk d.chunk q then (w.tickets d.chunk + on_chunk d.chunk (d ∷ ts)) - 1 else w.tickets q + on_chunk q (d ∷ ts)) ≡ (λ q. w.tickets q + on_chunk q ts) = fun_ext (fall w.tickets) in
    let P : (ChunkPos → ℕ) → (ChunkPos → ℕ) → Type 0 = λ h k. SoundWorld (record w { grid = record w.grid { holds = h }; tickets = k }) in
    subst (λ h. P h (λ q. w.tickets q + on_chunk q ts)) holds (subst (P (λ q. (drop_hold (holding (d ∷ ts) w).grid d.chunk).holds q)) tickets less)

down_all : (w : World) (ds ts : List Task) → SoundWorld (holding (ds ++ ts) w) → SoundWorld (holding ts w)
down_all w [] ts s = s
down_all w (d ∷ ds) ts s = down_all w ds ts (down_one w d (ds ++ ts) s)

module _ (t : Tables) (v : Contents) (w : World) (since : ℕ → ℕ) (r n : ℕ) (ds ts : List Task) (s : StillHold t v w since r (ds ++ ts) n)
    (u : Tables) (drops : DropsHolds t u r ds) where
  abbrev g : GridState
  g = (holding (ds ++ ts) w).grid

  abbrev h : GridState
  h = (holding ts w).grid

  now : grid_state u.regions ≡ h
  now = drops.regions ∙ ap (λ (i : GridState). drop_each i ds) s.underway.midway.regions ∙ fewer w.grid w.grid.holds ds ts

  loose : Loosens g h r (bag_of t.store) (bag_of u.store)
  loose = let a = s.underway.midway.regions in let b = now in rw (sym a, sym b) drops.bags

  -- a chunk of another region keeps its holds
  off : (c : ChunkPos) → owner_of g c ≢ r → w.recorded r c ≡ false
  off c d = elim (cases_Bool (w.recorded r c)) [ inl e ↦ absurd (d (s.underway.ends.own c e)) | inr e ↦ e ]

  others : (c : ChunkPos) → owner_of g c ≢ r → is_loaded h c ≡ is_loaded g c
  others c d =
      let all = none_on (w.recorded r) (ds ++ ts) c s.there (off c d) in
      let some = none_on (w.recorded r) ts c (there_behind (λ k. w.recorded r k.chunk ≡ true) ds ts s.there) (off c d) in
      ap (λ (k : ℕ). nat_lt 0 (w.grid.holds c + k)) (some ∙ sym all)

  stored : StoredIn u.store (holding ts w) since
  unfolding in_hands went ticker
  stored = record {
    flat = drops.things.flat ∙ s.underway.midway.stored.flat;
    jobs = drops.things.jobs ∙ s.underway.midway.stored.jobs;
    next = drops.next ∙ s.underway.midway.stored.next;
    bags = bags_loosened g h.holds r s.underway.ends.ending.ticks w.tick w.tick w.owed w.recorded (bag_of t.store) (bag_of u.store) (λ q d. refl) loose others s.underway.midway.stored.bags;
  }

  few_parts : parts_at_most (grid_state u.regions) n ≤ parts_at_most (grid_state t.regions) n
  few_parts = let a = s.underway.midway.regions in let b = now in rw (a, b) (parts_less g h n n (omega arith))

  pub dropped_some : StillHold u v w since r ts n
  dropped_some = record {
    underway = record {
      midway = record {
        grid = drops.grid ∙ s.underway.midway.grid;
        regions = now;
        stored = stored;
        tickets = λ c. let e = drops.tickets in rw e (omega (arith, s.tickets c));
        covers = let e = drops.agenda in rw e (covers_loosened g h.holds r s.underway.ends.ending.ticks w.tick w.tick w.owed w.recorded (bag_of t.store) (bag_of u.store) (λ q d. refl) loose others t.agenda.items s.underway.midway.covers);
        course = let e = drops.course in rw e (record {
          next_job = s.underway.midway.course.next_job;
          in_phase = s.underway.midway.course.in_phase;
          sum = s.underway.midway.course.sum;
          stopped = s.underway.midway.course.stopped;
          finished = s.underway.midway.course.finished;
        });
      };
      ends = record {
        ending = record { sound = down_all w ds ts s.underway.ends.ending.sound; ticks = s.underway.ends.ending.ticks; free = s.underway.ends.ending.free };
        own = s.underway.ends.own;
        new_ticks = s.underway.ends.new_ticks;
        since_most = s.underway.ends.since_most;
        few_ids = s.underway.ends.few_ids;
        few_jobs = s.underway.ends.few_jobs;
        few_tickets = λ c. omega (arith, s.underway.ends.few_tickets c, on_both c ds ts);
      };
      room = record {
        regions = omega (arith, s.underway.room.regions, drops.spare);
        tasks = omega (arith, s.underway.room.tasks, drops.tasks);
        slots = omega (arith, s.underway.room.slots, drops.slots, few_parts);
        tickets = let e = drops.tickets in rw e s.underway.room.tickets;
        agenda = let e = drops.agenda in rw e (omega (arith, s.underway.room.agenda, few_parts));
        entities = s.underway.room.entities;
      };
      contents = s.underway.contents;
    };
    tickets = let e = drops.tickets in rw e s.tickets;
    there = there_behind (λ k. w.recorded r k.chunk ≡ true) ds ts s.there;
  }

-- the tasks before one of them drop theirs
module _ (t : Tables) (v : Contents) (w : World) (since : ℕ → ℕ) (r n : ℕ) (held : List Task) (s : StillHold t v w since r held n) (i : ℕ) (d : Task) (l : i < length held)
    (u : Tables) (drops : DropsHolds t u r (take i held)) where
  split : held ≡ take i held ++ get_or held i d ∷ drop (i + 1) held
  split = sym (take-append-drop i held) ∙ ap (λ (ts : List Task). take i held ++ ts) (drop_more held i d l)

  pub next_in_turn : StillHold u v w since r (get_or held i d ∷ drop (i + 1) held) n
  next_in_turn = dropped_some t v w since r n (take i held) (get_or held i d ∷ drop (i + 1) held) (subst (λ (ts : List Task). StillHold t v w since r ts n) split s) u drops

-- all of them do
pub all_dropped : (t : Tables) (v : Contents) (w : World) (since : ℕ → ℕ) (r n : ℕ) (ts : List Task) → StillHold t v w since r ts n → (u : Tables) → DropsHolds t u r ts → StillHold u v w since r [] n
all_dropped t v w since r n ts s u drops = dropped_some t v w since r n ts [] (subst (λ (ks : List Task). StillHold t v w since r ks n) (sym (append-nil ts)) s) u drops

-- ---- a wish is accepted beside them
module _ (t : Tables) (v : Contents) (w : World) (since : ℕ → ℕ) (r n : ℕ) (ts : List Task) (s : StillHold t v w since r ts (n + 1)) (x : Wish) where
  pub answers_alike : posting (holding ts w) x.chunk ≡ posting w x.chunk
  answers_alike = answer_same ts w x.chunk

  pub may_one : WishOk (w.recorded r) x → IsFree w x → MayAccept t v x
  may_one ok free = record { world = holding ts w; since = since; region = r; rest = n; underway = s.underway; fit = ok; free = free }

  pub accepted_beside : (t' : Tables) (v' : Contents) → Underway t' v' (accepted (holding ts w) x) since r n → t'.tickets ≡ t.tickets → StillHold t' v' (accepted w x) since r ts n
  accepted_beside t' v' u same = record {
    underway = rw (accepted_holding ts w x) at u;
    tickets = rw (same, tickets_same w x) s.tickets;
    there = rw (recorded_same w x) s.there;
  }

-- ---- the first of them hands its hold on
module _ (t : Tables) (v : Contents) (w : World) (since : ℕ → ℕ) (r n : ℕ) (k : Task) (ts : List Task) (s : StillHold t v w since r (k ∷ ts) (n + 1))
    (x : Wish) (same : k.chunk ≡ x.chunk) where
  abbrev c : ChunkPos
  c = x.chunk

  abbrev all : World
  all = holding (k ∷ ts) w

  on_it : same_chunk k.chunk x.chunk ≡ true
  on_it = rw same (same_chunk-self x.chunk)

  held : is_loaded all.grid x.chunk ≡ true
  held = let e = on_it in lt-ltb _ _ (rw e (omega arith))

  counts : add all.grid x.chunk ≡ counted all.grid x.chunk
  counts = add_counts all.grid x.chunk s.underway.ends.ending.sound.rules held

  none : nat_eq (wanted all.grid x.chunk) 0 ≡ true
  none = none_wanted all.grid x.chunk s.underway.ends.ending.sound.rules held

  none_here : nat_eq (wanted w.grid x.chunk) 0 ≡ true
  unfolding wanted
  none_here = none

  full_answer : is_full all.grid x.chunk ≡ true → add_answer all.grid x.chunk ≡ Full (present_count all.grid) (wanted all.grid x.chunk)
  full_answer f = rw f refl

  room : is_full all.grid x.chunk ≡ false
  room = elim (cases_Bool (is_full all.grid x.chunk)) [
    | inl f ↦ let e : Counted ≡ Full (present_count all.grid) (wanted all.grid x.chunk) = sym (counts_again all.grid x.chunk s.underway.ends.ending.sound.rules held) ∙ full_answer f in absurd (cc)
    | inr f ↦ f
  ]

  room_here : is_full w.grid x.chunk ≡ false
  room_here = sym (full_same w.grid (λ q. on_chunk q (k ∷ ts)) x.chunk) ∙ room

  counts_here : add w.grid x.chunk ≡ counted w.grid x.chunk
  unfolding add
  counts_here = let f = room_here in let z = none_here in rw (f, z) refl

  owed_here : owed_after_add w.grid x.chunk w.owed ≡ w.owed
  unfolding owed_after_add
  owed_here = let f = room_here in let z = none_here in fun_ext (λ q. rw (f, z) refl)

  owed_all : owed_after_add all.grid x.chunk w.owed ≡ w.owed
  unfolding owed_after_add
  owed_all = let f = room in let z = none in fun_ext (λ q. rw (f, z) refl)

  pub posts : posting w x.chunk ≡ accept.Posted w.next_job
  posts = let f = room_here in rw f refl

  -- a task more, which has the hold
  abbrev p : World
  p = record all {
    tickets = λ q. w.tickets q + on_chunk q ts;
    jobs = at_id w.jobs w.next_job (Some (queued x.chunk x.delay x.action));
    next_job = w.next_job + 1;
  }

  hold_stays : (q : ChunkPos) → (counted w.grid x.chunk).holds q + on_chunk q ts ≡ w.grid.holds q + on_chunk q (k ∷ ts)
  hold_stays q = let on : same_chunk k.chunk q ≡ same_chunk x.chunk q = ap (λ (d : ChunkPos). same_chunk d q) same in elim (cases_Bool (same_chunk x.chunk q)) [
    | inl e ↦ let h : w.grid.holds x.chunk ≡ w.grid.holds q = ap w.grid.holds (same_chunk-true x.chunk q e) in rw (on, e) (omega (arith, h))
    | inr e ↦ rw (on, e) (omega arith)
  ]

  accepted_is : accepted w x ≡ record w {
    grid = counted w.grid x.chunk;
    jobs = at_id w.jobs w.next_job (Some (queued x.chunk x.delay x.action));
    next_job = w.next_job + 1;
  }
  unfolding accepted posted
  accepted_is = let f = room_here in let g = counts_here in let o = owed_here in rw (f, g, o) refl

  taken_over : p ≡ holding ts (accepted w x)
  taken_over = sym (ap (holding ts) accepted_is ∙ ap (λ (f : ChunkPos → ℕ). record p { grid = record w.grid { holds = f } }) (fun_ext hold_stays))

  -- ---- it is sound
  module _ (ok : WishOk (w.recorded r) x) where
    abbrev rec : Recorded
    rec = w.recorded r

    all_accepts : accepted all x ≡ record all {
      grid = counted all.grid x.chunk;
      jobs = at_id w.jobs w.next_job (Some (queued x.chunk x.delay x.action));
      next_job = w.next_job + 1;
    }
    unfolding accepted posted
    all_accepts = let f = room in let g = counts in let o = owed_all in rw (f, g, o) refl

    then : Ending r (record all {
      grid = counted all.grid x.chunk;
      jobs = at_id w.jobs w.next_job (Some (queued x.chunk x.delay x.action));
      next_job = w.next_job + 1;
    })
    then = rw all_accepts at (accepted_ending (w.recorded r) all x r s.underway.ends.ending ok)

    back : (q : ChunkPos) → (drop_hold (counted all.grid x.chunk) x.chunk).holds q ≡ all.grid.holds q
    unfolding drop_hold
    back q = let self = same_chunk-self x.chunk in elim (cases_Bool (same_chunk x.chunk q)) [
      | inl e ↦ let h : all.grid.holds x.chunk ≡ all.grid.holds q = ap all.grid.holds (same_chunk-true x.chunk q e) in rw (e, self) (omega (arith, h))
      | inr e ↦ rw e refl
    ]

    one_less : (q : ChunkPos) → (if same_chunk x.chunk q then all.tickets x.chunk - 1 else all.tickets q) ≡ p.tickets q
    one_less q = let on : same_chunk k.chunk q ≡ same_chunk x.chunk q = ap (λ (d : ChunkPos). same_chunk d q) same in let self = on_it in elim (cases_Bool (same_chunk x.chunk q)) [
      | inl e ↦ let there : x.chunk ≡ q = same_chunk-true x.chunk q e in
          let a : w.tickets x.chunk ≡ w.tickets q = ap w.tickets there in
          let b : on_chunk x.chunk ts ≡ on_chunk q ts = ap (λ (d : ChunkPos). on_chunk d ts) there in
          rw (e, self) (omega (arith, a, b))
      | inr e ↦ rw (e, on, e) (omega arith)
    ]

    some : nat_eq (all.tickets x.chunk) 0 ≡ false
    some = let e = on_it in rw e (ne_eqb _ _ (λ z. omega arith))

    sound : SoundWorld p
    unfolding drop_hold
    sound =
        let d = unloaded_sound (counted all.grid x.chunk) all.tickets (at_id w.jobs w.next_job (Some (queued x.chunk x.delay x.action))) (w.next_job + 1) then.sound x.chunk some in
        let P : (ChunkPos → ℕ) → (ChunkPos → ℕ) → Type 0 = λ f j. SoundWorld (record p { grid = record w.grid { holds = f }; tickets = j }) in
        subst (λ f. P f p.tickets) (fun_ext back) (subst (P (drop_hold (counted all.grid x.chunk) x.chunk).holds) (fun_ext one_less) d)

    module _ (u : Tables) (queues : Queues t u x.chunk x.delay x.action) where
      jobs : jobs_of u.store ≡ (λ i. at_rest p.grid since i (p.jobs i))
      unfolding posted went ticker
      jobs =
          let js = post_jobs t v all since r n s.underway x.chunk ok.chunk x.delay x.action (jobs_of t.store) refl in
          let full = room in
          let g = counts in
          queues.jobs ∙ ap (λ (i : ℕ). at_id (jobs_of t.store) i (Some (queued x.chunk x.delay x.action))) s.underway.midway.course.next_job ∙ (rw (full, g) at js)

      fewer_parts : parts_at_most (grid_state u.regions) n ≤ parts_at_most (grid_state t.regions) (n + 1)
      fewer_parts = let e = queues.regions in rw e (parts_less (grid_state t.regions) (grid_state t.regions) n (n + 1) (omega arith))

      taken_underway : Underway u v p since r n
      taken_underway = record {
        midway = record {
          grid = queues.grid ∙ s.underway.midway.grid;
          regions = ap grid_state queues.regions ∙ s.underway.midway.regions;
          stored = record {
            flat = queues.flat ∙ s.underway.midway.stored.flat;
            jobs = jobs;
            next = queues.next ∙ s.underway.midway.stored.next;
            bags = λ q. stirred_bag all.grid w.tick w.owed w.recorded q x.chunk (bag_of t.store q) (bag_of u.store q) (queues.bags q) (s.underway.midway.stored.bags q);
          };
          tickets = λ q. let e = queues.tickets in rw e (omega (arith, s.tickets q));
          covers = let e = queues.agenda in rw e (covers_stirred t.agenda.items all.grid x.chunk (bag_of t.store) (bag_of u.store) queues.bags s.underway.midway.covers);
          course = let e = queues.course in rw e (record {
            next_job = ap (λ (i : ℕ). i + 1) s.underway.midway.course.next_job;
            in_phase = s.underway.midway.course.in_phase;
            sum = s.underway.midway.course.sum;
            stopped = s.underway.midway.course.stopped;
            finished = s.underway.midway.course.finished;
          });
        };
        ends = record {
          ending = record { sound = sound; ticks = s.underway.ends.ending.ticks; free = then.free };
          own = s.underway.ends.own;
          new_ticks = s.underway.ends.new_ticks;
          since_most = λ q. omega (arith, s.underway.ends.since_most q);
          few_ids = omega (arith, s.underway.ends.few_ids);
          few_jobs = omega (arith, s.underway.ends.few_jobs);
          few_tickets = λ q. omega (arith, s.underway.ends.few_tickets q);
        };
        room = record {
          regions = let e = queues.regions in rw e (omega (arith, s.underway.room.regions));
          tasks = omega (arith, s.underway.room.tasks, queues.spare);
          slots = omega (arith, s.underway.room.slots, queues.slots, fewer_parts);
          tickets = let e = queues.tickets in rw e s.underway.room.tickets;
          agenda = let e = queues.agenda in rw e (omega (arith, s.underway.room.agenda, fewer_parts));
          entities = omega (arith, s.underway.room.entities);
        };
        contents = s.underway.contents;
      }

      pub takes_over : StillHold u v (accepted w x) since r ts n
      takes_over = record {
        underway = rw (sym taken_over) taken_underway;
        tickets = let e = queues.tickets in rw (e, tickets_same w x) s.tickets;
        there = rw (recorded_same w x) s.there.1;
      }

    pub can_queue_now : CanQueue t x.delay
    can_queue_now = let d = delay_parts x.delay ok.delay in record {
      spare = omega (arith, s.underway.room.tasks);
      fresh = no_job t v all since r n s.underway x;
      delay_low = d.0;
      delay_high = d.1;
      few = omega (arith, s.underway.midway.course.next_job, s.underway.ends.few_jobs);
    }
