-- One wish: what the tables and the contents stand for when it is accepted, or can't be.
use Rattle.std.proofs.Common.{◌≡◌, ◌≢◌, ℕ, ◌+◌, ◌≤◌, refl, sym, ◌∙◌, ap, arith, true, false, not, inl, inr, length}
use Rattle.std.specs.Prelude.{nat_eq, nat_le, Option, Some, None, IsNone}
use Rattle.std.specs.Option.{is_some}
use Rattle.std.proofs.Math.Path.{fun_ext}
use Rattle.std.proofs.lemmas.Bool.{cases_Bool, eqb-true, leb-true, and_parts}
use Rattle.fol_model.specs.declared.places.ChunkPos.{ChunkPos}
use Rattle.fol_model.specs.declared.places.BlockPos.{BlockPos}
use Rattle.fol_model.specs.declared.actions.Action.{Action}
use Rattle.fol_model.specs.declared.actions.Action.TheVariants as action
use Rattle.fol_model.specs.declared.tasks.Wish.{Wish}
use Rattle.fol_model.specs.declared.grids.Grid.{Grid}
use Rattle.fol_model.specs.Geometry.{chunk_of, section_of}
use Rattle.fol_model.specs.Counters.{owed_after_add}
use Rattle.fol_model.specs.GridState.{GridState, present_count}
use Rattle.fol_model.specs.Add.{add, is_full, wanted}
use Rattle.fol_model.specs.ActionStep.{Flat, Recorded, Standing, at_id}
use Rattle.fol_model.specs.Job.{Job, queued}
use Rattle.fol_model.specs.Holds.{held_more, posted, posting}
use Rattle.fol_model.specs.Limits.{is_delay}
use Rattle.fol_model.specs.declared.events.Accept.TheVariants as accept
use Rattle.fol_model.specs.World.{World}
use Rattle.fol_model.specs.End.{put_back, accepted}
use Rattle.fol_laws.specs.Contents.{SameOn}
use Rattle.fol_laws.proofs.OwnedRuns.{same_self}
use Rattle.fol_laws.proofs.SoundRuns.{Ending, accepted_ending}
use Rattle.fol_laws.proofs.TickingKept.{Kept}
use Rattle.fol_laws.proofs.WishLimits.{WishOk, comes_back}
use Rattle.fol_regions.specs.Table.{grid_state}
use Rattle.fol_regions.specs.Answers.{add_answer}
use Rattle.fol_regions.specs.Changes.{add_change}
use Rattle.fol_regions.specs.declared.answers.AddAnswer.{AddAnswer}
use Rattle.fol_regions.specs.declared.answers.AddAnswer.TheVariants.{Full, Counted, Changed}
use Rattle.fol_chunks.specs.Contents.{Contents, flat_of as contents_of, option_filter, outside, within}
use Rattle.fol_store.specs.Stock.{bag_of, jobs_of, next_of}
use Rattle.fol_world.specs.declared.tables.Tables.{Tables}
use Rattle.fol_world.specs.Agenda.{Covers}
use Rattle.fol_world.specs.Bags.{IsBagOf, StoredIn}
use Rattle.fol_world.specs.Follows.{Holds}
use Rattle.fol_world.specs.Hands.{at_rest, in_hands}
use Rattle.fol_world.specs.MostParts.{parts_at_most}
use Rattle.fol_world.specs.Posts.{CanQueue, LeavesRoom, Queues}
use Rattle.fol_world.specs.Returned.{StandsNowhere, returned}
use Rattle.fol_world.specs.Underway.{HasRoomFor, IsFree, Underway}
use Rattle.fol_world.proofs.Accepting.{covers_stirred, few_made, grid_stays, held_bags, held_next, new_next, next_grows, post_hands, post_jobs, post_kept, stirred_bag}
use Rattle.fol_world.proofs.Flats.{flat_ext}
use Rattle.fol_world.proofs.MostParts.{added_few, parts_less}
use Rattle.fol_world.proofs.ReleasedHands.{in_hands_there}
use Rattle.fol_world.proofs.RunDown.{outside_same}

-- ---- an entity that comes back
pub put_back_is : (w : World) (a : Action) (b : Option BlockPos) → put_back w a b ≡ record w { flat = returned w.flat a b }
put_back_is w (action.Arrive e) (Some b) = refl
put_back_is w (action.Arrive e) None = refl
put_back_is w (action.Set at id) b = refl
put_back_is w (action.Copy at to) b = refl
put_back_is w (action.Load c) b = refl
put_back_is w (action.Unload c) b = refl
put_back_is w (action.Post c d inner) b = refl
put_back_is w (action.Send id to) b = refl
put_back_is w (action.Every p l inner) b = refl

-- it stands in a chunk of rec
pub back_outside : (rec : Recorded) (f : Flat) (a : Action) (b : Option BlockPos) → comes_back rec a b ≡ true → ((e : _) → a ≡ action.Arrive e → f.standing e.id ≡ None) → SameOn (λ c. not (rec c)) f (returned f a b)
back_outside rec f (action.Arrive e) (Some b) ok free = record {
  blocks = λ p h. refl;
  standing = λ id. elim (cases_Bool (nat_eq e.id id)) [
    | inl k ↦ let s : e.id ≡ id = eqb-true _ _ k in let z : f.standing id ≡ None = sym (ap f.standing s) ∙ free e refl in rw (k, z, ok) refl
    | inr k ↦ rw k refl
  ];
}
back_outside rec f (action.Arrive e) None ok free = same_self _ f
back_outside rec f (action.Set at id) b ok free = same_self _ f
back_outside rec f (action.Copy at to) b ok free = same_self _ f
back_outside rec f (action.Load c) b ok free = same_self _ f
back_outside rec f (action.Unload c) b ok free = same_self _ f
back_outside rec f (action.Post c d inner) b ok free = same_self _ f
back_outside rec f (action.Send id to) b ok free = same_self _ f
back_outside rec f (action.Every p l inner) b ok free = same_self _ f

pub back_within : (rec : Recorded) (f : Flat) (a : Action) (b : Option BlockPos) → comes_back rec a b ≡ true → returned (within rec f) a b ≡ within rec (returned f a b)
back_within rec f (action.Arrive e) (Some b) ok = flat_ext _ _ (λ p. refl) (λ id. elim (cases_Bool (nat_eq e.id id)) [ inl k ↦ rw (k, ok) refl | inr k ↦ rw k refl ])
back_within rec f (action.Arrive e) None ok = refl
back_within rec f (action.Set at id) b ok = refl
back_within rec f (action.Copy at to) b ok = refl
back_within rec f (action.Load c) b ok = refl
back_within rec f (action.Unload c) b ok = refl
back_within rec f (action.Post c d inner) b ok = refl
back_within rec f (action.Send id to) b ok = refl
back_within rec f (action.Every p l inner) b ok = refl

add_full : (g : GridState) (c : ChunkPos) → is_full g c ≡ true → add g c ≡ g
unfolding add
add_full g c f = rw f refl

owed_full : (g : GridState) (c : ChunkPos) (owed : ℕ → ℕ) → is_full g c ≡ true → owed_after_add g c owed ≡ owed
unfolding owed_after_add
owed_full g c owed f = fun_ext (λ r. rw f refl)

-- ---- the memory that is left
pub room_less : (t u : Tables) (v k : Contents) (made n : ℕ) → HasRoomFor t v (n + 1) → LeavesRoom t u made → made ≤ 1 → parts_at_most (grid_state u.regions) n ≤ parts_at_most (grid_state t.regions) (n + 1) → u.tickets ≡ t.tickets → t.store.spare ≤ u.store.spare → v.spare ≤ k.spare + 1 → HasRoomFor u k n
room_less t u v k made n room left few parts tickets spare entities = record {
  regions = omega (arith, room.regions, left.regions);
  tasks = omega (arith, room.tasks, spare);
  slots = omega (arith, room.slots, left.slots, few, parts);
  tickets = rw tickets room.tickets;
  agenda = omega (arith, room.agenda, left.agenda.len, left.agenda.capacity, parts);
  entities = omega (arith, room.entities, entities);
}

module _ (t : Tables) (v : Contents) (w : World) (since : ℕ → ℕ) (r n : ℕ) (u : Underway t v w since r (n + 1)) (x : Wish) (ok : WishOk (w.recorded r) x)
    (t' : Tables) (holds : Holds t t' x.chunk) (tickets : t'.tickets ≡ t.tickets) (left : LeavesRoom t t' (length (add_change (grid_state t.regions) x.chunk).created)) where
  abbrev c : ChunkPos
  c = x.chunk

  abbrev rec : Recorded
  rec = w.recorded r

  few : length (add_change (grid_state t.regions) x.chunk).created ≤ 1
  few = few_made t v w since r n u x.chunk ok.chunk

  next_most : (add w.grid x.chunk).next ≤ w.grid.next + 1
  next_most = new_next t v w since r n u x.chunk ok.chunk

  now : grid_state t'.regions ≡ add w.grid x.chunk
  now = holds.regions ∙ ap (λ (g : GridState). add g x.chunk) u.midway.regions

  few_parts : parts_at_most (grid_state t'.regions) n ≤ parts_at_most (grid_state t.regions) (n + 1)
  few_parts = let added = added_few w.grid x.chunk u.ends.ending.sound.rules u.ends.ending.sound.grid ok.chunk in
      rw (now, u.midway.regions) (parts_less w.grid (add w.grid x.chunk) n (n + 1) (omega (arith, added)))

  bags_now : (q : ℕ) → IsBagOf (add w.grid x.chunk) w.tick (owed_after_add w.grid x.chunk w.owed) w.recorded q (bag_of t'.store q)
  bags_now = held_bags t v w since r n u x.chunk ok.chunk (bag_of t'.store) (rw holds.regions at holds.bags)

  next_now : next_of t'.store ≡ (add w.grid x.chunk).next
  next_now = held_next t v w since r n u x.chunk ok.chunk (next_of t'.store) holds.next

  covers_now : Covers t'.agenda.items (add w.grid x.chunk) (bag_of t'.store)
  covers_now = rw now at holds.covers

  -- ---- the chunk can't be held
  module _ (full : is_full w.grid x.chunk ≡ true) (free : IsFree w x) (v' : Contents)
      (back : contents_of v' ≡ returned (contents_of v) x.action x.back) (spare : v.spare ≤ v'.spare + 1) where
    abbrev w' : World
    w' = record w { flat = returned w.flat x.action x.back }

    becomes : accepted w x ≡ w'
    unfolding accepted
    becomes = rw full (put_back_is w x.action x.back)

    own : (q : ChunkPos) → rec q ≡ true → in_hands w.grid w.recorded q ≡ true
    own = in_hands_there w.grid r u.ends.ending.sound.rules u.ends.ending.sound.grid u.ends.ending.ticks w.recorded u.ends.own

    same_grid : add w.grid x.chunk ≡ w.grid
    same_grid = add_full w.grid x.chunk full

    full_stored : StoredIn t'.store w' since
    full_stored = record {
      flat = holds.things.flat ∙ u.midway.stored.flat ∙ outside_same (in_hands w.grid w.recorded) rec w.flat w'.flat own (back_outside rec w.flat x.action x.back ok.back free);
      jobs = holds.things.jobs ∙ u.midway.stored.jobs;
      next = rw same_grid at next_now;
      bags = λ q. let b = bags_now q in let o = owed_full w.grid x.chunk w.owed full in rw (same_grid, o) at b;
    }

    full_underway : Underway t' v' w' since r n
    full_underway = record {
      midway = record {
        grid = holds.grid ∙ u.midway.grid;
        regions = now ∙ same_grid;
        stored = full_stored;
        tickets = rw tickets u.midway.tickets;
        covers = rw same_grid at covers_now;
        course = let h = holds.course in rw h (record {
          next_job = u.midway.course.next_job;
          in_phase = u.midway.course.in_phase;
          sum = u.midway.course.sum;
          stopped = u.midway.course.stopped;
          finished = u.midway.course.finished;
        });
      };
      ends = record {
        ending = record { sound = u.ends.ending.sound; ticks = u.ends.ending.ticks; free = u.ends.ending.free };
        own = u.ends.own;
        new_ticks = u.ends.new_ticks;
        since_most = u.ends.since_most;
        few_ids = omega (arith, u.ends.few_ids);
        few_jobs = omega (arith, u.ends.few_jobs);
        few_tickets = u.ends.few_tickets;
      };
      room = room_less t t' v v' _ n u.room left few few_parts tickets holds.spare spare;
      contents = back ∙ ap (λ (f : Flat). returned f x.action x.back) u.contents ∙ back_within rec w.flat x.action x.back ok.back;
    }

    pub full_step : Underway t' v' (accepted w x) since r n
    full_step = rw becomes full_underway

  -- ---- the chunk is held, and the task is queued
  module _ (room : is_full w.grid x.chunk ≡ false) (z : Tables) (queues : Queues t' z x.chunk x.delay x.action) where
    abbrev p : World
    p = record (held_more w x.chunk) { jobs = at_id w.jobs w.next_job (Some (queued x.chunk x.delay x.action)); next_job = w.next_job + 1 }

    posted_is : posted w x.chunk x.delay x.action ≡ p
    unfolding posted
    posted_is = rw room refl

    posts : accepted w x ≡ p
    unfolding accepted
    posts = rw room posted_is

    hands : in_hands p.grid p.recorded ≡ in_hands w.grid w.recorded
    hands = rw posted_is at (post_hands t v w since r n u x.chunk ok.chunk x.delay x.action)

    job : t'.course.next_job ≡ w.next_job
    job = ap (λ k. k.next_job) holds.course ∙ u.midway.course.next_job

    jobs : jobs_of z.store ≡ (λ k. at_rest p.grid since k (p.jobs k))
    jobs = let a = post_jobs t v w since r n u x.chunk ok.chunk x.delay x.action (jobs_of t'.store) holds.things.jobs in
        let b : at_id (jobs_of t'.store) w.next_job (Some (queued x.chunk x.delay x.action)) ≡ (λ k. at_rest p.grid since k (p.jobs k)) = rw posted_is at a in
        queues.jobs ∙ ap (λ (k : ℕ). at_id (jobs_of t'.store) k (Some (queued x.chunk x.delay x.action))) job ∙ b

    posted_stored : StoredIn z.store p since
    posted_stored = record {
      flat = queues.flat ∙ holds.things.flat ∙ u.midway.stored.flat ∙ sym (ap (λ (h : Recorded). outside h w.flat) hands);
      jobs = jobs;
      next = queues.next ∙ next_now;
      bags = λ q. stirred_bag (add w.grid x.chunk) w.tick (owed_after_add w.grid x.chunk w.owed) w.recorded q x.chunk (bag_of t'.store q) (bag_of z.store q) (queues.bags q) (bags_now q);
    }

    posted_ending : Ending r p
    posted_ending = rw posts at (accepted_ending rec w x r u.ends.ending ok)

    posted_underway : Underway z v p since r n
    posted_underway = record {
      midway = record {
        grid = queues.grid ∙ holds.grid ∙ u.midway.grid ∙ sym (grid_stays t v w since r n u x.chunk ok.chunk);
        regions = ap grid_state queues.regions ∙ now;
        stored = posted_stored;
        tickets = let e = queues.tickets ∙ tickets in rw e u.midway.tickets;
        covers = let e = queues.agenda in rw e (covers_stirred t'.agenda.items (add w.grid x.chunk) x.chunk (bag_of t'.store) (bag_of z.store) queues.bags covers_now);
        course = let e = queues.course in let h = holds.course in rw (e, h) (record {
          next_job = ap (λ (k : ℕ). k + 1) u.midway.course.next_job;
          in_phase = u.midway.course.in_phase;
          sum = u.midway.course.sum;
          stopped = u.midway.course.stopped;
          finished = u.midway.course.finished;
        });
      };
      ends = record {
        ending = posted_ending;
        own = λ q h. let k : Kept r w p = rw posted_is at (post_kept t v w since r n u x.chunk ok.chunk x.delay x.action r u.ends.ending.ticks) in
            let e : p.grid.grid ≡ w.grid.grid = k.grid in
            let s : p.grid.owner (section_of w.grid.grid q) ≡ r = (k.sections (section_of w.grid.grid q)).0 (u.ends.own q h) in
            ap (λ (i : Grid). p.grid.owner (section_of i q)) e ∙ s;
        new_ticks = λ q l. u.ends.new_ticks q (omega (arith, next_grows t v w since r n u x.chunk ok.chunk, l));
        since_most = λ q. omega (arith, u.ends.since_most q);
        few_ids = omega (arith, u.ends.few_ids, next_most);
        few_jobs = omega (arith, u.ends.few_jobs);
        few_tickets = u.ends.few_tickets;
      };
      room = record {
        regions = let e = queues.regions in rw e (omega (arith, u.room.regions, left.regions));
        tasks = omega (arith, u.room.tasks, holds.spare, queues.spare);
        slots = let e = queues.regions in rw e (omega (arith, u.room.slots, left.slots, few, few_parts, queues.slots));
        tickets = let e = queues.tickets ∙ tickets in rw e u.room.tickets;
        agenda = let e = queues.agenda in let q = queues.regions in rw (e, q) (omega (arith, u.room.agenda, left.agenda.len, left.agenda.capacity, few_parts));
        entities = omega (arith, u.room.entities);
      };
      contents = u.contents;
    }

    pub posted_step : Underway z v (accepted w x) since r n
    posted_step = rw posts posted_underway

-- ---- what a wish asks for
abbrev present_in : AddAnswer → ℕ
present_in (Full p q) = p
present_in _ = 0

abbrev wanted_in : AddAnswer → ℕ
wanted_in (Full p q) = q
wanted_in _ = 0

pub delay_parts : (d : ℕ) → is_delay d ≡ true → (1 ≤ d) × (d ≤ 1000000)
unfolding is_delay
delay_parts d h = let p = and_parts (nat_le 1 d) (nat_le d 1000000) h in (leb-true 1 d p.0, leb-true d 1000000 p.1)

module _ (t : Tables) (v : Contents) (w : World) (since : ℕ → ℕ) (r n : ℕ) (u : Underway t v w since r (n + 1)) (x : Wish) where
  pub no_job : IsNone (jobs_of t.store t.course.next_job)
  no_job = let e : w.jobs w.next_job ≡ None = u.ends.ending.sound.numbers w.next_job (omega arith) in
      let j : jobs_of t.store w.next_job ≡ at_rest w.grid since w.next_job (w.jobs w.next_job) = ap (λ (f : ℕ → Option Job). f w.next_job) u.midway.stored.jobs in
      rw u.midway.course.next_job (ap is_some (j ∙ ap (at_rest w.grid since w.next_job) e))

  pub can_queue : (t' : Tables) → Holds t t' x.chunk → WishOk (w.recorded r) x → CanQueue t' x.delay
  can_queue t' holds ok = let d = delay_parts x.delay ok.delay in record {
    spare = omega (arith, holds.spare, u.room.tasks);
    fresh = let e = holds.things.jobs in let k = holds.course in rw (e, k) no_job;
    delay_low = d.0;
    delay_high = d.1;
    few = let k = holds.course in rw k (omega (arith, u.midway.course.next_job, u.ends.few_jobs));
  }

  pub stands_nowhere : IsFree w x → StandsNowhere (contents_of v) x.action
  stands_nowhere free e a = let z = free e a in ap is_some (ap (λ (f : Flat). f.standing e.id) u.contents ∙ ap (option_filter (λ (s : Standing). w.recorded r (chunk_of s.at))) z)

  pub full_is : (p q : ℕ) → Full p q ≡ add_answer (grid_state t.regions) x.chunk → (is_full w.grid x.chunk ≡ true) × (posting w x.chunk ≡ accept.Full p q)
  full_is p q e = let e' : Full p q ≡ add_answer w.grid x.chunk = rw u.midway.regions at e in elim (cases_Bool (is_full w.grid x.chunk)) [
    | inl f ↦ let k : Full p q ≡ Full (present_count w.grid) (wanted w.grid x.chunk) = rw f at e' in
        (f, rw f (ap (λ (y : AddAnswer). accept.Full (present_in y) (wanted_in y)) (sym k)))
    | inr f ↦ elim (cases_Bool (nat_eq (wanted w.grid x.chunk) 0)) [
      | inl z ↦ let k : Full p q ≡ Counted = rw (f, z) at e' in absurd (cc)
      | inr z ↦ let k : Full p q ≡ Changed = rw (f, z) at e' in absurd (cc)
    ]
  ]

  pub full_not : (a : AddAnswer) → a ≡ add_answer (grid_state t.regions) x.chunk → ((p q : ℕ) → a ≢ Full p q) → (is_full w.grid x.chunk ≡ false) × (posting w x.chunk ≡ accept.Posted w.next_job)
  full_not a e other = let e' : a ≡ add_answer w.grid x.chunk = rw u.midway.regions at e in elim (cases_Bool (is_full w.grid x.chunk)) [
    | inl f ↦ let k : a ≡ Full (present_count w.grid) (wanted w.grid x.chunk) = rw f at e' in absurd (other _ _ k)
    | inr f ↦ (f, rw f refl)
  ]
