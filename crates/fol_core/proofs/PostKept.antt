-- What the tables stand for after a post.
use Rattle.std.proofs.Common.{◌≡◌, ◌≢◌, ℕ, ◌+◌, ◌≤◌, ◌<◌, ◌^◌, refl, sym, ◌∙◌, ap, subst, arith, true, false, inl, inr, List, [], ◌∷◌, ◌++◌}
use Rattle.std.specs.Prelude.{nat_lt, IsNone, Option, Some, None}
use Rattle.std.proofs.Math.Path.{fun_ext}
use Rattle.std.proofs.lemmas.Bool.{cases_Bool, cases_eq, and_right, le-ltb}
use Rattle.fol_model.specs.declared.places.ChunkPos.{ChunkPos}
use Rattle.fol_model.specs.declared.openings.Opening.{Opening}
use Rattle.fol_model.specs.declared.actions.Action.{Action}
use Rattle.fol_model.specs.declared.events.Accept.{Accept}
use Rattle.fol_model.specs.declared.events.Event.{Event}
use Rattle.fol_model.specs.declared.events.Event.TheVariants.{Post}
use Rattle.fol_model.specs.declared.events.Entry.{Entry}
use Rattle.fol_model.specs.Geometry.{is_chunk}
use Rattle.fol_model.specs.GridState.{GridState}
use Rattle.fol_model.specs.Add.{add, is_full}
use Rattle.fol_model.specs.ActionStep.{at_id}
use Rattle.fol_model.specs.Holds.{posted, posting}
use Rattle.fol_model.specs.Job.{Job, queued}
use Rattle.fol_model.specs.Limits.{is_action, is_delay, may_post}
use Rattle.fol_model.specs.World.{World}
use Rattle.fol_model.specs.Run.{Allowed, world}
use Rattle.fol_laws.proofs.FunctionsChanged.{at_here, at_other}
use Rattle.fol_sections.specs.Places.{count_at}
use Rattle.fol_regions.specs.Table.{grid_state}
use Rattle.fol_store.specs.Stock.{bag_of, jobs_of, next_of}
use Rattle.fol_world.specs.declared.tables.Course.{Course}
use Rattle.fol_world.specs.declared.tables.Tables.{Tables}
use Rattle.fol_world.specs.Hands.{at_rest, since, ticker, went}
use Rattle.fol_world.specs.Bags.{IsBagOf}
use Rattle.fol_world.specs.Agenda.{IsAgenda}
use Rattle.fol_world.specs.Follows.{Holds, Posts, PostsUnless, accept_in}
use Rattle.fol_world.specs.Stands.{IsCourse, Stands}
use Rattle.fol_world.proofs.GridRuns.{grid_after}
use Rattle.fol_world.proofs.Held.{held_bags, held_flat, held_next, held_posted, held_rest}
use Rattle.fol_core.proofs.LoadKept.{SameMarks, agenda_held, course_more, grid_held, jobs_held, regions_held, stack_kept}
use Rattle.fol_world.proofs.Longer.{good_of, stands_more}
use Rattle.fol_world.proofs.SinceRuns.{since_most}
use Rattle.fol_world.proofs.TicketRuns.{tickets_posted}

full_marks : (w : World) (c : ChunkPos) (d : ℕ) (a : Action) → is_full w.grid c ≡ true → SameMarks w (posted w c d a)
unfolding posted
full_marks w c d a f = rw f (record { next_job = refl; in_phase = refl; sum = refl; stopped = refl; finished = refl })

full_jobs : (w : World) (c : ChunkPos) (d : ℕ) (a : Action) → is_full w.grid c ≡ true → (posted w c d a).jobs ≡ w.jobs
unfolding posted
full_jobs w c d a f = rw f refl

room_jobs : (w : World) (c : ChunkPos) (d : ℕ) (a : Action) → is_full w.grid c ≡ false → (posted w c d a).jobs ≡ at_id w.jobs w.next_job (Some (queued c d a))
unfolding posted
room_jobs w c d a f = rw f refl

-- the course of a post that was accepted
room_course : (w : World) (c : ChunkPos) (d : ℕ) (a : Action) (k l m : Course) → is_full w.grid c ≡ false → IsCourse k w → l ≡ record k { next_job = k.next_job + 1 } → m ≡ record l { size = l.size + 1 } → IsCourse m (posted w c d a)
unfolding posted
room_course w c d a k l m f is x y = rw f (record {
  next_job = ap (λ (z : Course). z.next_job) y ∙ ap (λ (z : Course). z.next_job) x ∙ ap (λ n. n + 1) is.next_job;
  in_phase = ap (λ (z : Course). z.in_phase) y ∙ ap (λ (z : Course). z.in_phase) x ∙ is.in_phase;
  sum = ap (λ (z : Course). z.sum) y ∙ ap (λ (z : Course). z.sum) x ∙ is.sum;
  stopped = ap (λ (z : Course). z.stopped) y ∙ ap (λ (z : Course). z.stopped) x ∙ is.stopped;
  finished = ap (λ (z : Course). z.finished) y ∙ ap (λ (z : Course). z.finished) x ∙ is.finished;
})

-- a task with a number that no Begin has seen is at rest
new_rests : (g : GridState) (f : ℕ → ℕ) (n : ℕ) (c : ChunkPos) (d : ℕ) (a : Action) → ((r : ℕ) → f r ≤ n) → at_rest g f n (Some (queued c d a)) ≡ Some (queued c d a)
unfolding went
new_rests g f n c d a most = let late : nat_lt n (f (ticker g c)) ≡ false = le-ltb n (f (ticker g c)) (most (ticker g c)) in
    rw (late, and_right (nat_lt 0 (ticker g c)) false refl) refl

module _ (o : Opening) (h : List Entry) (t : Tables) (s : Stands o h t) (c : ChunkPos) (d : ℕ) (a : Action) where
  -- the next number has no task
  pub fresh_number : IsNone (jobs_of t.store t.course.next_job)
  fresh_number = let none : (world o h).jobs t.course.next_job ≡ None = (good_of o h t s).sound.numbers t.course.next_job (omega (arith, s.fits.course.next_job)) in
      rw s.fits.stored.jobs (rw none refl)

  pub accept_same : (answer : Accept) → answer ≡ accept_in (grid_state t.regions) t.course.next_job c → answer ≡ posting (world o h) c
  accept_same answer e = e ∙ ap (λ g. accept_in g t.course.next_job c) s.fits.regions ∙ ap (λ n. accept_in (world o h).grid n c) s.fits.course.next_job

  module _ (limits : is_chunk c ≡ true) (delay : is_delay d ≡ true) (within : is_action a ≡ true) (may : may_post a ≡ true) (by caller : ℕ) (answer : Accept) (told : answer ≡ accept_in (grid_state t.regions) t.course.next_job c)
      (u : Tables) (k : Course) (grows : k ≡ record u.course { size = u.course.size + 1 }) (free : t.course.finished ≡ false) (few : t.course.size < 2 ^ 50) where
    abbrev e : Event
    e = Post caller c d a answer

    allowed : Allowed (world o h) (Post caller c d a answer)
    allowed = (limits, delay, within, may, accept_same answer told)

    full_kept : is_full (world o h).grid c ≡ true → Holds t u c → u.tickets.entries ≡ t.tickets.entries → Stands o (h ++ (record { by = by; event = Post caller c d a answer }) ∷ []) (record u { course = k })
    full_kept full held tickets =
        let m = held_posted (world o h) c d a in
        let one : k.size ≡ t.course.size + 1 = ap (λ (x : Course). x.size) grows ∙ ap (λ (x : Course). x.size + 1) held.course in
        stands_more o h (record { by = by; event = Post caller c d a answer }) t (record u { course = k }) s (sym s.fits.course.finished ∙ free) allowed
        (record {
          grid = grid_held o h t s c limits e allowed (λ r. refl) (λ r. refl) m u held;
          regions = regions_held o h t s c limits e allowed (λ r. refl) (λ r. refl) m u held;
          stored = record {
            flat = held_flat o h t s c limits e allowed (λ r. refl) (λ r. refl) m u.store held.things.flat;
            jobs = jobs_held o h t s c limits e allowed (λ r. refl) (λ r. refl) m u held ∙ fun_ext (λ n. ap (λ (js : ℕ → Option Job). at_rest (posted (world o h) c d a).grid (since o h) n (js n)) (sym (full_jobs (world o h) c d a full)));
            next = held_next o h t s c limits e allowed (λ r. refl) (λ r. refl) m (next_of u.store) held.next;
            bags = held_bags o h t s c limits e allowed (λ r. refl) (λ r. refl) m (bag_of u.store) (rw held.regions at held.bags);
          };
          tickets = λ q. ap (λ x. count_at x q) tickets ∙ s.fits.tickets q ∙ sym (ap (λ (x : ChunkPos → ℕ). x q) (tickets_posted (world o h) c d a));
          agenda = agenda_held o h t s c limits e allowed (λ r. refl) (λ r. refl) m u held;
          course = course_more (world o h) (posted (world o h) c d a) t.course u.course k (full_marks (world o h) c d a full) s.fits.course held.course grows;
        })
        (omega arith) (omega arith) (λ x. omega arith)

    room_kept : is_full (world o h).grid c ≡ false → Posts t u c d a → Stands o (h ++ (record { by = by; event = Post caller c d a answer }) ∷ []) (record u { course = k })
    room_kept room posts =
        let m = held_posted (world o h) c d a in
        let one : k.size ≡ t.course.size + 1 = ap (λ (x : Course). x.size) grows ∙ ap (λ (x : Course). x.size + 1) posts.course in
        let v : World = posted (world o h) c d a in
        let most : (r : ℕ) → since o h r ≤ (world o h).next_job = since_most o h in
        let bags : (r : ℕ) → IsBagOf (posted (world o h) c d a).grid (posted (world o h) c d a).tick (posted (world o h) c d a).owed (posted (world o h) c d a).recorded r (bag_of u.store r) =
        held_bags o h t s c limits e allowed (λ r. refl) (λ r. refl) m (bag_of u.store) (rw posts.regions at posts.bags) in
        stands_more o h (record { by = by; event = Post caller c d a answer }) t (record u { course = k }) s (sym s.fits.course.finished ∙ free) allowed
        (record {
          grid = posts.grid ∙ s.fits.grid ∙ sym (grid_after (world o h) e);
          regions = posts.regions ∙ ap (λ (g : GridState). add g c) s.fits.regions ∙ sym m.grid;
          stored = record {
            flat = held_flat o h t s c limits e allowed (λ r. refl) (λ r. refl) m u.store posts.flat;
            jobs = posts.jobs ∙ fun_ext (λ n. elim (cases_eq n (world o h).next_job) [
              | inl x ↦ let same : t.course.next_job ≡ n = s.fits.course.next_job ∙ sym x in
                  let z : at_id (jobs_of t.store) t.course.next_job (Some (queued c d a)) n ≡ Some (queued c d a) = rw same (at_here (jobs_of t.store) n (Some (queued c d a))) in
                  let y : (posted (world o h) c d a).jobs n ≡ Some (queued c d a) = ap (λ (js : ℕ → Option Job). js n) (room_jobs (world o h) c d a room) ∙ rw x (at_here (world o h).jobs (world o h).next_job (Some (queued c d a))) in
                  z ∙ sym (new_rests (posted (world o h) c d a).grid (since o h) n c d a (λ r. omega (arith, most r))) ∙ ap (at_rest (posted (world o h) c d a).grid (since o h) n) (sym y)
              | inr x ↦ let other : n ≢ t.course.next_job = λ y. x (y ∙ s.fits.course.next_job) in
                  let z = at_other (jobs_of t.store) t.course.next_job (Some (queued c d a)) n other in
                  let y : (posted (world o h) c d a).jobs n ≡ (world o h).jobs n = ap (λ (js : ℕ → Option Job). js n) (room_jobs (world o h) c d a room) ∙ at_other (world o h).jobs (world o h).next_job (Some (queued c d a)) n x in
                  z ∙ ap (λ (js : ℕ → Option Job). js n) s.fits.stored.jobs ∙ sym (held_rest o h t s c limits e allowed (λ r. refl) (λ r. refl) m n ((world o h).jobs n)) ∙ ap (at_rest (posted (world o h) c d a).grid (since o h) n) (sym y)
            ]);
            next = held_next o h t s c limits e allowed (λ r. refl) (λ r. refl) m (next_of u.store) posts.next;
            bags = bags;
          };
          tickets = λ q. ap (λ x. count_at x q) posts.tickets ∙ s.fits.tickets q ∙ sym (ap (λ (x : ChunkPos → ℕ). x q) (tickets_posted (world o h) c d a));
          agenda = let P : GridState → Type 0 = λ g. IsAgenda u.agenda.items g (bag_of u.store) in subst P (posts.regions ∙ ap (λ (g : GridState). add g c) s.fits.regions ∙ sym m.grid) (stack_kept o h t s c limits u posts.covers posts.top);
          course = room_course (world o h) c d a t.course u.course k room s.fits.course posts.course grows;
        })
        (omega arith) (omega arith) (λ x. omega arith)

    pub post_kept : PostsUnless (is_full (grid_state t.regions) c) t u c d a → Stands o (h ++ (record { by = by; event = Post caller c d a answer }) ∷ []) (record u { course = k })
    post_kept done = let done' : PostsUnless (is_full (world o h).grid c) t u c d a = rw s.fits.regions at done in elim (cases_Bool (is_full (world o h).grid c)) [
      | inl f ↦ let x : PostsUnless true t u c d a = rw f at done' in full_kept f x.0 x.1
      | inr f ↦ let x : PostsUnless false t u c d a = rw f at done' in room_kept f x
    ]
