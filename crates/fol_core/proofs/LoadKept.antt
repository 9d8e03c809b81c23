-- What the tables stand for after a load.
use Rattle.std.proofs.Common.{◌≡◌, ℕ, ◌+◌, ◌<◌, ◌^◌, refl, sym, ◌∙◌, ap, subst, arith, Bool, true, false, inl, inr, List, [], ◌∷◌, ◌++◌}
use Rattle.std.specs.Prelude.{Option}
use Rattle.std.proofs.Math.Path.{fun_ext}
use Rattle.std.proofs.lemmas.Bool.{cases_Bool}
use Rattle.fol_model.specs.declared.places.ChunkPos.{ChunkPos}
use Rattle.fol_model.specs.declared.openings.Opening.{Opening}
use Rattle.fol_model.specs.declared.events.Loaded.{Loaded}
use Rattle.fol_model.specs.declared.events.Event.{Event}
use Rattle.fol_model.specs.declared.events.Event.TheVariants.{Load}
use Rattle.fol_model.specs.declared.events.Entry.{Entry}
use Rattle.fol_model.specs.Geometry.{is_chunk, same_chunk}
use Rattle.fol_model.specs.GridState.{GridState}
use Rattle.fol_model.specs.Add.{add, is_full}
use Rattle.fol_model.specs.Holds.{loaded}
use Rattle.fol_model.specs.Job.{Job}
use Rattle.fol_model.specs.OpenTick.{is_begin, is_end}
use Rattle.fol_model.specs.World.{World}
use Rattle.fol_model.specs.Run.{Allowed, after, world}
use Rattle.fol_sections.specs.Places.{count_at}
use Rattle.fol_regions.specs.Table.{grid_state}
use Rattle.fol_store.specs.Stock.{bag_of, jobs_of, next_of}
use Rattle.fol_world.specs.declared.tables.Course.{Course}
use Rattle.fol_world.specs.declared.tables.Tables.{Tables}
use Rattle.fol_world.specs.Hands.{at_rest, since}
use Rattle.fol_world.specs.Agenda.{Covers, IsAgenda, TopOwes}
use Rattle.fol_world.specs.Follows.{Holds, load_answer_in, tickets_after}
use Rattle.fol_world.specs.Stands.{IsCourse, Stands}
use Rattle.fol_world.proofs.GridRuns.{grid_after}
use Rattle.fol_world.proofs.Held.{HeldMore, held_bags, held_flat, held_loaded, held_next, held_rest}
use Rattle.fol_world.proofs.Longer.{stands_more}

-- the marks of v are those of w
pub record SameMarks (w v : World) : Type 0 where
  pub next_job : v.next_job ≡ w.next_job
  pub in_phase : v.in_phase ≡ w.in_phase
  pub sum : v.sum ≡ w.sum
  pub stopped : v.stopped ≡ w.stopped
  pub finished : v.finished ≡ w.finished

-- one entry more leaves the course of a world with the same marks
pub course_more : (w v : World) (c d e : Course) → SameMarks w v → IsCourse c w → d ≡ c → e ≡ record d { size = d.size + 1 } → IsCourse e v
course_more w v c d e m is a b = record {
  next_job = ap (λ (x : Course). x.next_job) b ∙ ap (λ (x : Course). x.next_job) a ∙ is.next_job ∙ sym m.next_job;
  in_phase = ap (λ (x : Course). x.in_phase) b ∙ ap (λ (x : Course). x.in_phase) a ∙ is.in_phase ∙ sym m.in_phase;
  sum = ap (λ (x : Course). x.sum) b ∙ ap (λ (x : Course). x.sum) a ∙ is.sum ∙ sym m.sum;
  stopped = ap (λ (x : Course). x.stopped) b ∙ ap (λ (x : Course). x.stopped) a ∙ is.stopped ∙ sym m.stopped;
  finished = ap (λ (x : Course). x.finished) b ∙ ap (λ (x : Course). x.finished) a ∙ is.finished ∙ sym m.finished;
}

loaded_marks : (w : World) (c : ChunkPos) → SameMarks w (loaded w c)
unfolding loaded
loaded_marks w c = elim (cases_Bool (is_full w.grid c)) [
  | inl f ↦ rw f (record { next_job = refl; in_phase = refl; sum = refl; stopped = refl; finished = refl })
  | inr f ↦ rw f (record { next_job = refl; in_phase = refl; sum = refl; stopped = refl; finished = refl })
]

loaded_jobs : (w : World) (c : ChunkPos) → (loaded w c).jobs ≡ w.jobs
unfolding loaded
loaded_jobs w c = elim (cases_Bool (is_full w.grid c)) [ inl f ↦ rw f refl | inr f ↦ rw f refl ]

loaded_tickets : (w : World) (c q : ChunkPos) → (loaded w c).tickets q ≡ tickets_after (is_full w.grid c) w.tickets c q
unfolding loaded
loaded_tickets w c q = elim (cases_Bool (is_full w.grid c)) [ inl f ↦ rw f refl | inr f ↦ rw f refl ]

same_after : (full : Bool) (f h : ChunkPos → ℕ) → ((q : ChunkPos) → f q ≡ h q) → (c q : ChunkPos) → tickets_after full f c q ≡ tickets_after full h c q
same_after true f h e c q = e q
same_after false f h e c q = elim (cases_Bool (same_chunk c q)) [ inl s ↦ rw s (ap (λ n. n + 1) (e c)) | inr s ↦ rw s (e q) ]

module _ (o : Opening) (h : List Entry) (t : Tables) (s : Stands o h t) (c : ChunkPos) (limits : is_chunk c ≡ true) where
  abbrev w : World
  w = world o h

  -- the stack of tables whose top owes a tick if that of t does
  pub stack_kept : (u : Tables) → Covers u.agenda.items (grid_state u.regions) (bag_of u.store) → (TopOwes t.agenda.items (grid_state t.regions) (bag_of t.store) → TopOwes u.agenda.items (grid_state u.regions) (bag_of u.store))
      → IsAgenda u.agenda.items (grid_state u.regions) (bag_of u.store)
  stack_kept u covers top = record {
    covers = covers;
    top = let P : GridState → Type 0 = λ g. TopOwes t.agenda.items g (bag_of t.store) in top (subst P (sym s.fits.regions) s.fits.agenda.top);
  }

  -- regions, store and stack after an event that holds c once more
  module _ (e : Event) (ok : Allowed w e) (no_begin : (r : ℕ) → is_begin r e ≡ false) (no_end : (r : ℕ) → is_end r e ≡ false) (m : HeldMore w (after w e) c) (u : Tables) (held : Holds t u c) where
    pub grid_held : u.grid ≡ (after w e).grid.grid
    grid_held = held.grid ∙ s.fits.grid ∙ sym (grid_after w e)

    pub regions_held : grid_state u.regions ≡ (after w e).grid
    regions_held = held.regions ∙ ap (λ (g : GridState). add g c) s.fits.regions ∙ sym m.grid

    pub agenda_held : IsAgenda u.agenda.items (after w e).grid (bag_of u.store)
    agenda_held = let P : GridState → Type 0 = λ g. IsAgenda u.agenda.items g (bag_of u.store) in subst P regions_held (stack_kept u held.covers held.top)

    pub jobs_held : jobs_of u.store ≡ λ n. at_rest (after w e).grid (since o h) n (w.jobs n)
    jobs_held = held.things.jobs ∙ s.fits.stored.jobs ∙ sym (fun_ext (λ n. held_rest o h t s c limits e ok no_begin no_end m n (w.jobs n)))

  pub load_kept : (by caller : ℕ) (a : Loaded) (u : Tables) (d : Course) → Holds t u c → ((q : ChunkPos) → count_at u.tickets.entries q ≡ tickets_after (is_full (grid_state t.regions) c) (count_at t.tickets.entries) c q)
      → a ≡ load_answer_in (grid_state t.regions) c → d ≡ record u.course { size = u.course.size + 1 } → t.course.finished ≡ false → t.course.size < 2 ^ 50
      → Stands o (h ++ (record { by = by; event = Load caller c a }) ∷ []) (record u { course = d })
  load_kept by caller a u d held tickets answer grows free few =
      let ok : Allowed w (Load caller c a) = (limits, answer ∙ ap (λ g. load_answer_in g c) s.fits.regions) in
      let e : Event = Load caller c a in
      let m = held_loaded w c in
      let one : d.size ≡ t.course.size + 1 = ap (λ (x : Course). x.size) grows ∙ ap (λ (x : Course). x.size + 1) held.course in
      stands_more o h (record { by = by; event = e }) t (record u { course = d }) s (sym s.fits.course.finished ∙ free) ok
      (record {
        grid = grid_held e ok (λ r. refl) (λ r. refl) m u held;
        regions = regions_held e ok (λ r. refl) (λ r. refl) m u held;
        stored = record {
          flat = held_flat o h t s c limits e ok (λ r. refl) (λ r. refl) m u.store held.things.flat;
          jobs = jobs_held e ok (λ r. refl) (λ r. refl) m u held ∙ fun_ext (λ n. ap (λ (js : ℕ → Option Job). at_rest (loaded w c).grid (since o h) n (js n)) (sym (loaded_jobs w c)));
          next = held_next o h t s c limits e ok (λ r. refl) (λ r. refl) m (next_of u.store) held.next;
          bags = held_bags o h t s c limits e ok (λ r. refl) (λ r. refl) m (bag_of u.store) (rw held.regions at held.bags);
        };
        tickets = λ q. tickets q ∙ same_after (is_full (grid_state t.regions) c) (count_at t.tickets.entries) w.tickets s.fits.tickets c q
            ∙ ap (λ g. tickets_after (is_full g c) w.tickets c q) s.fits.regions ∙ sym (loaded_tickets w c q);
        agenda = agenda_held e ok (λ r. refl) (λ r. refl) m u held;
        course = course_more w (loaded w c) t.course u.course d (loaded_marks w c) s.fits.course held.course grows;
      })
      (omega arith) (omega arith) (λ x. omega arith)
