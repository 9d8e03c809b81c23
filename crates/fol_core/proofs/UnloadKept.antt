-- What the tables stand for after an unload.
use Rattle.std.proofs.Common.{◌≡◌, ◌≢◌, ℕ, ◌+◌, ◌-◌, ◌≤◌, ◌<◌, ◌^◌, refl, sym, ◌∙◌, ap, subst, arith, true, false, inl, inr, ◌&&◌, List, [], ◌∷◌, ◌++◌}
use Rattle.std.specs.Prelude.{nat_eq, nat_lt, Option, Some, None, if◌then◌else◌}
use Rattle.std.proofs.Math.Path.{fun_ext}
use Rattle.std.proofs.lemmas.Bool.{cases_Bool, and_right, eqb-true, ne_eqb}
use Rattle.fol_model.specs.declared.places.ChunkPos.{ChunkPos}
use Rattle.fol_model.specs.declared.regions.State.TheVariants.{Dead}
use Rattle.fol_model.specs.declared.openings.Opening.{Opening}
use Rattle.fol_model.specs.declared.events.Unloaded.{Unloaded}
use Rattle.fol_model.specs.declared.events.Unloaded.TheVariants.{NoTicket, Lowered}
use Rattle.fol_model.specs.declared.events.Event.TheVariants.{Unload}
use Rattle.fol_model.specs.declared.events.Entry.{Entry}
use Rattle.fol_model.specs.Geometry.{is_chunk, same_chunk, section_of}
use Rattle.fol_model.specs.Universe.{all_chunks}
use Rattle.fol_model.specs.GridState.{GridState}
use Rattle.fol_model.specs.Drop.{drop_hold}
use Rattle.fol_model.specs.Holds.{unloaded}
use Rattle.fol_model.specs.Job.{Job, is_on}
use Rattle.fol_model.specs.ActionStep.{Recorded}
use Rattle.fol_model.specs.Outputs.{is_chunk_of}
use Rattle.fol_model.specs.World.{World}
use Rattle.fol_model.specs.Run.{Allowed, world, unload_answer}
use Rattle.fol_laws.proofs.SamePlaces.{same_chunk-true}
use Rattle.fol_chunks.specs.Contents.{outside}
use Rattle.fol_sections.specs.Places.{count_at}
use Rattle.fol_regions.specs.Table.{grid_state}
use Rattle.fol_store.specs.Bag.{Bag}
use Rattle.fol_store.specs.Stock.{bag_of, jobs_of}
use Rattle.fol_world.specs.declared.tables.Course.{Course}
use Rattle.fol_world.specs.declared.tables.Tables.{Tables}
use Rattle.fol_world.specs.Hands.{at_rest, in_hands, since, ticker, went}
use Rattle.fol_world.specs.Bags.{AreBut, IsBagOf, unsettled_at}
use Rattle.fol_world.specs.Agenda.{IsAgenda}
use Rattle.fol_world.specs.Follows.{CanDrop, CanLose, Settle, Drops, IsKnown, losing}
use Rattle.fol_core.specs.Answers.{unload_result}
use Rattle.fol_world.specs.Stands.{Fits, IsCourse, Stands}
use Rattle.fol_world.proofs.Added.{off_owed}
use Rattle.fol_world.proofs.AddBags.{same_filter}
use Rattle.fol_core.proofs.LoadKept.{SameMarks, course_more}
use Rattle.fol_world.proofs.Longer.{good_of, stands_more}
use Rattle.fol_world.proofs.Unheld.{none_on, none_rests}
use Rattle.fol_world.proofs.Loosened.{stays_loaded}
use Rattle.fol_world.proofs.UnsettledBags.{IsBagBut, bag_but, known_bag, unsettled_bag}
use Rattle.fol_world.proofs.GatheredBags.{gathered_agenda, gathered_bag}
use Rattle.fol_world.proofs.SettledBags.{narrows}

-- only the chunk's own region may have a chunk less
dropped_chunks : (g : GridState) (c : ChunkPos) (r : ℕ) → g.owner (section_of g.grid c) ≢ r → (q : ChunkPos) → is_chunk_of (drop_hold g c) r q ≡ is_chunk_of g r q
unfolding drop_hold
dropped_chunks g c r away q = elim (cases_Bool (same_chunk c q)) [
  | inl s ↦ let e : c ≡ q = same_chunk-true c q s in
      let n : nat_eq (g.owner (section_of g.grid q)) r ≡ false = ne_eqb _ r (rw e at away) in
      rw (s, n) (and_right (nat_lt 0 (g.holds c - 1)) false refl ∙ sym (and_right (nat_lt 0 (g.holds q)) false refl))
  | inr s ↦ rw s refl
]

-- no region has a chunk less unless c had one hold
kept_chunks : (g : GridState) (c : ChunkPos) (r : ℕ) → nat_eq (g.holds c) 1 ≡ false → (q : ChunkPos) → is_chunk_of (drop_hold g c) r q ≡ is_chunk_of g r q
unfolding drop_hold
kept_chunks g c r one q = ap (λ b. b && nat_eq (g.owner (section_of g.grid q)) r) (stays_loaded g c 1 one refl q)

drop_bag : (g : GridState) (c : ChunkPos) (tick owed : ℕ → ℕ) (recorded : ℕ → Recorded) (r : ℕ) (b : Bag) → IsBagOf g tick owed recorded r b → IsBagBut (drop_hold g c) tick owed recorded (losing (section_of g.grid c) g c) r b
unfolding drop_hold losing
drop_bag g c tick owed recorded r b is = record {
  here = is.here;
  taken = is.taken;
  counter = is.counter;
  owes = is.owes;
  listed = λ d away w. subst (AreBut b.since b.chunks) (sym (same_filter (is_chunk_of (drop_hold g c) r) (is_chunk_of g r) all_chunks (chunks away))) (is.listed d w);
  since = is.since;
  out = is.out;
}
  where
    chunks : losing (section_of g.grid c) g c ≢ r → (q : ChunkPos) → is_chunk_of (drop_hold g c) r q ≡ is_chunk_of g r q
    chunks away = elim (cases_Bool (nat_eq (g.holds c) 1)) [
      | inl e ↦ dropped_chunks g c r (rw e at away)
      | inr e ↦ kept_chunks g c r e
    ]

drop_hands : (g : GridState) (c : ChunkPos) (recorded : ℕ → Recorded) → in_hands (drop_hold g c) recorded ≡ in_hands g recorded
unfolding drop_hold in_hands ticker
drop_hands g c recorded = refl

drop_went : (g : GridState) (c : ChunkPos) (since : ℕ → ℕ) (q : ChunkPos) (n : ℕ) → went (drop_hold g c) since q n ≡ went g since q n
unfolding drop_hold went ticker
drop_went g c since q n = refl

drop_rest : (g : GridState) (c : ChunkPos) (since : ℕ → ℕ) (n : ℕ) (o : Option Job) → at_rest (drop_hold g c) since n o ≡ at_rest g since n o
drop_rest g c since n None = refl
drop_rest g c since n (Some j) = let e = drop_went g c since j.chunk n in rw e refl

drop_live : (g : GridState) (c : ChunkPos) → ((r : ℕ) → g.state r ≢ Dead → 0 < r) → (r : ℕ) → (drop_hold g c).state r ≢ Dead → 0 < r
unfolding drop_hold
drop_live g c h = h

drop_next : (g : GridState) (c : ChunkPos) → g.next ≡ (drop_hold g c).next
unfolding drop_hold
drop_next g c = refl

drop_grid : (g : GridState) (c : ChunkPos) → g.grid ≡ (drop_hold g c).grid
unfolding drop_hold
drop_grid g c = refl

drop_agenda : (xs : List ℕ) (g : GridState) (c : ChunkPos) (f h : ℕ → Bag) → ((r : ℕ) → (h r).owed ≡ (f r).owed) → IsAgenda xs g f → IsAgenda xs (drop_hold g c) h
unfolding drop_hold
drop_agenda xs g c f h e a = record {
  covers = λ r o. let x = e r in a.covers r (rw x at o);
  top = λ ys r s. let x = e r in rw x (a.top ys r s);
}

unload_marks : (w : World) (c : ChunkPos) → SameMarks w (unloaded w c)
unfolding unloaded
unload_marks w c = elim (cases_Bool (nat_eq (w.tickets c) 0)) [
  | inl f ↦ rw f (record { next_job = refl; in_phase = refl; sum = refl; stopped = refl; finished = refl })
  | inr f ↦ rw f (record { next_job = refl; in_phase = refl; sum = refl; stopped = refl; finished = refl })
]

module _ (w : World) (f : ℕ → ℕ) (t u : Tables) (c : ChunkPos) (d : Course) (fits : Fits t w f) (given : (r : ℕ) → w.grid.state r ≢ Dead → 0 < r) (more : IsCourse d (unloaded w c)) where
  none_fits : nat_eq (w.tickets c) 0 ≡ true → Drops t u c true → Fits (record u { course = d }) (unloaded w c) f
  unfolding unloaded
  none_fits e drops =
      let course = more in
      let settled : Settle w.grid (bag_of t.store) (bag_of u.store) = rw (drops.regions, fits.regions) at drops.bags in
      rw e (record {
        grid = drops.grid ∙ fits.grid;
        regions = drops.regions ∙ fits.regions;
        stored = record {
          flat = drops.things.flat ∙ fits.stored.flat;
          jobs = drops.things.jobs ∙ fits.stored.jobs;
          next = drops.next ∙ fits.stored.next;
          bags = λ r. gathered_bag w.grid w.tick w.owed w.recorded r (bag_of t.store r) (bag_of u.store r) (fits.stored.bags r) (settled r);
        };
        tickets = λ q. drops.tickets q ∙ elim (cases_Bool (same_chunk c q)) [
          | inl s ↦ let same : c ≡ q = same_chunk-true c q s in
              let zero : w.tickets c ≡ 0 = eqb-true (w.tickets c) 0 e in
              let left : count_at t.tickets.entries c - 1 ≡ w.tickets c = omega (arith, fits.tickets c) in
              rw s (left ∙ ap w.tickets same)
          | inr s ↦ rw s (fits.tickets q)
        ];
        agenda = gathered_agenda u.agenda.items w.grid (bag_of t.store) (bag_of u.store) (λ r. (settled r).owes)
            (let Q : List ℕ → Type 0 = λ xs. IsAgenda xs w.grid (bag_of t.store) in subst Q (sym drops.agenda) fits.agenda);
        course = rw e at course;
      })

  some_fits : nat_eq (w.tickets c) 0 ≡ false → Drops t u c false → Fits (record u { course = d }) (unloaded w c) f
  unfolding unloaded
  some_fits e drops =
      let course = more in
      let hands = drop_hands w.grid c w.recorded in
      let rest = drop_rest w.grid c f in
      let off : ℕ → Bag = unsettled_at (losing (section_of w.grid.grid c) w.grid c) (bag_of t.store) in
      let settled : Settle (drop_hold w.grid c) off (bag_of u.store) = rw (drops.regions, fits.regions, fits.grid) at drops.bags in
      let all = unsettled_bag (drop_hold w.grid c) w.tick w.owed w.recorded (losing (section_of w.grid.grid c) w.grid c) (bag_of t.store) (drop_live w.grid c given)
      (λ r. drop_bag w.grid c w.tick w.owed w.recorded r (bag_of t.store r) (fits.stored.bags r)) in
      let next : w.grid.next ≡ (drop_hold w.grid c).next = drop_next w.grid c in
      let numbers : w.grid.grid ≡ (drop_hold w.grid c).grid = drop_grid w.grid c in
      let stack = drop_agenda t.agenda.items w.grid c (bag_of t.store) (unsettled_at (losing (section_of w.grid.grid c) w.grid c) (bag_of t.store))
      (off_owed (losing (section_of w.grid.grid c) w.grid c) (bag_of t.store)) fits.agenda in
      rw e (record {
        grid = drops.grid ∙ fits.grid ∙ numbers;
        regions = drops.regions ∙ ap (λ (g : GridState). drop_hold g c) fits.regions;
        stored = record {
          flat = drops.things.flat ∙ fits.stored.flat ∙ ap (λ (x : Recorded). outside x w.flat) (sym hands);
          jobs = drops.things.jobs ∙ fits.stored.jobs ∙ sym (fun_ext (λ n. rest n (w.jobs n)));
          next = drops.next ∙ fits.stored.next ∙ next;
          bags = λ r. gathered_bag (drop_hold w.grid c) w.tick w.owed w.recorded r (off r) (bag_of u.store r) (all r) (settled r);
        };
        tickets = λ q. drops.tickets q ∙ elim (cases_Bool (same_chunk c q)) [
          | inl s ↦ rw s (ap (λ n. n - 1) (fits.tickets c))
          | inr s ↦ rw s (fits.tickets q)
        ];
        agenda = gathered_agenda u.agenda.items (drop_hold w.grid c) off (bag_of u.store) (λ r. (settled r).owes)
            (let Q : List ℕ → Type 0 = λ xs. IsAgenda xs (drop_hold w.grid c) (unsettled_at (losing (section_of w.grid.grid c) w.grid c) (bag_of t.store)) in subst Q (sym drops.agenda) stack);
        course = rw e at course;
      })

module _ (o : Opening) (h : List Entry) (t : Tables) (s : Stands o h t) (c : ChunkPos) where
  -- the region of the chunk has its bag here or with a worker
  pub owner_known : IsKnown (bag_of t.store) ((grid_state t.regions).owner (section_of t.grid c))
  owner_known = rw (s.fits.regions, s.fits.grid) (λ p. let rules = (good_of o h t s).sound.rules in
      known_bag (world o h).grid (world o h).tick (world o h).owed (world o h).recorded 0 ((world o h).grid.owner (section_of (world o h).grid.grid c)) (bag_of t.store)
      (bag_but (world o h).grid (world o h).tick (world o h).owed (world o h).recorded 0 ((world o h).grid.owner (section_of (world o h).grid.grid c)) _ (s.fits.stored.bags ((world o h).grid.owner (section_of (world o h).grid.grid c))))
      (rules.owner_lives (section_of (world o h).grid.grid c) p))

  -- and where that bag is listed, it is for the region's chunks
  pub owner_loses : CanLose (grid_state t.regions) c ((grid_state t.regions).owner (section_of t.grid c)) (bag_of t.store)
  owner_loses = rw (s.fits.regions, s.fits.grid) (λ p one.
      let r : ℕ = (world o h).grid.owner (section_of (world o h).grid.grid c) in
      narrows (world o h).grid c r (bag_of t.store r) one ((s.fits.stored.bags r).listed ((good_of o h t s).sound.rules.owner_lives (section_of (world o h).grid.grid c) p)))

  -- where it has a ticket, and no other hold, no task is on it
  pub owner_drops : CanDrop (grid_state t.regions) (count_at t.tickets.entries) (jobs_of t.store) c
  owner_drops some one n =
      let w : World = world o h in
      let held : w.grid.holds c ≡ 1 = ap (λ (g : GridState). g.holds c) (sym s.fits.regions) ∙ eqb-true _ 1 one in
      let few : w.grid.holds c ≤ w.tickets c = omega (arith, held, some, s.fits.tickets c) in
      ap (λ (f : ℕ → Option Job). is_on c (f n)) s.fits.stored.jobs ∙ none_rests w.grid (since o h) n c (w.jobs n) (none_on w.grid w.tickets w.jobs w.next_job (good_of o h t s).sound c few n)

  pub no_ticket : nat_eq (count_at t.tickets.entries c) 0 ≡ nat_eq ((world o h).tickets c) 0
  no_ticket = ap (λ n. nat_eq n 0) (s.fits.tickets c)

  pub unload_kept : (by caller : ℕ) (a : Unloaded) (u : Tables) (d : Course) → is_chunk c ≡ true → Drops t u c (nat_eq (count_at t.tickets.entries c) 0)
      → a ≡ (if nat_eq (count_at t.tickets.entries c) 0 then NoTicket else Lowered) → d ≡ record u.course { size = u.course.size + 1 } → t.course.finished ≡ false → t.course.size < 2 ^ 50
      → Stands o (h ++ (record { by = by; event = Unload caller c a }) ∷ []) (record u { course = d })
  unload_kept by caller a u d limits drops answer grows free few =
      let w : World = world o h in
      let ok : Allowed (world o h) (Unload caller c a) = (limits, answer ∙ ap (λ b. if b then NoTicket else Lowered) no_ticket) in
      let drops' : Drops t u c (nat_eq ((world o h).tickets c) 0) = rw no_ticket at drops in
      let one : d.size ≡ t.course.size + 1 = ap (λ (x : Course). x.size) grows ∙ ap (λ (x : Course). x.size + 1) drops.course in
      let given = (good_of o h t s).sound.rules.given in
      let more = course_more (world o h) (unloaded (world o h) c) t.course u.course d (unload_marks (world o h) c) s.fits.course drops.course grows in
      stands_more o h (record { by = by; event = Unload caller c a }) t (record u { course = d }) s (sym s.fits.course.finished ∙ free) ok
      (elim (cases_Bool (nat_eq ((world o h).tickets c) 0)) [
        | inl e ↦ none_fits (world o h) (since o h) t u c d s.fits given more e (rw e at drops')
        | inr e ↦ some_fits (world o h) (since o h) t u c d s.fits given more e (rw e at drops')
      ])
      (omega arith) (omega arith) (λ x. omega arith)

  pub unload_told : (a : Unloaded) → a ≡ (if nat_eq (count_at t.tickets.entries c) 0 then NoTicket else Lowered) → a ≡ unload_answer (world o h) c
  unload_told a e = e ∙ ap (λ b. if b then NoTicket else Lowered) no_ticket

  pub unload_answers : (a : Unloaded) → t.course.finished ≡ false → a ≡ (if nat_eq (count_at t.tickets.entries c) 0 then NoTicket else Lowered) → a ≡ unload_result (world o h) c
  unload_answers a free e = let f : (world o h).finished ≡ false = sym s.fits.course.finished ∙ free in rw f (unload_told a e)
