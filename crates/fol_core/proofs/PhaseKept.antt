-- The tables after a phase opens or closes.
use Rattle.std.proofs.Common.{◌≡◌, ◌≢◌, ℕ, ◌+◌, ◌≤◌, ◌<◌, ◌^◌, refl, sym, ◌∙◌, ap, subst, arith, true, false, inl, inr, List, [], ◌∷◌, ◌++◌, ◌||◌, ◌&&◌, not}
use Rattle.std.specs.Prelude.{nat_eq, nat_lt, if◌then◌else◌, Some, None}
use Rattle.std.specs.Global.{Vec}
use Rattle.std.specs.List.{AllByRecursion, find, list_any}
use Rattle.std.proofs.Math.Path.{fun_ext}
use Rattle.std.proofs.lemmas.Bool.{cases_Bool, and_parts, eq-eqb, eqb-true, lt-ltb, ltb-false, or_left, or_parts, or_right, true≢false}
use Rattle.std.proofs.lemmas.List.Folds.{list_any-append}
use Rattle.fol_model.specs.declared.openings.Opening.{Opening}
use Rattle.fol_model.specs.declared.events.Entry.{Entry}
use Rattle.fol_model.specs.declared.events.Event.TheVariants.{PhaseOpen, PhaseClose}
use Rattle.fol_model.specs.declared.regions.State.{State}
use Rattle.fol_model.specs.declared.regions.State.TheVariants.{Transient, Ready, Ticking, Dead}
use Rattle.fol_model.specs.Counting.{some_below, least}
use Rattle.fol_model.specs.GridState.{GridState, is_dead, is_ready, is_ticking}
use Rattle.fol_model.specs.ActionStep.{Recorded, at_id}
use Rattle.fol_model.specs.Rules.{Rules}
use Rattle.fol_model.specs.Run.{world}
use Rattle.fol_laws.proofs.Consequences.{none_waits}
use Rattle.fol_laws.proofs.WholeRuns.{Good}
use Rattle.fol_regions.specs.Table.{grid_state}
use Rattle.fol_store.specs.Bag.{Bag}
use Rattle.fol_store.specs.Stock.{Stock, bag_of, next_of}
use Rattle.fol_world.specs.declared.tables.Course.{Course}
use Rattle.fol_world.specs.declared.tables.Tables.{Tables}
use Rattle.fol_world.specs.Hands.{rests}
use Rattle.fol_world.specs.Bags.{IsBagOf, owing_bags}
use Rattle.fol_world.specs.Agenda.{HaveBags, IsAgenda, is_busy_in}
use Rattle.fol_core.specs.declared.answers.Close.TheVariants.{Closed, NotYet}
use Rattle.fol_core.specs.Answers.{close_result, is_busy, is_owing}
use Rattle.fol_world.specs.Same.{SameThings}
use Rattle.fol_world.specs.Stands.{Stands}
use Rattle.fol_world.proofs.CalmRuns.{calm_run}
use Rattle.fol_world.specs.Closings.{live_in}
use Rattle.fol_world.proofs.CalmStore.{dead_not, in_live}
use Rattle.fol_world.proofs.KeyedRows.{none_passes, passing}
use Rattle.fol_world.proofs.LeastFound.{first_below, first_found, first_none, first_some, holds_of}
use Rattle.fol_world.proofs.Longer.{good_of, stands_more}
use Rattle.fol_world.proofs.UnsettledBags.{have_bags, ready_rests}

-- ---- the bags of regions that all owe n
owing_there : (n : ℕ) (xs : List ℕ) (f : ℕ → Bag) (r : ℕ) → owing_bags n xs f r ≡ (if list_any (nat_eq r) xs then record (f r) { owed = n } else f r)
owing_there n [] f r = refl
owing_there n (x ∷ xs) f r = owing_there n xs (at_id f x (record (f x) { owed = n })) r ∙ elim (cases_Bool (nat_eq x r)) [
  | inl e ↦ let s : x ≡ r = eqb-true x r e in let t : nat_eq r x ≡ true = eq-eqb r x (sym s) in
      elim (cases_Bool (list_any (nat_eq r) xs)) [ inl k ↦ rw (t, e, k, s) refl | inr k ↦ rw (t, e, k, s) refl ]
  | inr e ↦ let t : nat_eq r x ≡ false = turned x r e in
      elim (cases_Bool (list_any (nat_eq r) xs)) [ inl k ↦ rw (t, e, k) refl | inr k ↦ rw (t, e, k) refl ]
]
  where
    turned : (x r : ℕ) → nat_eq x r ≡ false → nat_eq r x ≡ false
    turned x r e = elim (cases_Bool (nat_eq r x)) [ inl k ↦ absurd (true≢false (sym (eq-eqb x r (sym (eqb-true r x k))) ∙ e)) | inr k ↦ k ]

module _ (g : GridState) (tick owed : ℕ → ℕ) (recorded : ℕ → Recorded) (n : ℕ) (f : ℕ → Bag) (is : (r : ℕ) → IsBagOf g tick owed recorded r (f r)) where
  owing_bag : (r : ℕ) (xs : List ℕ) → (rests g r ≡ true → list_any (nat_eq r) xs ≡ true) → IsBagOf g tick (λ r. n) recorded r (owing_bags n xs f r)
  owing_bag r xs there = let b = is r in elim (cases_Bool (list_any (nat_eq r) xs)) [
    | inl e ↦ let s : owing_bags n xs f r ≡ record (f r) { owed = n } = owing_there n xs f r ∙ (rw e refl) in
        let P : Bag → Type 0 = λ x. IsBagOf g tick (λ r. n) recorded r x in subst P (sym s) (record { here = b.here; taken = b.taken; counter = b.counter; owes = λ h. refl; listed = b.listed; since = b.since; out = b.out })
    | inr e ↦ let s : owing_bags n xs f r ≡ f r = owing_there n xs f r ∙ (rw e refl) in
        let P : Bag → Type 0 = λ x. IsBagOf g tick (λ r. n) recorded r x in
        subst P (sym s) (record { here = b.here; taken = b.taken; counter = b.counter; owes = λ h. absurd (true≢false (sym (there h) ∙ e)); listed = b.listed; since = b.since; out = b.out })
  ]

-- ---- a world in which no region ticks
ready_or : (s : State) → s ≢ Dead → s ≢ Ticking → s ≢ Transient → is_ready s ≡ true
ready_or Transient d t w = absurd (w refl)
ready_or Ready d t w = refl
ready_or Ticking d t w = absurd (t refl)
ready_or Dead d t w = absurd (d refl)

rest_lives : (s : State) → (not (is_dead s) && not (is_ticking s)) ≡ true → s ≢ Dead
rest_lives s h = dead_not s (and_parts (not (is_dead s)) (not (is_ticking s)) h).0

ready_lives : (s : State) → is_ready s ≡ true → s ≢ Dead
ready_lives s h e = let k : false ≡ true = rw e at h in absurd (cc)

module _ (g : GridState) (rules : Rules g) (calm : (r : ℕ) → g.state r ≢ Ticking) where
  all_ready : (r : ℕ) → g.state r ≢ Dead → is_ready (g.state r) ≡ true
  all_ready r d = ready_or (g.state r) d (calm r) (none_waits g rules calm r)

  live_ready : AllByRecursion (λ r. is_ready (g.state r) ≡ true) (live_in g)
  live_ready = passing (λ r. not (is_dead (g.state r))) (λ r. is_ready (g.state r) ≡ true) (λ r h. all_ready r (dead_not (g.state r) h)) _

  -- all of them owe, and one is on top
  all_owe : (n : ℕ) (f : ℕ → Bag) → 1 ≤ n → ((r : ℕ) → list_any (nat_eq r) (live_in g) ≡ true → (f r).owed ≡ n) → IsAgenda (live_in g) g f
  all_owe n f some owed = record {
    covers = λ r h. in_live g r rules (ready_lives (g.state r) (and_parts (is_ready (g.state r)) (nat_lt 0 (f r).owed) h).0);
    top = λ ys r e.
        let m : list_any (nat_eq r) (live_in g) ≡ true = ap (list_any (nat_eq r)) e ∙ list_any-append (nat_eq r) ys (r ∷ []) ∙ or_right (list_any (nat_eq r) ys) _ (or_left (nat_eq r r) false (eq-eqb r r refl)) in
        let a : is_ready (g.state r) ≡ true = holds_of (λ r. is_ready (g.state r) ≡ true) r (live_in g) live_ready m in
        let o : (f r).owed ≡ n = owed r m in
        let l : nat_lt 0 n ≡ true = lt-ltb _ _ (omega arith) in
        rw (a, o, l) refl;
  }

module _ (o : Opening) (h : List Entry) (t : Tables) (s : Stands o h t) where
  good : Good o (world o h)
  good = good_of o h t s

  -- each region that is not Dead has its bag, where no phase is open
  pub all_here : t.course.in_phase ≡ false → (live : List ℕ) → live ≡ live_in (grid_state t.regions) → AllByRecursion (λ r. (bag_of t.store r).here ≡ true) live
  all_here p live l = rw (l, s.fits.regions) (passing (λ r. not (is_dead ((world o h).grid.state r))) (λ r. (bag_of t.store r).here ≡ true)
      (λ r d. (s.fits.stored.bags r).here ∙ ready_rests ((world o h).grid.state r) (all_ready (world o h).grid good.sound.rules
      (calm_run o h s.grid s.run (sym s.fits.course.in_phase ∙ p)) r (dead_not ((world o h).grid.state r) d))) _)

  pub opened_kept : (t.course.finished || t.course.stopped) ≡ false → t.course.in_phase ≡ false → (by n : ℕ) → 1 ≤ n → (world o h).sum + n ≤ 10000 → t.course.size < 2 ^ 50
      → (live : Vec ℕ) → live.items ≡ live_in (grid_state t.regions)
      → (k : Stock) → bag_of k ≡ owing_bags n live.items (bag_of t.store) → SameThings t.store k → next_of k ≡ next_of t.store
      → (c : Course) → c ≡ record t.course { size = t.course.size + 1 }
      → Stands o (h ++ (record { by = by; event = PhaseOpen n }) ∷ []) (record t { store = k; agenda = live; course = record c { in_phase = true; sum = c.sum + n } })
  opened_kept on p by n some within small live l k bags things next c e =
      let parts = or_parts t.course.finished t.course.stopped on in
      let size : c.size ≡ t.course.size + 1 = ap (λ (x : Course). x.size) e in
      let calm : (r : ℕ) → (world o h).grid.state r ≢ Ticking = calm_run o h s.grid s.run (sym s.fits.course.in_phase ∙ p) in
      let all : live.items ≡ live_in (world o h).grid = rw s.fits.regions at l in
      let same : bag_of k ≡ owing_bags n (live_in (world o h).grid) (bag_of t.store) = rw all at bags in
      stands_more o h (record { by = by; event = PhaseOpen n }) t (record t { store = k; agenda = live; course = record c { in_phase = true; sum = c.sum + n } }) s (sym s.fits.course.finished ∙ parts.0)
      (sym s.fits.course.in_phase ∙ p, sym s.fits.course.stopped ∙ parts.1, some, within)
      (record {
        grid = s.fits.grid;
        regions = s.fits.regions;
        stored = record {
          flat = things.flat ∙ s.fits.stored.flat;
          jobs = things.jobs ∙ s.fits.stored.jobs;
          next = next ∙ s.fits.stored.next;
          bags = λ r. let P : (ℕ → Bag) → Type 0 = λ f. IsBagOf (world o h).grid (world o h).tick (λ r. n) (world o h).recorded r (f r) in
              subst P (sym same) (owing_bag (world o h).grid (world o h).tick (world o h).owed (world o h).recorded n (bag_of t.store) s.fits.stored.bags r (live_in (world o h).grid)
              (λ q. in_live (world o h).grid r good.sound.rules (rest_lives ((world o h).grid.state r) q)));
        };
        tickets = s.fits.tickets;
        agenda = let P : List ℕ → Type 0 = λ xs. IsAgenda xs (world o h).grid (bag_of k) in subst P (sym all) (all_owe (world o h).grid good.sound.rules calm n (bag_of k) some
            (λ r m. ap (λ (f : ℕ → Bag). (f r).owed) same ∙ ap (λ (b : Bag). b.owed) (owing_there n (live_in (world o h).grid) (bag_of t.store) r) ∙ (rw m refl)));
        course = record {
          next_job = ap (λ (x : Course). x.next_job) e ∙ s.fits.course.next_job;
          in_phase = refl;
          sum = ap (λ (x : Course). x.sum + n) e ∙ ap (λ m. m + n) s.fits.course.sum;
          stopped = ap (λ (x : Course). x.stopped) e ∙ s.fits.course.stopped;
          finished = ap (λ (x : Course). x.finished) e ∙ s.fits.course.finished;
        };
      })
      (omega arith) (omega arith) (λ x. omega arith)

  -- ---- the regions for which a phase can't be closed
  busy_same : (r : ℕ) → is_busy_in (grid_state t.regions) (bag_of t.store) r ≡ is_busy (world o h) r
  busy_same r = rw s.fits.regions (elim (cases_Bool (is_ready ((world o h).grid.state r))) [
    | inl e ↦ let k = (s.fits.stored.bags r).owes (ready_rests ((world o h).grid.state r) e) in rw (e, k) refl
    | inr e ↦ rw e refl
  ])

  busy_lives : (r : ℕ) → is_busy (world o h) r ≡ true → not (is_dead ((world o h).grid.state r)) ≡ true
  busy_lives r e = at ((world o h).grid.state r) e
    where
      at : (s : State) → (is_ticking s || (is_ready s && nat_lt 0 ((world o h).owed r))) ≡ true → not (is_dead s) ≡ true
      at Transient e = refl
      at Ready e = refl
      at Ticking e = refl
      at Dead e = absurd (true≢false (sym e))

  module _ (live : List ℕ) (l : live ≡ live_in (grid_state t.regions)) where
    busy_found : find (is_busy_in (grid_state t.regions) (bag_of t.store)) live ≡ first_below (is_busy (world o h)) (world o h).grid.next
    busy_found = ap (λ p. find p live) (fun_ext busy_same) ∙ ap (find (is_busy (world o h))) (l ∙ ap live_in s.fits.regions)
        ∙ first_found (is_busy (world o h)) (λ r. not (is_dead ((world o h).grid.state r))) busy_lives (world o h).grid.next

    busy_some : (r : ℕ) → find (is_busy_in (grid_state t.regions) (bag_of t.store)) live ≡ Some r → (some_below (is_busy (world o h)) (world o h).grid.next ≡ true) × (r ≡ least (is_busy (world o h)) (world o h).grid.next)
    busy_some r e = first_some (is_busy (world o h)) (world o h).grid.next r (sym busy_found ∙ e)

    busy_none : find (is_busy_in (grid_state t.regions) (bag_of t.store)) live ≡ None → some_below (is_busy (world o h)) (world o h).grid.next ≡ false
    busy_none e = first_none (is_busy (world o h)) (world o h).grid.next (sym busy_found ∙ e)

    pub none_busy : find (is_busy_in (grid_state t.regions) (bag_of t.store)) live ≡ None → (r : ℕ) → (world o h).grid.state r ≢ Dead → is_busy (world o h) r ≡ false
    none_busy e r d =
        let f : AllByRecursion (λ r. is_busy (world o h) r ≡ false) (live_in (world o h).grid) = none_passes (is_busy (world o h)) (live_in (world o h).grid)
        (ap (find (is_busy (world o h))) (sym (l ∙ ap live_in s.fits.regions)) ∙ ap (λ p. find p live) (sym (fun_ext busy_same)) ∙ e) in
        holds_of (λ r. is_busy (world o h) r ≡ false) r (live_in (world o h).grid) f (in_live (world o h).grid r good.sound.rules d)

    going : (t.course.finished || t.course.stopped) ≡ false → ((world o h).finished || (world o h).stopped) ≡ false
    going on = rw (s.fits.course.finished, s.fits.course.stopped) at on

    pub not_yet : (t.course.finished || t.course.stopped) ≡ false → t.course.in_phase ≡ true → (r : ℕ) → find (is_busy_in (grid_state t.regions) (bag_of t.store)) live ≡ Some r → NotYet r ≡ close_result (world o h)
    not_yet on p r e = let a = going on in let q : (world o h).in_phase ≡ true = sym s.fits.course.in_phase ∙ p in let b = busy_some r e in rw (a, q, b.0) (ap (λ n. NotYet n) b.1)

    pub all_done : (t.course.finished || t.course.stopped) ≡ false → t.course.in_phase ≡ true → find (is_busy_in (grid_state t.regions) (bag_of t.store)) live ≡ None → Closed ≡ close_result (world o h)
    all_done on p e = let a = going on in let q : (world o h).in_phase ≡ true = sym s.fits.course.in_phase ∙ p in let b = busy_none e in rw (a, q, b) refl

    pub closed_kept : (t.course.finished || t.course.stopped) ≡ false → t.course.in_phase ≡ true → find (is_busy_in (grid_state t.regions) (bag_of t.store)) live ≡ None → (by : ℕ)
        → (c : Course) → c ≡ record t.course { size = t.course.size + 1 } → t.course.size < 2 ^ 50
        → Stands o (h ++ (record { by = by; event = PhaseClose }) ∷ []) (record t { course = record c { in_phase = false } })
    closed_kept on p none by c e small =
        let parts = or_parts t.course.finished t.course.stopped on in
        let size : c.size ≡ t.course.size + 1 = ap (λ (x : Course). x.size) e in
        let calm : (r : ℕ) → (world o h).grid.state r ≢ Ticking = λ r k.
        let d : (world o h).grid.state r ≢ Dead = λ x. let z : Ticking ≡ Dead = sym k ∙ x in absurd (cc) in
        let b = (or_parts (is_ticking ((world o h).grid.state r)) (is_owing (world o h) r) (none_busy none r d)).0 in let z : is_ticking Ticking ≡ false = rw k at b in absurd (true≢false z) in
        stands_more o h (record { by = by; event = PhaseClose }) t (record t { course = record c { in_phase = false } }) s (sym s.fits.course.finished ∙ parts.0) (
          sym s.fits.course.in_phase ∙ p,
          sym s.fits.course.stopped ∙ parts.1,
          λ r d.
              let y = all_ready (world o h).grid good.sound.rules calm r d in
              let b = (or_parts (is_ticking ((world o h).grid.state r)) (is_owing (world o h) r) (none_busy none r d)).1 in
              let z : nat_lt 0 ((world o h).owed r) ≡ false = rw y at b in
              (is_ready_is ((world o h).grid.state r) y, let q : (world o h).owed r ≤ 0 = ltb-false _ _ z in omega arith),
        )
        (record {
          grid = s.fits.grid;
          regions = s.fits.regions;
          stored = s.fits.stored;
          tickets = s.fits.tickets;
          agenda = s.fits.agenda;
          course = record {
            next_job = ap (λ (x : Course). x.next_job) e ∙ s.fits.course.next_job;
            in_phase = refl;
            sum = ap (λ (x : Course). x.sum) e ∙ s.fits.course.sum;
            stopped = ap (λ (x : Course). x.stopped) e ∙ s.fits.course.stopped;
            finished = ap (λ (x : Course). x.finished) e ∙ s.fits.course.finished;
          };
        })
        (omega arith) (omega arith) (λ x. omega arith)
      where
        is_ready_is : (q : State) → is_ready q ≡ true → q ≡ Ready
        is_ready_is Ready e = refl
        is_ready_is Transient e = absurd (true≢false (sym e))
        is_ready_is Ticking e = absurd (true≢false (sym e))
        is_ready_is Dead e = absurd (true≢false (sym e))

  pub bags_there : HaveBags (grid_state t.regions) (bag_of t.store)
  bags_there = rw s.fits.regions (have_bags (world o h).grid (world o h).tick (world o h).owed (world o h).recorded (bag_of t.store) s.fits.stored.bags)
