-- What the tables stand for while regions are prepared: what they tell of the world after the history, and how they follow an entry more, a
-- region more that is prepared, and the Begin of one.
use Rattle.std.proofs.Common.{◌≡◌, ℕ, ◌<◌, refl, sym, ◌∙◌, ap, subst, arith, Bool, true, false, inl, inr, not, ◌&&◌, ◌||◌, List, [], ◌∷◌, ◌++◌}
use Rattle.std.specs.Global.{Vec}
use Rattle.std.specs.Prelude.{nat_lt}
use Rattle.std.proofs.Math.Path.{fun_ext}
use Rattle.std.proofs.lemmas.Bool.{cases_Bool, cases_eq, and_parts, ltb-true, or_parts, true≢false, false_from_ne_true}
use Rattle.fol_model.specs.declared.openings.Opening.{Opening}
use Rattle.fol_model.specs.declared.events.Entry.{Entry}
use Rattle.fol_model.specs.declared.events.Event.TheVariants.{Begin}
use Rattle.fol_model.specs.declared.regions.State.TheVariants.{Ready, Ticking}
use Rattle.fol_model.specs.ActionStep.{at_id}
use Rattle.fol_model.specs.GridState.{GridState, is_ready}
use Rattle.fol_model.specs.Run.{Allowed, world}
use Rattle.fol_model.specs.World.{World, start}
use Rattle.fol_laws.proofs.FunctionsChanged.{at_here, at_other}
use Rattle.fol_laws.proofs.LongerRuns.{run_more}
use Rattle.fol_laws.proofs.WholeRuns.{Good}
use Rattle.fol_early_laws.specs.EarlyBegins.{ahead_of, own_event, SparesAll}
use Rattle.fol_early_laws.proofs.EarlyEvents.{finished_same, owed_off, phase_same, state_off, stopped_same, sum_same}
use Rattle.fol_regions.specs.Answers.{IsGiven}
use Rattle.fol_regions.specs.Table.{grid_state}
use Rattle.fol_store.specs.Stock.{Stock, bag_of, next_of}
use Rattle.fol_world.specs.declared.tables.Tables.{Tables}
use Rattle.fol_world.specs.Agenda.{owes}
use Rattle.fol_core.specs.Ahead.{AheadRun, AreAmong, RunsAhead, StandsAhead}
use Rattle.fol_core.specs.Answers.{is_over, is_owing}
use Rattle.fol_world.specs.Hands.{rests}
use Rattle.fol_world.specs.Begun.{Gathered}
use Rattle.fol_world.specs.Same.{SameTables, SameThings}
use Rattle.fol_world.specs.Stands.{Stands}
use Rattle.fol_core.proofs.AheadRuns.{allowed_ahead, early_entries, early_run, event_entries, event_run, good_at, late_allowed, late_entries, late_run}
use Rattle.fol_world.proofs.GatheredBags.{gathered_stands, is_ready-true}
use Rattle.fol_core.proofs.SameKept.{same_stands}

-- the same run, by the same marks
run_as : (o : Opening) (h : List Entry) (p q : ℕ → Bool) → p ≡ q → AheadRun o h p → AheadRun o h q
run_as o h p q e a = record { entries = a.entries; run = a.run; is = rw (sym e) a.is; goes = rw (sym e) a.goes; size = rw (sym e) a.size }

-- set and set again
pub at_again : {X : Type 0} (p : ℕ → X) (id : ℕ) (b c : X) → p id ≡ b → at_id (at_id p id c) id b ≡ p
at_again p id b c h = fun_ext (λ r. elim (cases_eq r id) [
  | inl e ↦ ap (at_id (at_id p id c) id b) e ∙ at_here (at_id p id c) id b ∙ sym h ∙ ap p (sym e)
  | inr d ↦ at_other (at_id p id c) id b r d ∙ at_other p id c r d
])

-- a region of the tables owes a tick where it does in their world
pub owes_world : (o : Opening) (h : List Entry) (t : Tables) → Stands o h t → (r : ℕ) → owes (grid_state t.regions) (bag_of t.store) r ≡ is_owing (world o h) r
owes_world o h t s r = elim (cases_Bool (is_ready ((world o h).grid.state r))) [
  | inl k ↦ let ready : (world o h).grid.state r ≡ Ready = is_ready-true ((world o h).grid.state r) k in
      let calm : rests (world o h).grid r ≡ true = rw ready refl in
      let owed : (bag_of t.store r).owed ≡ (world o h).owed r = (s.fits.stored.bags r).owes calm in
      let g = s.fits.regions in rw (g, owed) refl
  | inr k ↦ let g = s.fits.regions in rw (g, k) refl
]

module _ (o : Opening) (h : List Entry) (p : ℕ → Bool) (s : RunsAhead o h p) where
  -- ---- one entry more
  module _ (e : Entry) (free : (world o h).finished ≡ false) (allowed : Allowed (world o h) e.event) (spares : SparesAll (world o h) p e.event) where
    pub own_allowed : Allowed (world o s.ahead.entries) (own_event (world o s.ahead.entries) e.event)
    own_allowed = allowed_ahead o h s.grid s.run p s.ahead e free allowed spares

    pub event_runs : RunsAhead o (h ++ e ∷ []) p
    event_runs = record {
      grid = s.grid;
      run = run_more (start o) h e s.run free allowed;
      ahead = event_run o h s.grid s.run p s.ahead e free allowed spares;
      others = λ q among. event_run o h s.grid s.run q (s.others q among) e free allowed (λ r k. spares r (among r k));
    }

    pub runs_entries : s.ahead.entries ++ (record { by = e.by; event = own_event (world o s.ahead.entries) e.event }) ∷ [] ≡ event_runs.ahead.entries
    unfolding event_runs
    runs_entries = event_entries o h s.grid s.run p s.ahead e free allowed spares

    pub event_ahead : (u : Tables) → Stands o (s.ahead.entries ++ (record { by = e.by; event = own_event (world o s.ahead.entries) e.event }) ∷ []) u → StandsAhead o (h ++ e ∷ []) p u
    event_ahead u stands = record { runs = event_runs; stands = subst (λ es. Stands o es u) runs_entries stands }

  -- ---- one region more
  module _ (id : ℕ) (off : p id ≡ false) (on : is_over (world o h) ≡ false) (owing : is_owing (world o h) id ≡ true) where
    pub ready_now : (world o h).grid.state id ≡ Ready
    ready_now = is_ready-true ((world o h).grid.state id) (and_parts (is_ready ((world o h).grid.state id)) (nat_lt 0 ((world o h).owed id)) owing).0

    going : ((world o h).finished ≡ false) × ((world o h).stopped ≡ false)
    going = or_parts (world o h).finished (world o h).stopped on

    may_begin : Allowed (world o h) (Begin 0 id)
    may_begin = (ready_now, ltb-true 0 ((world o h).owed id) (and_parts (is_ready ((world o h).grid.state id)) (nat_lt 0 ((world o h).owed id)) owing).1, going.1)

    -- the runs with the Begins of some
    some_begun : (q : ℕ → Bool) → AreAmong q (at_id p id true) → AheadRun o h q
    some_begun q among = elim (cases_Bool (q id)) [
      | inl k ↦ run_as o h (at_id (at_id q id false) id true) q (at_again q id true false k)
          (early_run o h s.grid s.run (at_id q id false) (s.others (at_id q id false) (λ r m. elim (cases_eq r id) [
            | inl e ↦ absurd (true≢false (sym m ∙ ap (at_id q id false) e ∙ at_here q id false))
            | inr d ↦ sym (at_other p id true r d) ∙ among r (sym (at_other q id false r d) ∙ m)
          ])) id (at_here q id false) going.0 may_begin)
      | inr k ↦ s.others q (λ r m. elim (cases_eq r id) [
        | inl e ↦ absurd (true≢false (sym m ∙ ap q e ∙ k))
        | inr d ↦ sym (at_other p id true r d) ∙ among r m
      ])
    ]

    pub prepare_ahead : (q : ℕ → Bool) (u : Tables) → at_id p id true ≡ q → Stands o (s.ahead.entries ++ (record { by = 0; event = Begin 0 id }) ∷ []) u → StandsAhead o h q u
    unfolding run_as
    prepare_ahead q u e stands = record {
      runs = record {
        grid = s.grid;
        run = s.run;
        ahead = run_as o h (at_id p id true) q e (early_run o h s.grid s.run p s.ahead id off going.0 may_begin);
        others = rw (sym e) some_begun;
      };
      stands = subst (λ es. Stands o es u) (early_entries o h s.grid s.run p s.ahead id off going.0 may_begin) stands;
    }

  -- ---- the Begin of a prepared region
  module _ (id by worker : ℕ) (marked : p id ≡ true) (on : is_over (world o h) ≡ false) where
    begun_going : ((world o h).finished ≡ false) × ((world o h).stopped ≡ false)
    begun_going = or_parts (world o h).finished (world o h).stopped on

    abbrev pub begin_entry : Entry
    begin_entry = record { by = by; event = Begin worker id }

    others_begun : (q : ℕ → Bool) → AreAmong q (at_id p id false) → AheadRun o (h ++ begin_entry ∷ []) q
    others_begun q among =
        let off : q id ≡ false = false_from_ne_true (q id) (λ k. true≢false (sym (among id k) ∙ at_here p id false)) in
        run_as o (h ++ begin_entry ∷ []) (at_id (at_id q id true) id false) q (at_again q id false true off)
        (late_run o h s.grid s.run (at_id q id true) (s.others (at_id q id true) (λ r m. elim (cases_eq r id) [
          | inl e ↦ ap p e ∙ marked
          | inr d ↦ sym (at_other p id false r d) ∙ among r (sym (at_other q id true r d) ∙ m)
        ])) id by worker (at_here q id true) begun_going.0 begun_going.1)

    pub learn_ahead : (q : ℕ → Bool) (t : Tables) → at_id p id false ≡ q → Stands o s.ahead.entries t → StandsAhead o (h ++ begin_entry ∷ []) q t
    unfolding run_as
    learn_ahead q t e stands = record {
      runs = record {
        grid = s.grid;
        run = run_more (start o) h begin_entry s.run begun_going.0 (late_allowed o h s.grid s.run p s.ahead id by worker marked begun_going.0 begun_going.1);
        ahead = run_as o (h ++ begin_entry ∷ []) (at_id p id false) q e (late_run o h s.grid s.run p s.ahead id by worker marked begun_going.0 begun_going.1);
        others = rw (sym e) others_begun;
      };
      stands = subst (λ es. Stands o es t) (late_entries o h s.grid s.run p s.ahead id by worker marked begun_going.0 begun_going.1) stands;
    }

module _ (o : Opening) (h : List Entry) (p : ℕ → Bool) (t : Tables) (s : StandsAhead o h p t) where
  abbrev pub ahead_world : World
  ahead_world = world o s.runs.ahead.entries

  pub good_now : Good o (world o h)
  good_now = good_at o h s.runs.grid s.runs.run

  pub good_then : Good o (world o s.runs.ahead.entries)
  good_then = good_at o s.runs.ahead.entries s.runs.grid s.runs.ahead.run

  -- ---- what the tables tell
  pub finished_is : t.course.finished ≡ (world o h).finished
  finished_is = s.stands.fits.course.finished ∙ finished_same p (world o h) (world o s.runs.ahead.entries) s.runs.ahead.is

  pub stopped_is : t.course.stopped ≡ (world o h).stopped
  stopped_is = s.stands.fits.course.stopped ∙ stopped_same p (world o h) (world o s.runs.ahead.entries) s.runs.ahead.is

  pub over_is : (t.course.finished || t.course.stopped) ≡ is_over (world o h)
  over_is = λ i. finished_is i || stopped_is i

  pub over_ahead : is_over (world o s.runs.ahead.entries) ≡ is_over (world o h)
  over_ahead = λ i. finished_same p (world o h) (world o s.runs.ahead.entries) s.runs.ahead.is i || stopped_same p (world o h) (world o s.runs.ahead.entries) s.runs.ahead.is i

  pub phase_is : t.course.in_phase ≡ (world o h).in_phase
  phase_is = s.stands.fits.course.in_phase ∙ phase_same p (world o h) (world o s.runs.ahead.entries) s.runs.ahead.is

  pub phase_ahead : (world o s.runs.ahead.entries).in_phase ≡ (world o h).in_phase
  phase_ahead = phase_same p (world o h) (world o s.runs.ahead.entries) s.runs.ahead.is

  pub sum_is : t.course.sum ≡ (world o h).sum
  sum_is = s.stands.fits.course.sum ∙ sum_same p (world o h) (world o s.runs.ahead.entries) s.runs.ahead.is

  pub sum_ahead : (world o s.runs.ahead.entries).sum ≡ (world o h).sum
  sum_ahead = sum_same p (world o h) (world o s.runs.ahead.entries) s.runs.ahead.is

  pub owner_ahead : (world o s.runs.ahead.entries).grid.owner ≡ (world o h).grid.owner
  unfolding ahead_of
  owner_ahead = ap (λ (v : World). v.grid.owner) s.runs.ahead.is.same

  pub next_ahead : (world o s.runs.ahead.entries).grid.next ≡ (world o h).grid.next
  unfolding ahead_of
  next_ahead = ap (λ (v : World). v.grid.next) s.runs.ahead.is.same

  pub owner_is : (grid_state t.regions).owner ≡ (world o h).grid.owner
  owner_is = ap (λ (g : GridState). g.owner) s.stands.fits.regions ∙ owner_ahead

  pub next_is : (grid_state t.regions).next ≡ (world o h).grid.next
  next_is = ap (λ (g : GridState). g.next) s.stands.fits.regions ∙ next_ahead

  pub state_free : (r : ℕ) → p r ≡ false → (grid_state t.regions).state r ≡ (world o h).grid.state r
  state_free r n = ap (λ (g : GridState). g.state r) s.stands.fits.regions ∙ state_off p (world o h) (world o s.runs.ahead.entries) s.runs.ahead.is r n

  pub state_ahead : (r : ℕ) → p r ≡ true → (world o s.runs.ahead.entries).grid.state r ≡ Ticking
  unfolding ahead_of
  state_ahead r k = ap (λ (v : World). v.grid.state r) s.runs.ahead.is.same ∙ rw k refl

  pub owing_ahead : (r : ℕ) → is_owing (world o s.runs.ahead.entries) r ≡ (is_owing (world o h) r && not (p r))
  owing_ahead r = elim (cases_Bool (p r)) [
    | inl k ↦ let a = state_ahead r k in rw (a, k) (sym (and_off (is_owing (world o h) r)))
    | inr k ↦ let a = state_off p (world o h) (world o s.runs.ahead.entries) s.runs.ahead.is r k in let b = owed_off p (world o h) (world o s.runs.ahead.entries) s.runs.ahead.is r k in rw (a, b, k) (sym (and_on (is_owing (world o h) r)))
  ]
    where
      and_off : (b : Bool) → (b && false) ≡ false
      and_off true = refl
      and_off false = refl

      and_on : (b : Bool) → (b && true) ≡ b
      and_on true = refl
      and_on false = refl

  pub owes_free : (r : ℕ) → owes (grid_state t.regions) (bag_of t.store) r ≡ (is_owing (world o h) r && not (p r))
  owes_free r = owes_world o s.runs.ahead.entries t s.stands r ∙ owing_ahead r

  -- ---- the same tables but for memory
  pub same_ahead : (u : Tables) → SameTables t u → StandsAhead o h p u
  same_ahead u e = record { runs = s.runs; stands = same_stands o s.runs.ahead.entries t u e s.stands }

  -- ---- the same, but for the memory of the stack
  pub places_ahead : (a : Vec ℕ) → a.items ≡ t.agenda.items → StandsAhead o h p (record t { agenda = a })
  places_ahead a e = let f = s.stands.fits in record {
    runs = s.runs;
    stands = record {
      grid = s.stands.grid;
      run = s.stands.run;
      fits = record { grid = f.grid; regions = f.regions; stored = f.stored; tickets = f.tickets; agenda = rw e f.agenda; course = f.course };
      size = s.stands.size;
    };
  }

  -- ---- the same, but that bags were gathered
  pub gathered_ahead : (k : Stock) → SameThings t.store k → next_of k ≡ next_of t.store → ((r : ℕ) → Gathered (grid_state t.regions) r (bag_of t.store r) (bag_of k r)) → StandsAhead o h p (record t { store = k })
  gathered_ahead k things next bags = record { runs = s.runs; stands = gathered_stands o s.runs.ahead.entries t s.stands k things next bags }

  -- a region that was given out in the world was given out in the tables
  pub given_ahead : (r : ℕ) → 0 < r → r < (world o h).grid.next → IsGiven (grid_state t.regions) r
  given_ahead r above below = record { above = above; below = omega (arith, next_is, below) }
