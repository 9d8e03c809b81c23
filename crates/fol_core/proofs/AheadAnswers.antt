-- What the calls answer while regions are prepared is what the world after the history says.
use Rattle.std.proofs.Common.{◌≡◌, ℕ, ◌-◌, ◌<◌, refl, sym, ◌∙◌, ap, subst, arith, Bool, true, false, inl, inr, not, ◌&&◌, ◌||◌, List, length}
use Rattle.std.specs.Prelude.{nat_eq, nat_lt, if◌then◌else◌, IfNone, IfSome, Option, Some, None, slice_get}
use Rattle.std.proofs.Math.Path.{fun_ext}
use Rattle.std.proofs.lemmas.Bool.{cases_Bool, eqb-true, false_from_ne_true, lt-ltb, true≢false}
use Rattle.fol_model.specs.declared.actions.Action.{Action}
use Rattle.fol_model.specs.declared.events.Accept.{Accept}
use Rattle.fol_model.specs.declared.events.Accept.TheVariants as accepts
use Rattle.fol_model.specs.declared.events.Entry.{Entry}
use Rattle.fol_model.specs.declared.events.Loaded.{Loaded}
use Rattle.fol_model.specs.declared.events.Loaded.TheVariants as loads
use Rattle.fol_model.specs.declared.events.Unloaded.TheVariants as unloads
use Rattle.fol_model.specs.declared.openings.Opening.{Opening}
use Rattle.fol_model.specs.declared.places.ChunkPos.{ChunkPos}
use Rattle.fol_model.specs.declared.places.SectionPos.{SectionPos}
use Rattle.fol_model.specs.declared.regions.State.TheVariants.{Ready}
use Rattle.fol_model.specs.Add.{is_full, wanted}
use Rattle.fol_model.specs.Counting.{count_below}
use Rattle.fol_model.specs.GridState.{present_count}
use Rattle.fol_model.specs.Holds.{posting}
use Rattle.fol_model.specs.Job.{Job}
use Rattle.fol_model.specs.Outputs.{owner_rows}
use Rattle.fol_model.specs.Run.{Run, load_answer, unload_answer, world}
use Rattle.fol_model.specs.World.{World}
use Rattle.fol_early_laws.specs.EarlyBegins.{ahead_of, unhanded}
use Rattle.fol_early_laws.proofs.EarlyEvents.{finished_same, none_ahead, owed_off, state_off}
use Rattle.fol_laws.proofs.CountBelow.{count_zero}
use Rattle.fol_model.specs.Geometry.{section_of}
use Rattle.fol_early_laws.proofs.EarlyHolds.{load_answer_ahead, posting_ahead, unload_answer_ahead}
use Rattle.fol_regions.specs.Answers.{state_answer}
use Rattle.fol_regions.specs.Table.{grid_state}
use Rattle.fol_store.specs.Stock.{bag_of, jobs_of}
use Rattle.fol_core.specs.declared.answers.Close.TheVariants as closes
use Rattle.fol_core.specs.declared.answers.Finish.TheVariants as finishes
use Rattle.fol_core.specs.declared.answers.Phase.TheVariants as phases
use Rattle.fol_core.specs.declared.answers.Posting.{Posting}
use Rattle.fol_core.specs.declared.answers.Posting.TheVariants as postings
use Rattle.fol_world.specs.declared.tables.Tables.{Tables}
use Rattle.fol_world.specs.Agenda.{IsAgenda, owes}
use Rattle.fol_core.specs.Ahead.{AheadRun, StandsAhead}
use Rattle.fol_core.specs.Answers.{close_result, finish_result, is_busy, is_over, is_owing, load_result, phase_result, post_result, posting_of, state_result, unload_result}
use Rattle.fol_world.specs.Closings.{owners_in}
use Rattle.fol_world.specs.Follows.{load_answer_in}
use Rattle.fol_world.specs.Hands.{at_rest, owner_of, since, went}
use Rattle.fol_world.specs.Stands.{Fits, Stands}
use Rattle.fol_core.proofs.AgendaTop.{none_owes, top_owes}
use Rattle.fol_world.proofs.OwnerRows.{owners_stand}
use Rattle.fol_core.proofs.Ahead.{finished_is, good_now, next_ahead, next_is, over_is, owes_free, over_ahead, owner_ahead, phase_ahead, phase_is, state_ahead, state_free}

module _ (o : Opening) (h : List Entry) (p : ℕ → Bool) (t : Tables) (s : StandsAhead o h p t) where
  pub load_told : (c : ChunkPos) (a : Loaded) → a ≡ load_answer_in (grid_state t.regions) c → a ≡ load_answer (world o h) c
  load_told c a e = e ∙ ap (λ g. load_answer_in g c) s.stands.fits.regions ∙ ap (λ v. load_answer v c) s.runs.ahead.is.same ∙ load_answer_ahead (world o h) p c

  pub load_now : (c : ChunkPos) (a : Loaded) → t.course.finished ≡ false → a ≡ load_answer_in (grid_state t.regions) c → a ≡ load_result (world o h) c
  load_now c a n e = let f : (world o h).finished ≡ false = sym (finished_is o h p t s) ∙ n in rw f (load_told c a e)

  pub load_over : (c : ChunkPos) → t.course.finished ≡ true → loads.Over ≡ load_result (world o h) c
  load_over c e = let f : (world o h).finished ≡ true = sym (finished_is o h p t s) ∙ e in rw f refl

  pub unload_over : (c : ChunkPos) → t.course.finished ≡ true → unloads.Over ≡ unload_result (world o h) c
  unload_over c e = let f : (world o h).finished ≡ true = sym (finished_is o h p t s) ∙ e in rw f refl

  pub unload_same : (c : ChunkPos) → unload_answer (world o s.runs.ahead.entries) c ≡ unload_answer (world o h) c
  unload_same c = ap (λ v. unload_answer v c) s.runs.ahead.is.same ∙ unload_answer_ahead (world o h) p c

  pub unload_result_same : (c : ChunkPos) → unload_result (world o s.runs.ahead.entries) c ≡ unload_result (world o h) c
  unload_result_same c = let f = finished_same p (world o h) (world o s.runs.ahead.entries) s.runs.ahead.is in let a = unload_same c in
      elim (cases_Bool (world o h).finished) [ inl k ↦ rw (f, k) refl | inr k ↦ rw (f, k) a ]

  pub post_over : (c : ChunkPos) (a : Action) → t.course.finished ≡ true → postings.Over a ≡ post_result (world o h) c a
  post_over c a e = let f : (world o h).finished ≡ true = sym (finished_is o h p t s) ∙ e in rw f refl

  -- an answer that is recorded is the one that is told
  pub post_now : (c : ChunkPos) (action : Action) (a : Accept) (r : Posting) → t.course.finished ≡ false → a ≡ posting (world o h) c → r ≡ posting_of a → r ≡ post_result (world o h) c action
  post_now c action a r n e is = let f : (world o h).finished ≡ false = sym (finished_is o h p t s) ∙ n in rw f (is ∙ ap posting_of e ∙ told (is_full (world o h).grid c))
    where
      told : (b : Bool) → posting_of (if b then accepts.Full (present_count (world o h).grid) (wanted (world o h).grid c) else accepts.Posted (world o h).next_job)
          ≡ (if b then postings.Full (present_count (world o h).grid) (wanted (world o h).grid c) else postings.Posted (world o h).next_job)
      told true = refl
      told false = refl

  pub posting_same : (c : ChunkPos) → posting (world o s.runs.ahead.entries) c ≡ posting (world o h) c
  posting_same c = ap (λ v. posting v c) s.runs.ahead.is.same ∙ posting_ahead (world o h) p c

  -- ---- a phase that is to be closed
  busy_at : (r : ℕ) → is_busy (world o s.runs.ahead.entries) r ≡ is_busy (world o h) r
  busy_at r = elim (cases_Bool (p r)) [
    | inl k ↦ let a = state_ahead o h p t s r k in let b = s.runs.ahead.is.ready r k in let c : nat_lt 0 ((world o h).owed r) ≡ true = lt-ltb 0 _ (s.runs.ahead.is.owes r k) in rw (a, b, c) refl
    | inr k ↦ let a = state_off p (world o h) (world o s.runs.ahead.entries) s.runs.ahead.is r k in let b = owed_off p (world o h) (world o s.runs.ahead.entries) s.runs.ahead.is r k in rw (a, b) refl
  ]

  busy_same : is_busy (world o s.runs.ahead.entries) ≡ is_busy (world o h)
  busy_same = λ i r. busy_at r i

  pub close_same : close_result (world o s.runs.ahead.entries) ≡ close_result (world o h)
  close_same = let a = over_ahead o h p t s in let b = phase_ahead o h p t s in let c = next_ahead o h p t s in let d = busy_same in rw (a, b, c, d) refl

  -- ---- what is answered before anything is done
  module _ (over : (t.course.finished || t.course.stopped) ≡ true) where
    is_over_now : is_over (world o h) ≡ true
    is_over_now = sym (over_is o h p t s) ∙ over

    pub finish_over : finishes.Over ≡ finish_result (world o h)
    finish_over = let f = is_over_now in rw f refl

    pub phase_over : phases.Over ≡ phase_result (world o h)
    phase_over = let f = is_over_now in rw f refl

    pub close_over : closes.Over ≡ close_result (world o h)
    close_over = let f = is_over_now in rw f refl

  module _ (on : (t.course.finished || t.course.stopped) ≡ false) where
    on_now : is_over (world o h) ≡ false
    on_now = sym (over_is o h p t s) ∙ on

    pub finish_in_phase : t.course.in_phase ≡ true → finishes.InPhase ≡ finish_result (world o h)
    finish_in_phase e = let f = on_now in let k : (world o h).in_phase ≡ true = sym (phase_is o h p t s) ∙ e in rw (f, k) refl

    pub finish_outside : t.course.in_phase ≡ false → finishes.Finished ≡ finish_result (world o h)
    finish_outside e = let f = on_now in let k : (world o h).in_phase ≡ false = sym (phase_is o h p t s) ∙ e in rw (f, k) refl

    pub phase_in_phase : t.course.in_phase ≡ true → phases.InPhase ≡ phase_result (world o h)
    phase_in_phase e = let f = on_now in let k : (world o h).in_phase ≡ true = sym (phase_is o h p t s) ∙ e in rw (f, k) refl

    pub phase_outside : t.course.in_phase ≡ false → phases.Opened ≡ phase_result (world o h)
    phase_outside e = let f = on_now in let k : (world o h).in_phase ≡ false = sym (phase_is o h p t s) ∙ e in rw (f, k) refl

    pub close_outside : t.course.in_phase ≡ false → closes.NoPhase ≡ close_result (world o h)
    close_outside e = let f = on_now in let k : (world o h).in_phase ≡ false = sym (phase_is o h p t s) ∙ e in rw (f, k) refl

  -- ---- the state of a region
  pub state_marked : (r : ℕ) → p r ≡ true → Some Ready ≡ state_result (world o h) r
  state_marked r k =
      let ready = s.runs.ahead.is.ready r k in
      let good = good_now o h p t s in
      let above : nat_lt 0 r ≡ true = lt-ltb 0 r (good.sound.rules.given r (λ d. cc)) in
      let below : nat_lt r (world o h).grid.next ≡ true = lt-ltb r _ (good.sound.rules.below_next r (λ d. cc)) in
      rw (above, below, ready) refl

  pub state_unmarked : (r : ℕ) → p r ≡ false → state_answer (grid_state t.regions) r ≡ state_result (world o h) r
  state_unmarked r k = let a = state_free o h p t s r k in let b = next_is o h p t s in rw (a, b) refl

  pub owners_now : owners_in (grid_state t.regions) ≡ owner_rows (world o h)
  unfolding owner_rows
  owners_now = owners_stand o s.runs.ahead.entries t s.stands ∙ ap (λ (f : SectionPos → ℕ). owners_in (record (world o h).grid { owner = f })) (owner_ahead o h p t s)

  -- ---- where no region is prepared
  module _ (none : (r : ℕ) → p r ≡ false) where
    count_off : (n : ℕ) → count_below p n ≡ 0
    count_off n = count_zero p n none

    went_same : (n : ℕ) (j : Job) → (world o h).jobs n ≡ Some j → j.taker ≡ 0 → went (world o s.runs.ahead.entries).grid (since o s.runs.ahead.entries) j.chunk n ≡ went (world o h).grid (since o h) j.chunk n
    went_same n j e z = s.runs.ahead.goes n j e z ∙ (let k = none ((world o h).grid.owner (section_of (world o h).grid.grid j.chunk)) in rw k (or_none (went (world o h).grid (since o h) j.chunk n)))
      where
        or_none : (b : Bool) → (b || false) ≡ b
        or_none true = refl
        or_none false = refl

    rest_at : (n : ℕ) (j : Option Job) → (world o h).jobs n ≡ j → at_rest (world o s.runs.ahead.entries).grid (since o s.runs.ahead.entries) n j ≡ at_rest (world o h).grid (since o h) n j
    rest_at n None e = refl
    rest_at n (Some j) e = elim (cases_Bool (nat_eq j.taker 0)) [ inl z ↦ let w = went_same n j e (eqb-true _ _ z) in rw (z, w) refl | inr z ↦ rw z refl ]

    -- the world ahead is the world after the history, but for who has the open ticks
    same_world : unhanded (world o s.runs.ahead.entries) ≡ unhanded (world o h)
    same_world = s.runs.ahead.is.same ∙ ap (ahead_of (world o h)) (fun_ext none) ∙ none_ahead (world o h)

    same_jobs : (world o s.runs.ahead.entries).jobs ≡ (world o h).jobs
    same_jobs = ap (λ (v : World). v.jobs) same_world

    fits_unhanded : (w : World) (f : ℕ → ℕ) → Fits t w f → Fits t (unhanded w) f
    fits_unhanded w f x = record { grid = x.grid; regions = x.regions; stored = x.stored; tickets = x.tickets; agenda = x.agenda; course = record { next_job = x.course.next_job; in_phase = x.course.in_phase; sum = x.course.sum; stopped = x.course.stopped; finished = x.course.finished } }

    fits_handed : (w : World) (f : ℕ → ℕ) → Fits t (unhanded w) f → Fits t w f
    fits_handed w f x = record { grid = x.grid; regions = x.regions; stored = x.stored; tickets = x.tickets; agenda = x.agenda; course = record { next_job = x.course.next_job; in_phase = x.course.in_phase; sum = x.course.sum; stopped = x.course.stopped; finished = x.course.finished } }

    fits_same : Fits t (world o h) (since o s.runs.ahead.entries)
    fits_same = fits_handed (world o h) (since o s.runs.ahead.entries) (subst (λ w. Fits t w (since o s.runs.ahead.entries)) same_world (fits_unhanded (world o s.runs.ahead.entries) (since o s.runs.ahead.entries) s.stands.fits))

    jobs_now : jobs_of t.store ≡ λ n. at_rest (world o h).grid (since o h) n ((world o h).jobs n)
    jobs_now = s.stands.fits.stored.jobs ∙ fun_ext (λ n. ap (λ (f : ℕ → Option Job). at_rest (world o s.runs.ahead.entries).grid (since o s.runs.ahead.entries) n (f n)) same_jobs ∙ rest_at n ((world o h).jobs n) refl)

    pub none_stands : Stands o h t
    none_stands = record {
      grid = s.runs.grid;
      run = s.runs.run;
      fits = let f = fits_same in record { grid = f.grid; regions = f.regions; stored = record { flat = f.stored.flat; jobs = jobs_now; next = f.stored.next; bags = f.stored.bags }; tickets = f.tickets; agenda = f.agenda; course = f.course };
      size = record { size = omega (arith, s.stands.size.size, s.runs.ahead.size, count_off (world o h).grid.next); most = s.stands.size.most; before = s.stands.size.before };
    }

  -- a region that is free owes a tick in the tables
  pub owing_tables : (r : ℕ) → (is_owing (world o h) r && not (p r)) ≡ true → owes (grid_state t.regions) (bag_of t.store) r ≡ true
  owing_tables r k = owes_free o h p t s r ∙ k

  -- the stack of the tables tells of the regions that are free
  top_now : IsAgenda t.agenda.items (grid_state t.regions) (bag_of t.store)
  top_now = let e = s.stands.fits.regions in rw e s.stands.fits.agenda

  pub top_free : (r : Option ℕ) → r ≡ slice_get t.agenda.items (length t.agenda.items - 1) → IfSome r (λ id. (is_owing (world o h) id && not (p id)) ≡ true)
  top_free None e = tt
  top_free (Some id) e = sym (owes_free o h p t s id) ∙ top_owes t.agenda.items (grid_state t.regions) (bag_of t.store) top_now (Some id) e

  pub none_free : (r : Option ℕ) → r ≡ slice_get t.agenda.items (length t.agenda.items - 1) → IfNone r ((id : ℕ) → 0 < id → id < (world o h).grid.next → (is_owing (world o h) id && not (p id)) ≡ false)
  none_free None e = λ id above below. sym (owes_free o h p t s id) ∙ none_owes t.agenda.items (grid_state t.regions) (bag_of t.store) top_now None e id
  none_free (Some id) e = tt

  -- outside a phase no region is prepared
  pub none_outside : t.course.in_phase ≡ false → (r : ℕ) → p r ≡ false
  none_outside out r = false_from_ne_true (p r) (λ k.
      let ready = s.runs.ahead.is.ready r k in
      let z = (good_now o h p t s).owing (sym (phase_is o h p t s) ∙ out) r (λ d. cc) in let y = s.runs.ahead.is.owes r k in omega arith)

-- where no region is marked, the history is the run ahead of it
module _ (o : Opening) (h : List Entry) (p : ℕ → Bool) (none : (r : ℕ) → p r ≡ false) where
  plain_run : (q : ℕ → Bool) → ((r : ℕ) → q r ≡ false) → Run o h → AheadRun o h q
  plain_run q off run = record {
    entries = h;
    run = run;
    is = record {
      ready = λ r k. absurd (true≢false (sym k ∙ off r));
      owes = λ r k. absurd (true≢false (sym k ∙ off r));
      same = sym (ap (ahead_of (world o h)) (fun_ext off) ∙ none_ahead (world o h));
    };
    goes = λ n j e z. let k = off (owner_of (world o h).grid j.chunk) in rw k (sym (or_none (went (world o h).grid (since o h) j.chunk n)));
    size = omega (arith, count_zero q (world o h).grid.next off);
  }
    where
      or_none : (b : Bool) → (b || false) ≡ b
      or_none true = refl
      or_none false = refl

  pub stands_none : (t : Tables) → Stands o h t → StandsAhead o h p t
  unfolding plain_run
  stands_none t s = record {
    runs = record {
      grid = s.grid;
      run = s.run;
      ahead = plain_run p none s.run;
      others = λ q among. plain_run q (λ r. false_from_ne_true (q r) (λ k. true≢false (sym (among r k) ∙ none r))) s.run;
    };
    stands = s;
  }
