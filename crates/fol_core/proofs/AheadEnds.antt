-- A finished tick at the moment of its End is that of its region in the world ahead of the history, too.
use Rattle.std.proofs.Common.{◌≡◌, ℕ, ◌+◌, ◌<◌, refl, sym, ◌∙◌, ap, Bool, true, false, inl, inr, ◌&&◌, ◌||◌, List}
use Rattle.std.specs.Prelude.{nat_eq, nat_lt, nat_le, if◌then◌else◌, filter, Option, Some, None}
use Rattle.std.proofs.lemmas.Option.{same_Some}
use Rattle.std.proofs.lemmas.Bool.{cases_Bool, and_parts, eqb-true, ne_eqb, lt-ltb, true≢false}
use Rattle.fol_model.specs.declared.events.Entry.{Entry}
use Rattle.fol_model.specs.declared.events.Event.TheVariants.{End}
use Rattle.fol_model.specs.declared.openings.Opening.{Opening}
use Rattle.fol_model.specs.declared.places.ChunkPos.{ChunkPos}
use Rattle.fol_model.specs.declared.regions.State.TheVariants.{Ticking}
use Rattle.fol_model.specs.Universe.{all_chunks}
use Rattle.fol_model.specs.Geometry.{section_of}
use Rattle.fol_model.specs.GridState.{GridState, is_ticking}
use Rattle.fol_model.specs.ActionStep.{Recorded}
use Rattle.fol_model.specs.End.{dropped, run_down, ticked}
use Rattle.fol_model.specs.FlatTick.{FlatEnd}
use Rattle.fol_model.specs.Job.{Job}
use Rattle.fol_model.specs.QueuedTask.{is_queued_in, queued_in}
use Rattle.fol_model.specs.Run.{world}
use Rattle.fol_model.specs.World.{World}
use Rattle.fol_laws.specs.LateBegin.{wishes_touch}
use Rattle.fol_early_laws.specs.EarlyBegins.{ahead_of, down_all, SparesAll}
use Rattle.fol_early_laws.proofs.EarlyEvents.{answers_met, counter_met, due_met, owed_met, recorded_met, ticked_met, ticking_met, ticking_off}
use Rattle.fol_chunks.specs.Contents.{within}
use Rattle.fol_data.specs.declared.tick.Tick.{Tick}
use Rattle.fol_world.specs.declared.tables.Tables.{Tables}
use Rattle.fol_core.specs.Ahead.{StandsAhead}
use Rattle.fol_world.specs.AtEnd.{end_event, AtEnd}
use Rattle.fol_world.specs.Hands.{owner_of, since, ticker, went}
use Rattle.fol_core.proofs.Ahead.{good_now}
use Rattle.fol_world.proofs.HandSteps.{ticker_on}

-- what a region that is not marked has queued
queued_down : (g : GridState) (p : ℕ → Bool) (q : ℕ) → p q ≡ false → (x : Option Job) → queued_in g q (down_all g p x) ≡ queued_in g q x
unfolding queued_in
queued_down g p q off None = refl
queued_down g p q off (Some j) = elim (cases_Bool (nat_eq j.taker 0 && p (g.owner (section_of g.grid j.chunk)))) [
  | inl k ↦ let m = and_parts (nat_eq j.taker 0) (p (g.owner (section_of g.grid j.chunk))) k in
      let d : nat_eq (g.owner (section_of g.grid j.chunk)) q ≡ false = ne_eqb _ _ (λ e. true≢false (sym m.1 ∙ ap p e ∙ off)) in
      rw (k, d) (no_one (nat_eq (if nat_le j.rest 1 then g.owner (section_of g.grid j.chunk) else 0) 0) (nat_eq j.taker 0) _ _)
  | inr k ↦ rw k refl
]
  where
    no_one : (a b : Bool) (x y : Option Job) → (if a && false then x else None) ≡ (if b && false then y else None)
    no_one true true x y = refl
    no_one true false x y = refl
    no_one false true x y = refl
    no_one false false x y = refl

-- a task that a region has queued
record IsQueued (g : GridState) (r : ℕ) (x : Option Job) (j : Job) : Type 0 where
  pub is : x ≡ Some j
  pub queued : j.taker ≡ 0
  pub home : owner_of g j.chunk ≡ r

queued_is : (g : GridState) (r : ℕ) (x : Option Job) (j : Job) → queued_in g r x ≡ Some j → IsQueued g r x j
unfolding queued_in
queued_is g r None j h = absurd (cc)
queued_is g r (Some i) j h = elim (cases_Bool (is_queued_in g r i)) [
  | inl k ↦ let e : Some i ≡ Some j = rw k at h in let same : i ≡ j = same_Some i j e in
      let b = and_parts (nat_eq i.taker 0) (nat_eq (g.owner (section_of g.grid i.chunk)) r) k in
      record { is = e; queued = ap (λ (v : Job). v.taker) (sym same) ∙ eqb-true _ _ b.0; home = ap (λ (v : Job). owner_of g v.chunk) (sym same) ∙ eqb-true _ _ b.1 }
  | inr k ↦ let e : None ≡ Some j = rw k at h in absurd (cc)
]

went_at : (g : GridState) (f : ℕ → ℕ) (c : ChunkPos) (n r : ℕ) → 0 < r → owner_of g c ≡ r → g.state r ≡ Ticking → went g f c n ≡ nat_lt n (f r)
unfolding went
went_at g f c n r given own ticks =
    let k : is_ticking (g.state (owner_of g c)) ≡ true = ap (λ v. is_ticking (g.state v)) own ∙ rw ticks refl in
    let e : ticker g c ≡ r = ticker_on g c k ∙ own in
    let z : nat_lt 0 r ≡ true = lt-ltb 0 r given in rw (e, z) refl

module _ (o : Opening) (h : List Entry) (p : ℕ → Bool) (t : Tables) (s : StandsAhead o h p t) (tick : Tick) (at : AtEnd (world o h) (since o h) tick) where
  abbrev q : ℕ
  q = tick.region

  given : 0 < q
  given = let a = at.ticks in (good_now o h p t s).sound.rules.given q (λ d. cc)

  off : p q ≡ false
  off = ticking_off o (world o h) (world o s.runs.ahead.entries) p (good_now o h p t s) s.runs.ahead.is q at.ticks

  ticks_then : (world o s.runs.ahead.entries).grid.state q ≡ Ticking
  ticks_then = ticking_met o (world o h) (world o s.runs.ahead.entries) p (good_now o h p t s) s.runs.ahead.is q at.ticks

  recorded_then : (world o s.runs.ahead.entries).recorded q ≡ (world o h).recorded q
  recorded_then = recorded_met o (world o h) (world o s.runs.ahead.entries) p (good_now o h p t s) s.runs.ahead.is q at.ticks

  ticked_then : ticked (world o s.runs.ahead.entries) q tick.log.ran ≡ ticked (world o h) q tick.log.ran
  ticked_then = ticked_met o (world o h) (world o s.runs.ahead.entries) p (good_now o h p t s) s.runs.ahead.is q at.ticks tick.log.ran

  flat_of_down : (v : World) → (run_down v q tick.log.ran).flat ≡ (ticked v q tick.log.ran).flat
  unfolding dropped
  flat_of_down v = refl

  flat_then : (run_down (world o s.runs.ahead.entries) q tick.log.ran).flat ≡ (run_down (world o h) q tick.log.ran).flat
  flat_then = flat_of_down (world o s.runs.ahead.entries) ∙ ap (λ (e : FlatEnd). e.flat) ticked_then ∙ sym (flat_of_down (world o h))

  queued_ahead : (v : World) (n : ℕ) → queued_in (ahead_of v p).grid q ((ahead_of v p).jobs n) ≡ queued_in v.grid q (down_all v.grid p (v.jobs n))
  unfolding ahead_of queued_in
  queued_ahead v n = by_cases (down_all v.grid p (v.jobs n))
    where
      by_cases : (x : Option Job) → queued_in (record v.grid { state = λ r. if p r then Ticking else v.grid.state r }) q x ≡ queued_in v.grid q x
      by_cases None = refl
      by_cases (Some j) = refl

  queued_then : (n : ℕ) → queued_in (world o s.runs.ahead.entries).grid q ((world o s.runs.ahead.entries).jobs n) ≡ queued_in (world o h).grid q ((world o h).jobs n)
  queued_then n = ap (λ (v : World). queued_in v.grid q (v.jobs n)) s.runs.ahead.is.same ∙ queued_ahead (world o h) n ∙ queued_down (world o h).grid p q off ((world o h).jobs n)

  owner_then : (c : ChunkPos) → owner_of (world o s.runs.ahead.entries).grid c ≡ owner_of (world o h).grid c
  unfolding ahead_of
  owner_then c = ap (λ (v : World). owner_of v.grid c) s.runs.ahead.is.same

  or_off : (b : Bool) → (b || false) ≡ b
  or_off true = refl
  or_off false = refl

  -- the tasks that went with the tick went with it in both worlds
  since_then : (n : ℕ) (j : Job) → IsQueued (world o h).grid q ((world o h).jobs n) j → nat_lt n (since o s.runs.ahead.entries q) ≡ nat_lt n (since o h q)
  since_then n j k =
      let one = went_at (world o s.runs.ahead.entries).grid (since o s.runs.ahead.entries) j.chunk n q given (owner_then j.chunk ∙ k.home) ticks_then in
      let two = went_at (world o h).grid (since o h) j.chunk n q given k.home at.ticks in
      let none : p (owner_of (world o h).grid j.chunk) ≡ false = ap p k.home ∙ off in
      sym one ∙ s.runs.ahead.goes n j k.is k.queued ∙ ap (λ b. went (world o h).grid (since o h) j.chunk n || b) none ∙ or_off (went (world o h).grid (since o h) j.chunk n) ∙ two

  queue_then : (n : ℕ) → (if nat_lt n (since o h q) then queued_in (world o h).grid q ((world o h).jobs n) else None)
      ≡ (if nat_lt n (since o s.runs.ahead.entries q) then queued_in (world o s.runs.ahead.entries).grid q ((world o s.runs.ahead.entries).jobs n) else None)
  queue_then n = by_cases (queued_in (world o h).grid q ((world o h).jobs n)) refl
    where
      nothing : Option Job
      nothing = None

      either : (b c : Bool) → (if b then nothing else nothing) ≡ (if c then nothing else nothing)
      either true true = refl
      either true false = refl
      either false true = refl
      either false false = refl

      by_cases : (x : Option Job) → queued_in (world o h).grid q ((world o h).jobs n) ≡ x → (if nat_lt n (since o h q) then queued_in (world o h).grid q ((world o h).jobs n) else None)
          ≡ (if nat_lt n (since o s.runs.ahead.entries q) then queued_in (world o s.runs.ahead.entries).grid q ((world o s.runs.ahead.entries).jobs n) else None)
      by_cases None e = let a = queued_then n ∙ e in rw (e, a) (either (nat_lt n (since o h q)) (nat_lt n (since o s.runs.ahead.entries q)))
      by_cases (Some j) e = let a = queued_then n in let b = since_then n j (queued_is (world o h).grid q ((world o h).jobs n) j e) in rw (a, b) refl

  pub at_ahead : AtEnd (world o s.runs.ahead.entries) (since o s.runs.ahead.entries) tick
  at_ahead = record {
    ticks = ticks_then;
    chunks = at.chunks ∙ ap (λ (f : Recorded). filter f all_chunks) (sym recorded_then);
    listed = at.listed ∙ sym recorded_then;
    due = at.due ∙ sym (due_met o (world o h) (world o s.runs.ahead.entries) p (good_now o h p t s) s.runs.ahead.is q at.ticks);
    ran = ap (λ (e : FlatEnd). e.ran) ticked_then ∙ at.ran;
    wishes = ap (λ (e : FlatEnd). e.wishes) ticked_then ∙ at.wishes;
    contents = at.contents ∙ (λ i. within (sym recorded_then i) (sym flat_then i));
    counter = at.counter ∙ sym (counter_met o (world o h) (world o s.runs.ahead.entries) p (good_now o h p t s) s.runs.ahead.is q at.ticks);
    owed = at.owed ∙ sym (owed_met o (world o h) (world o s.runs.ahead.entries) p (good_now o h p t s) s.runs.ahead.is q at.ticks);
    queue = λ n. at.queue n ∙ queue_then n;
    there = λ n j e. ap (λ (f : Recorded). f j.chunk) recorded_then ∙ at.there n j e;
  }

  module _ (calm : (r : ℕ) → p r ≡ true → wishes_touch (run_down (world o h) q tick.log.ran) tick.log.wishes r ≡ false) where
    calm_then : (r : ℕ) → p r ≡ true → wishes_touch (run_down (world o h) q tick.log.ran) (ticked (world o h) q tick.log.ran).wishes r ≡ false
    calm_then r k = ap (λ xs. wishes_touch (run_down (world o h) q tick.log.ran) xs r) at.wishes ∙ calm r k

    -- the End is the same in both worlds
    pub end_same : (worker : ℕ) → end_event (world o s.runs.ahead.entries) worker q tick.log.ran ≡ end_event (world o h) worker q tick.log.ran
    end_same worker =
        let a = counter_met o (world o h) (world o s.runs.ahead.entries) p (good_now o h p t s) s.runs.ahead.is q at.ticks in
        let b = answers_met o (world o h) (world o s.runs.ahead.entries) p (good_now o h p t s) s.runs.ahead.is q at.ticks tick.log.ran calm_then in
        λ i. End worker q (a i + 1) tick.log.ran (b i)

    pub end_spares : (worker : ℕ) → SparesAll (world o h) p (end_event (world o h) worker q tick.log.ran)
    end_spares worker r k = let e : nat_eq q r ≡ false = ne_eqb _ _ (λ e. true≢false (sym k ∙ ap p (sym e) ∙ off)) in let c = calm_then r k in rw (e, c) refl
