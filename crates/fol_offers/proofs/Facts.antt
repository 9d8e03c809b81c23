-- What is known of regions that are free, that wait and that run.
use Rattle.std.proofs.Common.{◌≡◌, ◌≢◌, ℕ, ◌<◌, ◌≤◌, List, [], ◌∷◌, ◌++◌, length, sym, refl, ap, ◌∙◌, subst, Option, Some, None, Bool, true, false, true≢false, not, ◌&&◌, nat_lt, arith, inl, inr}
use Rattle.std.proofs.lemmas.Bool.{and_parts, eq-eqb, false_from_ne_true}
use Rattle.std.proofs.lemmas.List.{append-nil}
use Rattle.std.proofs.Math.ListN.{get_or-eq_default}
use Rattle.std.proofs.lemmas.Bool.Decides.{leb_tells}
use Rattle.fol_model.specs.declared.regions.State.TheVariants.{Dead, Ready, Ticking}
use Rattle.fol_model.specs.declared.events.Entry.{Entry}
use Rattle.fol_model.specs.declared.events.Event.TheVariants.{Begin}
use Rattle.fol_model.specs.declared.openings.Opening.{Opening}
use Rattle.fol_model.specs.GridState.{is_ready}
use Rattle.fol_model.specs.GridNumbers.{IsGrid}
use Rattle.fol_model.specs.OpenTick.{NoEnd}
use Rattle.fol_model.specs.QueuedTask.{begun}
use Rattle.fol_model.specs.Rules.{Rules}
use Rattle.fol_model.specs.World.{World, start}
use Rattle.fol_model.specs.Run.{Allowed, Run, after, after_all, world}
use Rattle.fol_laws.specs.LateBegin.{SameBegin}
use Rattle.fol_laws.proofs.FunctionsChanged.{at_here}
use Rattle.fol_laws.proofs.RuleLaws.{rules_hold}
use Rattle.fol_laws.proofs.LateLaws.{late_begin_is_the_same}
use Rattle.fol_laws.proofs.LongerRuns.{world_both}
use Rattle.fol_laws.proofs.OwnedRuns.{owned}
use Rattle.fol_laws.proofs.WholeRuns.{Good, good_run}
use Rattle.fol_data.specs.declared.tick.Tick.{Tick}
use Rattle.fol_core.specs.Ahead.{NonePrepared}
use Rattle.fol_core.specs.Answers.{IsGiven, is_free, is_owing, is_over}
use Rattle.fol_core.specs.Meaning.{Meaning, Stays, is_prepared, world_of}
use Rattle.fol_core.specs.Ticks.{IsTick, IsTickOf}
use Rattle.fol_chunks.specs.Contents.{is_recorded, within}
use Rattle.fol_core.proofs.OutAtBegin.{of_later, flat_later}
use Rattle.fol_tick_laws.specs.OpenTicks.{IsOpen}
use Rattle.fol_tick_laws.proofs.OpenTicks.{may_begin}
use Rattle.fol_slots.specs.Shown.{Keeper, place_at}
use Rattle.fol_offers.specs.Offered.{Offered}
use Rattle.fol_offers.specs.Fit.{IsFitTick}
use Rattle.fol_offers.specs.Places.{region_at}
use Rattle.fol_offers.specs.Tied.{InUse, Tied, Waits}

pub no_worker : (o : Option ℕ) → ((j : ℕ) → o ≡ Some j → ⊥) → o ≡ None
no_worker None none = refl
no_worker (Some j) none = absurd (none j refl)

-- ---- a region that is free

module _ (m : Meaning) (r : ℕ) (grid : IsGrid m.opening.grid) (run : Run m.opening m.history) (free : is_free m r ≡ true) where
  owing : is_owing (world_of m) r ≡ true
  owing = (and_parts (is_owing (world_of m) r) (not (is_prepared m r)) free).0

  ready : is_ready ((world_of m).grid.state r) ≡ true
  ready = (and_parts (is_ready ((world_of m).grid.state r)) (nat_lt 0 ((world_of m).owed r)) owing).0

  pub free_given : IsGiven (world_of m) r
  free_given =
      let rules : Rules (world_of m).grid = rules_hold m.opening m.history [] grid (rw append-nil run) in
      let lives : (world_of m).grid.state r ≢ Dead = λ dead. let never : false ≡ true = rw dead at ready in absurd (true≢false (sym never)) in
      record { above = rules.given r lives; below = rules.below_next r lives }

  pub free_unprepared : is_prepared m r ≡ false
  free_unprepared = unmark (is_prepared m r) (and_parts (is_owing (world_of m) r) (not (is_prepared m r)) free).1
    where
      unmark : (b : Bool) → not b ≡ true → b ≡ false
      unmark true e = absurd (true≢false (sym e))
      unmark false e = refl

  pub free_not_ticking : (world_of m).grid.state r ≢ Ticking
  free_not_ticking e = let never : false ≡ true = rw e at ready in absurd (true≢false (sym never))

  pub free_may_begin : is_over (world_of m) ≡ false → Allowed (world_of m) (Begin 0 r)
  free_may_begin on = may_begin (world_of m) 0 r owing on

-- ---- a tick that waits

module _ (m : Meaning) (r : ℕ) (t : Tick) (grid : IsGrid m.opening.grid) (run : Run m.opening m.history) (w : Waits m r t) where
  abbrev at : World
  at = world m.opening w.before

  own : t.region ≡ r
  own = w.is.region

  whole : Run m.opening (w.before ++ (w.between ++ []))
  whole = rw (w.history, ← append-nil w.between) at run

  later : Allowed (after_all at w.between) (Begin t.worker t.region) × SameBegin t.region t.worker at (after_all at w.between)
  later = late_begin_is_the_same m.opening w.before w.between [] t.region t.worker grid whole (rw own w.allowed) (rw own w.calm)

  same : SameBegin t.region t.worker at (after_all at w.between)
  same = later.1

  good : Good m.opening at
  good = good_run m.opening w.before (w.between ++ []) grid whole

  there : after_all at w.between ≡ world_of m
  there = sym (world_both (start m.opening) w.before w.between) ∙ ap (world m.opening) (sym w.history)

  -- it is the tick of a Begin now
  pub waits_now : IsTick (world_of m) t.begun 0 t.region t
  waits_now = record {
    worker = w.is.worker;
    region = refl;
    begun = refl;
    of = subst (λ (x : World). IsTickOf x t) there (of_later m.opening at (after_all at w.between) t good same w.is.of);
    contents = w.is.contents ∙ (flat_later m.opening at (after_all at w.between) t good same w.is.of ∙ ap (λ (x : World). within (is_recorded t.chunks) x.flat) there);
    ran = w.is.ran;
    wishes = w.is.wishes;
    next = w.is.next;
    moved = w.is.moved;
  }

  -- its region is Ready
  pub waits_ready : (world_of m).grid.state r ≡ Ready
  waits_ready = ap (λ (x : World). x.grid.state r) (sym there) ∙ (ap (λ (q : ℕ). (after_all at w.between).grid.state q) (sym own) ∙ later.0.0)

  -- and owes it
  pub waits_owes : 1 ≤ (world_of m).owed r
  waits_owes =
      let here : 1 ≤ (after_all at w.between).owed t.region = later.0.1 in
      let P : World → Type 0 = λ x. 1 ≤ x.owed r in
      let Q : ℕ → Type 0 = λ q. 1 ≤ (after_all at w.between).owed q in
      subst P there (subst Q own here)

-- ---- a tick that runs

worker_begun : (w : World) (k r : ℕ) → (after w (Begin k r)).worker r ≡ k
unfolding begun
worker_begun w k r = at_here w.worker r k

-- a region whose Begin no End follows ticks, for the worker of the Begin
pub begun_ticks : (o : Opening) (h before since : List Entry) (by k r : ℕ) → IsGrid o.grid → Run o h → h ≡ before ++ (record { by = by; event = Begin k r }) ∷ since → NoEnd r since
    → ((world o h).grid.state r ≡ Ticking) × ((world o h).worker r ≡ k)
begun_ticks o h before since by k r grid run is runs_on =
    let e : Entry = record { by = by; event = Begin k r } in
    let whole : Run o (before ++ e ∷ (since ++ [])) = rw (is, ← append-nil since) at run in
    let u = owned o before since [] e r grid (eq-eqb r r refl) runs_on whole in
    let all : world o h ≡ after_all (after (world o before) e.event) since = ap (world o) is ∙ world_both (start o) before (e ∷ since) in
    (ap (λ (x : World). x.grid.state r) all ∙ u.ticks, ap (λ (x : World). x.worker r) all ∙ (u.worker ∙ worker_begun (world o before) k r))

-- its region ticks
pub open_ticks : (m : Meaning) (t : Tick) → IsGrid m.opening.grid → Run m.opening m.history → IsOpen m t → (world_of m).grid.state t.region ≡ Ticking
open_ticks m t grid run is = (begun_ticks m.opening m.history (is.made.before ++ is.made.between) is.made.since is.made.by t.worker t.region grid run is.made.begin is.made.runs_on).0

-- ---- slots

-- a region that is free has no slot
pub free_has_none : (m : Meaning) (s : Keeper Offered) (xs : List ℕ) (r : ℕ) → Tied m s xs → Run m.opening m.history → is_free m r ≡ true → (i : ℕ) → region_at xs i ≢ r
free_has_none m s xs r t run free i is =
    let given = free_given m r t.grid run free in
    let above : 0 < r = given.above in
    let inside : i < length xs = elim (leb_tells (length xs) i) [ inl y ↦ absurd (let z = get_or-eq_default xs 0 {n = i} y.1 in omega (arith, z, is, above)) | inr n ↦ n.1 ] in
    let u = t.used i inside (subst (λ (x : ℕ). 0 < x) (sym is) above) in
    let unprepared = free_unprepared m r t.grid run free in
    none_or_some (place_at s i).found
    (λ e. absurd (true≢false (sym (u.waits e).prepared ∙ ap (is_prepared m) is ∙ unprepared)))
    (λ k e. let runs = u.runs k e in
    absurd (free_not_ticking m r t.grid run free (ap (λ (x : ℕ). (world_of m).grid.state x) (sym (runs.of ∙ is)) ∙ open_ticks m (record u.tick { worker = k }) t.grid run runs.opened)))
  where
    none_or_some : (o : Option ℕ) → (o ≡ None → ⊥) → ((k : ℕ) → o ≡ Some k → ⊥) → ⊥
    none_or_some None none some = none refl
    none_or_some (Some k) none some = some k refl

-- ---- what may be offered

-- the tick that a free region has now, but for its worker
pub fit_now : (m : Meaning) (r : ℕ) (t : Tick) → IsGrid m.opening.grid → Run m.opening m.history → Allowed (world_of m) (Begin 0 r) → IsTick (world_of m) (length m.history) 0 r t → IsFitTick t
fit_now m r t grid run allowed is = record {
  opening = m.opening;
  history = m.history;
  grid = grid;
  run = run;
  allowed = subst (λ (x : ℕ). Allowed (world_of m) (Begin 0 x)) (sym is.region) allowed;
  is = subst (λ (x : ℕ). IsTick (world_of m) (length m.history) 0 x t) (sym is.region) is;
}

pub stays_free : (m n : Meaning) (r : ℕ) → Stays m n → is_free n r ≡ is_free m r
stays_free m n r same =
    let world_is : world_of n ≡ world_of m = λ k. world (same.opening k) (same.history k) in
    λ k. is_owing (world_is k) r && not (same.prepared k r)

-- the tick of a prepared region waits
pub prepared_waits : (m : Meaning) (s : Keeper Offered) (xs : List ℕ) (r : ℕ) → Tied m s xs → is_prepared m r ≡ true → (t : Tick) × Waits m r t
prepared_waits m s xs r t marked =
    let z = t.prepared r marked in
    let i : ℕ = z.0 in
    let u : InUse m r (place_at s i) = subst (λ (x : ℕ). InUse m x (place_at s i)) z.3 (t.used i z.2 (subst (λ (x : ℕ). 0 < x) (sym z.3) z.1)) in
    (u.tick, u.waits (no_worker (place_at s i).found (λ j found. true≢false (sym marked ∙ (u.runs j found).unprepared))))

-- the history is not over
pub prepared_on : (m : Meaning) (s : Keeper Offered) (xs : List ℕ) (r : ℕ) → Tied m s xs → is_prepared m r ≡ true → is_over (world_of m) ≡ false
prepared_on m s xs r t marked = false_from_ne_true (is_over (world_of m)) (λ over. true≢false (sym marked ∙ t.calm over r))

-- the region is Ready
pub prepared_ready : (m : Meaning) (s : Keeper Offered) (xs : List ℕ) (r : ℕ) → Tied m s xs → Run m.opening m.history → is_prepared m r ≡ true → (world_of m).grid.state r ≡ Ready
prepared_ready m s xs r t run marked = let w = prepared_waits m s xs r t marked in waits_ready m r w.0 t.grid run w.1

-- and its id was given out
pub prepared_below : (m : Meaning) (s : Keeper Offered) (xs : List ℕ) (r : ℕ) → Tied m s xs → Run m.opening m.history → is_prepared m r ≡ true → r < (world_of m).grid.next
prepared_below m s xs r t run marked =
    let rules : Rules (world_of m).grid = rules_hold m.opening m.history [] t.grid (rw append-nil run) in
    let ready : (world_of m).grid.state r ≡ Ready = prepared_ready m s xs r t run marked in
    rules.below_next r (λ dead. let never : false ≡ true = rw dead at (ap is_ready ready) in absurd (true≢false (sym never)))

-- outside phases no region owes a tick, so that none is prepared
pub none_outside : (m : Meaning) (s : Keeper Offered) (xs : List ℕ) → Tied m s xs → Run m.opening m.history → (world_of m).in_phase ≡ false → NonePrepared m
none_outside m s xs t run outside r = false_from_ne_true (is_prepared m r) (λ marked.
    let w = prepared_waits m s xs r t marked in
    let ready : (world_of m).grid.state r ≡ Ready = waits_ready m r w.0 t.grid run w.1 in
    let owes : 1 ≤ (world_of m).owed r = waits_owes m r w.0 t.grid run w.1 in
    let good : Good m.opening (world_of m) = good_run m.opening m.history [] t.grid (rw append-nil run) in
    let none : (world_of m).owed r ≡ 0 = good.owing outside r (λ dead. cc) in
    omega (arith, owes, none))
