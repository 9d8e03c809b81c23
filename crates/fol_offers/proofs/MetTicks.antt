-- A worker that is met, and the End of its tick.
use Rattle.std.proofs.Common.{◌≡◌, ◌≢◌, ℕ, ◌<◌, ◌≤◌, List, [], ◌∷◌, length, set, sym, refl, ap, ◌∙◌, subst, Option, Some, None, Bool, true, false, true≢false, arith, inl, inr, ◌||◌}
use Rattle.std.specs.Prelude.{nat_eq}
use Rattle.std.specs.List.{AllByRecursion}
use Rattle.std.proofs.Math.ListN.{get_or-eq_default}
use Rattle.std.proofs.lemmas.Bool.{cases_Bool, eq-eqb, ne_eqb, or_parts}
use Rattle.std.proofs.lemmas.Bool.Decides.{leb_tells}
use Rattle.std.proofs.lemmas.List.{append-nil, set-get_or}
use Rattle.fol_model.specs.declared.events.Entry.{Entry}
use Rattle.fol_model.specs.declared.regions.State.TheVariants.{Ready}
use Rattle.fol_model.specs.declared.tasks.Ran.{Ran}
use Rattle.fol_model.specs.declared.tasks.Wish.{Wish}
use Rattle.fol_model.specs.End.{run_down, ticked}
use Rattle.fol_model.specs.GridState.{is_ready}
use Rattle.fol_model.specs.World.{World}
use Rattle.fol_model.specs.Run.{Run}
use Rattle.fol_laws.specs.LateBegin.{wishes_touch}
use Rattle.fol_laws.proofs.FunctionsChanged.{at_here}
use Rattle.fol_laws.proofs.SoundRuns.{run_down_ending, wishes_ok}
use Rattle.fol_laws.proofs.WholeRuns.{Good, good_run}
use Rattle.fol_laws.proofs.WishLimits.{WishOk}
use Rattle.fol_data.specs.declared.tick.Tick.{Tick}
use Rattle.fol_core.specs.Ahead.{Learns, Spares, may_touch}
use Rattle.fol_core.specs.Answers.{is_over}
use Rattle.fol_world.specs.AtEnd.{AtEnd, end_event}
use Rattle.fol_world.specs.Hands.{since}
use Rattle.fol_core.specs.Meaning.{Meaning, Records, is_prepared, world_of}
use Rattle.fol_core.specs.Ticks.{IsOut}
use Rattle.fol_core.proofs.EndFacts.{at_end}
use Rattle.fol_core.proofs.OutAtBegin.{out_at_begin}
use Rattle.fol_core.proofs.ReleaseKept.{out_same}
use Rattle.fol_tick_laws.specs.OpenTicks.{IsOpen}
use Rattle.fol_tick_laws.proofs.OpenTicks.{out_when_run}
use Rattle.fol_slots.specs.declared.view.Place.{Place}
use Rattle.fol_slots.specs.Shown.{FoundOnlyAt, Keeper, Worker, finding, held_slot, keeping, knowing, place_at}
use Rattle.fol_slots.specs.Hands as hands
use Rattle.fol_slots.proofs.Callers.{place_here}
use Rattle.fol_offers.specs.Offered.{Offered, nothing, of_tick}
use Rattle.fol_offers.specs.Ends.{GivesBack, Has, Meets, wishes_may_touch}
use Rattle.fol_offers.specs.Places.{region_at}
use Rattle.fol_offers.specs.Shown.{Shown}
use Rattle.fol_offers.specs.Tied.{InUse, Runs, Tied, Waits}
use Rattle.fol_offers.proofs.Facts.{prepared_on, prepared_ready}
use Rattle.fol_offers.proofs.Passing.{passes_one}
use Rattle.fol_offers.proofs.Turns.{turns_other}
use Rattle.fol_offers.proofs.Tying.{one_more, tied_changes, tied_learns, ticked_more}
use Rattle.fol_offers.proofs.Wishes.{over_ended, reaches, reaches_down, state_down, wishes_spare}

-- ---- the slot in which a worker claimed a tick

pub record IsHeld (m : Meaning) (s : Keeper Offered) (xs : List ℕ) (i : ℕ) (t : Tick) : Type 0 where
  pub inside : i < length xs
  pub own : region_at xs i ≡ t.region
  pub some : 0 < t.region
  pub waits : (place_at s i).found ≡ None → Waits m t.region t
  pub runs : (k : ℕ) → (place_at s i).found ≡ Some k → Runs m t.region k t

-- the keeper does not have the slot, and offered the tick there
pub held : (m : Meaning) (s : Keeper Offered) (xs : List ℕ) (i : ℕ) (t : Tick) → Tied m s xs → (place_at s i).kept ≡ None → Some (of_tick t) ≡ (place_at s i).offered → IsHeld m s xs i t
held m s xs i t tied gone offered =
    let p : Place Offered = place_at s i in
    let inside : i < length xs = elim (leb_tells (length xs) i) [
      | inl y ↦ absurd (no_offer (ap (λ (x : Place Offered). x.offered) (get_or-eq_default s.places (hands.place None None None) {n = i} (let l = tied.places in let a = y.1 in omega (arith, l, a)))))
      | inr y ↦ y.1
    ] in
    let some : 0 < region_at xs i = positive (region_at xs i) (λ e. kept_none (sym (tied.unused i inside e) ∙ gone)) in
    let u : InUse m (region_at xs i) p = tied.used i inside some in
    let same : u.tick ≡ t = same_tick u.tick t (sym u.offered ∙ sym offered) in
    let own : u.tick.region ≡ region_at xs i = by_found p.found (λ e. (u.waits e).is.region) (λ k e. (u.runs k e).of) in
    let is : region_at xs i ≡ t.region = sym own ∙ ap (λ (x : Tick). x.region) same in
    record {
      inside = inside;
      own = is;
      some = subst (λ (r : ℕ). 0 < r) is some;
      waits = λ e. subst (λ (x : Tick). Waits m t.region x) same (subst (λ (r : ℕ). Waits m r u.tick) is (u.waits e));
      runs = λ k e. subst (λ (x : Tick). Runs m t.region k x) same (subst (λ (r : ℕ). Runs m r k u.tick) is (u.runs k e));
    }
  where
    no_offer : (place_at s i).offered ≡ None → ⊥
    no_offer e = let z : Some (of_tick t) ≡ None = offered ∙ e in cc

    kept_none : Some nothing ≡ None → ⊥
    kept_none e = cc

    same_tick : (a b : Tick) → Some (of_tick a) ≡ Some (of_tick b) → a ≡ b
    same_tick a b e = same_value a b (ap tick_in e)
      where
        tick_in : Option Offered → Option Tick
        tick_in None = None
        tick_in (Some o) = o.tick

        same_value : (x y : Tick) → Some x ≡ Some y → x ≡ y
        same_value x y z = cc

    positive : (n : ℕ) → n ≢ 0 → 0 < n
    positive n ne = elim (leb_tells n 0) [ inl y ↦ absurd (ne (let a = y.1 in omega (arith, a))) | inr y ↦ y.1 ]

    by_found : {A : Type 0} (o : Option ℕ) → (o ≡ None → A) → ((k : ℕ) → o ≡ Some k → A) → A
    by_found None none some = none refl
    by_found (Some k) none some = some k refl

-- the Begin was recorded when the worker was met
pub met_learnt : (m n : Meaning) (s : Keeper Offered) (xs : List ℕ) (i k r : ℕ) (t : Tick) → Tied m s xs → Run m.opening m.history → FoundOnlyAt s k i → (1 ≤ k) × (k ≤ s.workers) → (place_at s i).kept ≡ None → Some (of_tick t) ≡ (place_at s i).offered → t.region ≡ r → is_prepared m r ≡ true
    → Learns m n k k r → Tied n (finding s i k) xs
met_learnt m n s xs i k r t tied run only few gone offered of marked did =
    let h = held m s xs i t tied gone offered in
    tied_learns m n s xs tied i r h.inside (subst (λ (x : ℕ). 0 < x) of h.some) k k run only few (h.own ∙ of) marked (prepared_on m s xs r tied marked) did

-- it was recorded before: the worker was found then, and is found again
pub met_known : (m : Meaning) (s : Keeper Offered) (xs : List ℕ) (i k : ℕ) (t : Tick) → Tied m s xs → ((j : ℕ) → (place_at s i).found ≡ Some j → j ≡ k) → (place_at s i).kept ≡ None → Some (of_tick t) ≡ (place_at s i).offered
    → is_prepared m t.region ≡ false → Tied m (finding s i k) xs
met_known m s xs i k t tied only gone offered unmarked = subst (λ (x : Keeper Offered). Tied m x xs) (sym (again (some (place_at s i).found refl))) tied
  where
    some : (o : Option ℕ) → (place_at s i).found ≡ o → (place_at s i).found ≡ Some k
    some None none = absurd (true≢false (sym ((held m s xs i t tied gone offered).waits none).prepared ∙ unmarked))
    some (Some j) found = found ∙ ap (λ (n : ℕ). Some n) (only j found)

    again : (place_at s i).found ≡ Some k → finding s i k ≡ s
    again found = ap (λ (o : Option ℕ). knowing s i (hands.place (place_at s i).kept (place_at s i).offered o)) (sym found)
        ∙ ap (λ (ps : List (Place Offered)). record { slots = s.slots; places = ps; workers = s.workers }) (set-get_or s.places i (hands.place None None None))

pub inside_places : (m : Meaning) (s : Keeper Offered) (xs : List ℕ) (i : ℕ) (t : Tick) → Tied m s xs → (place_at s i).kept ≡ None → Some (of_tick t) ≡ (place_at s i).offered → i < length s.places
inside_places m s xs i t tied gone offered = let low = (held m s xs i t tied gone offered).inside in let l = tied.places in omega (arith, low, l)

-- once the worker was met its tick is open
pub open_met : (m : Meaning) (s : Keeper Offered) (xs : List ℕ) (i k : ℕ) (t : Tick) → i < length s.places → (place_at s i).kept ≡ None → Some (of_tick t) ≡ (place_at s i).offered → Tied m (finding s i k) xs
    → IsOpen m (record t { worker = k })
open_met m s xs i k t low gone offered tied =
    let p : Place Offered = hands.place (place_at s i).kept (place_at s i).offered (Some k) in
    let here : place_at (finding s i k) i ≡ p = place_here s i p low in
    let h = held m (finding s i k) xs i t tied (ap (λ (x : Place Offered). x.kept) here ∙ gone) (offered ∙ sym (ap (λ (x : Place Offered). x.offered) here)) in
    (h.runs k (ap (λ (x : Place Offered). x.found) here)).opened

-- when all of its tasks have run it may be ended
pub out_when_open : (m : Meaning) (s : Worker Offered) (tick : Tick) → GivesBack s tick → ((t : Tick) → s.claimed ≡ Some (of_tick t) → IsOpen m (record t { worker = s.number })) → IsOut m tick
out_when_open m s tick gives opened =
    out_same m gives.finished tick gives.same (out_when_run m (record gives.claimed { worker = s.number }) gives.finished gives.calls (opened gives.claimed gives.is) gives.ran)

-- it is the tick of the region that the worker claimed
pub gives_region : (s : Worker Offered) (tick : Tick) (gives : GivesBack s tick) → gives.claimed.region ≡ tick.region
gives_region s tick gives = sym (gives.same.region ∙ gives.ran.same.region)

pub gives_has : (s : Worker Offered) (tick : Tick) → GivesBack s tick → Has s tick.region
gives_has s tick gives = record { slot = gives.slot; tick = gives.claimed; claimed = gives.is; of = gives_region s tick gives }

-- the slot that the worker holds is that of the region
pub record HasSlot (xs : List ℕ) (i r : ℕ) : Type 0 where
  pub inside : i < length xs
  pub own : region_at xs i ≡ r
  pub some : 0 < r

pub gives_slot : (m : Meaning) (s : Keeper Offered) (xs : List ℕ) (w : Worker Offered) (tick : Tick) → Tied m s xs → GivesBack w tick → (place_at s (held_slot w)).kept ≡ None → w.claimed ≡ (place_at s (held_slot w)).offered
    → HasSlot xs (held_slot w) tick.region
gives_slot m s xs w tick tied gives gone claimed =
    let h = held m s xs (held_slot w) gives.claimed tied gone (sym gives.is ∙ claimed) in
    let region = gives_region w tick gives in
    record { inside = h.inside; own = h.own ∙ region; some = subst (λ (r : ℕ). 0 < r) region h.some }

-- ---- the worker was met

-- its region is not prepared then
pub met_unmarked : (a b : Shown) (k r : ℕ) → Meets a b k r → is_prepared b.core r ≡ false
met_unmarked a b k r did = elim (cases_Bool (is_prepared a.core r)) [
  | inl y ↦ ap (λ (f : ℕ → Bool). f r) (did.learnt y).prepared ∙ at_here (is_prepared a.core) r false
  | inr n ↦ ap (λ (m : Meaning). is_prepared m r) (did.known n) ∙ n
]

-- ---- the End

module _ (m : Meaning) (s : Keeper Offered) (xs : List ℕ) (tied : Tied m s xs) (run : Run m.opening m.history) (tick : Tick) (out : IsOut m tick) where
  at : AtEnd (world_of m) (since m.opening m.history) tick
  at = at_end m.opening tied.grid m.history run tick (out_at_begin m tied.grid run tick out)

  good : Good m.opening (world_of m)
  good = good_run m.opening m.history [] tied.grid (rw append-nil run)

  pub wishes_within : AllByRecursion (WishOk ((world_of m).recorded tick.region)) tick.log.wishes
  wishes_within = rw (← at.wishes) (wishes_ok (world_of m) tick.region tick.log.ran good.sound)

  -- where the wishes may touch no prepared region, the End touches none
  pub end_spares : Spares m (wishes_may_touch (world_of m) tick.log.wishes) → Spares m (wishes_touch (run_down (world_of m) tick.region tick.log.ran) tick.log.wishes)
  end_spares none r marked =
      let w : World = world_of m in
      let ready : w.grid.state r ≡ Ready = prepared_ready m s xs r tied run marked in
      wishes_spare (w.recorded tick.region) (run_down w tick.region tick.log.ran) tick.log.wishes tick.region r
      (run_down_ending w tick.region tick.log.ran good.sound at.ticks) (state_down w tick.region tick.log.ran r ∙ ready) wishes_within
      (down (ap is_ready ready) tick.log.wishes (none r marked))
    where
      down : is_ready ((world_of m).grid.state r) ≡ true → (ys : List Wish) → wishes_may_touch (world_of m) ys r ≡ false → AllByRecursion (λ x. reaches (run_down (world_of m) tick.region tick.log.ran).grid x.chunk r ≡ false) ys
      down ready [] h = tt
      down ready (y ∷ ys) h =
          let parts = or_parts (may_touch (world_of m) y.chunk r) (wishes_may_touch (world_of m) ys r) h in
          let first : may_touch (world_of m) y.chunk r ≡ false = parts.0 in
          (reaches_down (world_of m) tick.region tick.log.ran y.chunk r ∙ (rw ready at first), down ready ys parts.1)

  -- the slot is free then, and all others are as they were
  pub tied_ends : (n : Meaning) (i k : ℕ) → i < length xs → 0 < tick.region → region_at xs i ≡ tick.region → is_prepared m tick.region ≡ false
      → Spares m (wishes_touch (run_down (world_of m) tick.region tick.log.ran) tick.log.wishes)
      → Records m n k (end_event (world_of m) k tick.region tick.log.ran) → Tied n (keeping s i (Some nothing)) (set xs i 0)
  tied_ends n i k inside some own unmarked spares did =
      let r : ℕ = tick.region in
      let ran : List Ran = tick.log.ran in
      let w : World = world_of m in
      let e : Entry = record { by = k; event = end_event w k r ran } in
      let p : Place Offered = hands.place (Some nothing) (place_at s i).offered None in
      let over : is_over (world_of n) ≡ is_over w = ap is_over (one_more m n e did.opening did.history) ∙ over_ended w r ran in
      let marks : (q : ℕ) → is_prepared n q ≡ is_prepared m q = λ q. ap (λ (f : ℕ → Bool). f q) did.prepared in
      let apart : (j : ℕ) → j < length xs → j ≢ i → 0 < region_at xs j → nat_eq r (region_at xs j) ≡ false = λ j low ne pos. ne_eqb r (region_at xs j) (λ same. ne (tied.apart j i low inside pos (sym same ∙ sym own))) in
      let touched : (q : ℕ) → nat_eq r q ≡ false → is_prepared m q ≡ true → (nat_eq r q || wishes_touch (run_down w r ran) (ticked w r ran).wishes q) ≡ false = λ q other marked.
      let a : wishes_touch (run_down w r ran) (ticked w r ran).wishes q ≡ false = ap (λ (ys : List Wish). wishes_touch (run_down w r ran) ys q) at.wishes ∙ spares q marked in
      rw (other, a) refl in
      tied_changes m n s xs tied i 0 p inside did.opening
      (rw did.history (turns_other s.workers m.history tied.in_turn e (λ q. refl)))
      (λ ends q. marks q ∙ tied.calm (sym over ∙ ends) q)
      (λ _. refl)
      (λ z. absurd (omega (arith, z)))
      (λ j low ne pos. passes_one m n (region_at xs j) e did.opening did.history (marks (region_at xs j)) (λ marked. (touched (region_at xs j) (apart j low ne pos) marked, refl)) (apart j low ne pos))
      (λ z. absurd (omega (arith, z)))
      (λ q y. let was : is_prepared m q ≡ true = sym (marks q) ∙ y in inr (was, λ same. true≢false (sym was ∙ (ap (is_prepared m) (same ∙ own) ∙ unmarked))))
      (inr (λ q y z. let pos = (tied.prepared q (sym (marks q) ∙ y)).1 in omega (arith, z, pos)))
      (λ q y. elim (ticked_more m n e q did.opening did.history y) [
        | inl was ↦ inr (was.0, λ same. true≢false (sym (eq-eqb r q (sym (same ∙ own))) ∙ was.1))
        | inr begins ↦ absurd (true≢false (sym begins))
      ])

  -- the worker gave back the tick that it was offered
  pub tied_taken_in : (n : Meaning) (k : Keeper Offered) (ys : List ℕ) (w : Worker Offered) (i : ℕ) → HasSlot xs (held_slot w) tick.region → i < length xs → region_at xs i ≡ tick.region → is_prepared m tick.region ≡ false
      → Spares m (wishes_may_touch (world_of m) tick.log.wishes) → Records m n tick.worker (end_event (world_of m) tick.worker tick.region tick.log.ran)
      → k ≡ keeping s (held_slot w) (Some nothing) → ys ≡ set xs i 0 → Tied n k ys
  tied_taken_in n k ys w i has inside own unmarked spares did keeper places =
      let same : held_slot w ≡ i = tied.apart (held_slot w) i has.inside inside (subst (λ (x : ℕ). 0 < x) (sym has.own) has.some) (has.own ∙ sym own) in
      subst (λ (x : Keeper Offered). Tied n x ys) (sym (keeper ∙ ap (λ (j : ℕ). keeping s j (Some nothing)) same))
      (subst (λ (zs : List ℕ). Tied n (keeping s i (Some nothing)) zs) (sym places) (tied_ends n i tick.worker inside has.some own unmarked (end_spares spares) did))
