-- How core and slots stay tied.
use Rattle.std.proofs.Common.{◌≡◌, ◌≢◌, ℕ, ◌<◌, ◌≤◌, List, [], ◌∷◌, ◌++◌, length, set, get_or, replicate, sym, refl, ap, ◌∙◌, subst, Option, Some, None, Bool, true, false, arith, length-set, get_or-set_other, get_or-set_same, ◌⊎◌, inl, inr, zero, suc, true≢false}
use Rattle.std.proofs.lemmas.List.{append-nil, length-replicate, set-get_or}
use Rattle.std.proofs.lemmas.Bool.{eqb-true, ne_eqb}
use Rattle.std.proofs.lemmas.Bool.Decides.{eqb_tells}
use mathlib.Core.Logic.{dite}
use native.Mathlib.Decide.{ℕ_discrete}
use Rattle.fol_model.specs.ActionStep.{at_id}
use Rattle.fol_model.specs.GridNumbers.{IsGrid}
use Rattle.fol_data.specs.declared.tick.Tick.{Tick}
use Rattle.fol_model.specs.declared.events.Entry.{Entry}
use Rattle.fol_model.specs.declared.events.Event.{Event}
use Rattle.fol_model.specs.declared.events.Event.TheVariants.{Begin}
use Rattle.fol_model.specs.declared.regions.State.TheVariants.{Ticking}
use Rattle.fol_model.specs.OpenTick.{is_begin, is_end}
use Rattle.fol_laws.specs.LateBegin.{is_stop, touches}
use Rattle.fol_model.specs.QueuedTask.{begun}
use Rattle.fol_model.specs.World.{World, start}
use Rattle.fol_model.specs.Run.{Allowed, Run, after, world}
use Rattle.fol_laws.proofs.LongerRuns.{world_more}
use Rattle.fol_laws.proofs.TickedBefore.{ticked_before}
use Rattle.fol_core.specs.Answers.{is_over}
use Rattle.fol_laws.proofs.FunctionsChanged.{at_here, at_other}
use Rattle.fol_core.specs.Ahead.{Learns, Prepares, NonePrepared, Withdraws}
use Rattle.fol_core.specs.Ticks.{IsTick}
use Rattle.fol_tick_laws.proofs.OpenTicks.{learnt_opens}
use Rattle.fol_core.specs.Meaning.{Meaning, Records, Stays, is_prepared, world_of}
use Rattle.std.specs.Prelude.{All, slice_get}
use Rattle.atomic_table.specs.Seated.{TableId}
use Rattle.fol_slots.specs.declared.view.Place.{Place}
use Rattle.fol_slots.specs.Shown.{FoundOnlyAt, Keeper, knowing, place_at, keeping, offering, finding, new_keeper}
use Rattle.fol_slots.specs.Hands as hands
use Rattle.fol_slots.proofs.Callers.{as_many, place_here, place_else, new_as_many, body_new}
use Rattle.fol_offers.specs.Offered.{Offered, nothing, of_tick}
use Rattle.fol_offers.specs.InTurn.{TakeTurns}
use Rattle.fol_offers.specs.Places.{region_at}
use Rattle.fol_offers.specs.Starts.{NoneTicks}
use Rattle.fol_offers.specs.Tied.{InUse, Runs, Tied, Waits}
use Rattle.fol_offers.proofs.Facts.{no_worker}
use Rattle.fol_offers.proofs.FreeSlots.{none_at}
use Rattle.fol_offers.proofs.Turns.{none_open, turns_begin, turns_other}
use Rattle.fol_offers.proofs.Passing.{Passes, in_use_passes, passes_same, passes_one}

none_some : {A : Type 0} (a : A) → None ≡ Some a → ⊥
none_some a e = cc

some_same : (a b : ℕ) → Some a ≡ Some b → a ≡ b
some_same a b e = cc

set_twice : {A : Type 0} (l : List A) (i : ℕ) (a b : A) → set (set l i a) i b ≡ set l i b
set_twice [] i a b = refl
set_twice (x ∷ xs) zero a b = refl
set_twice (x ∷ xs) (suc i) a b = ap (λ (ys : List _). x ∷ ys) (set_twice xs i a b)

-- whether the history is over does not change with what is prepared
pub same_world : (m n : Meaning) → n.opening ≡ m.opening → n.history ≡ m.history → world_of n ≡ world_of m
same_world m n opening history = λ k. world (opening k) (history k)

same_over : (m n : Meaning) → n.opening ≡ m.opening → n.history ≡ m.history → is_over (world_of n) ≡ is_over (world_of m)
same_over m n opening history = ap is_over (same_world m n opening history)

stays_over : (m n : Meaning) → Stays m n → is_over (world_of n) ≡ is_over (world_of m)
stays_over m n same = same_over m n same.opening same.history

ticked_same : (m n : Meaning) (r : ℕ) → n.opening ≡ m.opening → n.history ≡ m.history → (world_of n).grid.state r ≡ Ticking → (world_of m).grid.state r ≡ Ticking
ticked_same m n r opening history e = ap (λ (w : World). w.grid.state r) (sym (same_world m n opening history)) ∙ e

-- the world after one entry more
pub one_more : (m n : Meaning) (e : Entry) → n.opening ≡ m.opening → n.history ≡ m.history ++ e ∷ [] → world_of n ≡ after (world_of m) e.event
one_more m n e opening history = (λ k. world (opening k) (history k)) ∙ world_more (start m.opening) m.history e

-- what ticks then ticked before, and the entry is no End of it, or it is its Begin
pub ticked_more : (m n : Meaning) (e : Entry) (r : ℕ) → n.opening ≡ m.opening → n.history ≡ m.history ++ e ∷ [] → (world_of n).grid.state r ≡ Ticking
    → (((world_of m).grid.state r ≡ Ticking) × (is_end r e.event ≡ false)) ⊎ (is_begin r e.event ≡ true)
ticked_more m n e r opening history ticks = ticked_before r (world_of m) e.event (ap (λ (w : World). w.grid.state r) (sym (one_more m n e opening history)) ∙ ticks)

-- whether the history is over does not change with a Begin
pub over_begun : (w : World) (k r : ℕ) → is_over (after w (Begin k r)) ≡ is_over w
unfolding begun
over_begun w k r = refl

begun_over : (m n : Meaning) (by k r : ℕ) → n.opening ≡ m.opening → n.history ≡ m.history ++ (record { by = by; event = Begin k r }) ∷ [] → is_over (world_of n) ≡ is_over (world_of m)
begun_over m n by k r opening history = ap is_over (one_more m n (record { by = by; event = Begin k r }) opening history) ∙ over_begun (world_of m) k r

-- nothing is offered yet
pub tied_first : (m : Meaning) (s : Keeper Offered) (n : ℕ) → IsGrid m.opening.grid → TakeTurns s.workers m.history → NonePrepared m → NoneTicks (world_of m) → s.slots.slots ≡ n → length s.places ≡ n → n < 65536
    → ((i : ℕ) → i < n → (place_at s i).kept ≡ Some nothing) → Tied m s (replicate n 0)
tied_first m s n grid turns none idle slots places few empty = let long : length {A = ℕ} (replicate n 0) ≡ n = length-replicate n 0 in record {
  grid = grid;
  in_turn = turns;
  calm = λ _. none;
  places = places ∙ sym long;
  slots = slots ∙ sym long;
  few = rw long few;
  unused = λ i low e. empty i (rw long at low);
  used = λ i low p. absurd (let z = none_at n i in omega arith);
  apart = λ i j l k p e. absurd (let z = none_at n i in omega arith);
  prepared = λ r e. absurd (true≢false (sym e ∙ none r));
  ticking = λ r e. absurd (idle r e);
}

-- in the slots of new seats, with bodies of which none has a tick
pub tied_start : (m : Meaning) (z : TableId) (bodies : List Offered) (workers n : ℕ) → IsGrid m.opening.grid → TakeTurns workers m.history → NonePrepared m → NoneTicks (world_of m) → z.slots ≡ n → length bodies ≡ n → n < 65536
    → All (λ b. b ≡ nothing) bodies → Tied m (new_keeper z bodies workers) (replicate n 0)
tied_start m z bodies workers n grid turns none idle slots count few all = tied_first m (new_keeper z bodies workers) n grid turns none idle slots (new_as_many z bodies ∙ count) few
    (λ i low. let b : Offered = get_or bodies i nothing in
    let is : b ≡ nothing = all i nothing (rw count low) in
    ap (λ (p : Place Offered). p.kept) (body_new z bodies i nothing (get_at bodies i nothing (rw count low) is)))
  where
    get_at : (xs : List Offered) (i : ℕ) (b : Offered) → i < length xs → get_or xs i nothing ≡ b → slice_get xs i ≡ Some b
    get_at [] i b low e = absurd (omega arith)
    get_at (x ∷ xs) zero b low e = ap (λ (y : Offered). Some y) e
    get_at (x ∷ xs) (suc i) b low e = get_at xs i b (omega arith) e

-- the core stands for what it stood for
pub tied_stays : (m n : Meaning) (s : Keeper Offered) (xs : List ℕ) → Stays m n → Tied m s xs → Tied n s xs
tied_stays m n s xs same t = record {
  grid = rw same.opening t.grid;
  in_turn = rw same.history t.in_turn;
  calm = λ over r. ap (λ (f : ℕ → Bool). f r) same.prepared ∙ t.calm (sym (stays_over m n same) ∙ over) r;
  places = t.places;
  slots = t.slots;
  few = t.few;
  unused = t.unused;
  used = λ i low p. in_use_passes m n (region_at xs i) (place_at s i) (passes_same m n (region_at xs i) same.opening same.history (ap (λ (f : ℕ → Bool). f (region_at xs i)) same.prepared)) (t.used i low p);
  apart = t.apart;
  prepared = λ r e. t.prepared r (ap (λ (f : ℕ → Bool). f r) (sym same.prepared) ∙ e);
  ticking = λ r e. t.ticking r (ticked_same m n r same.opening same.history e);
}

-- a region that ticks is not prepared
ticking_unprepared : (m : Meaning) (s : Keeper Offered) (xs : List ℕ) (r : ℕ) → Tied m s xs → (world_of m).grid.state r ≡ Ticking → is_prepared m r ≡ false
ticking_unprepared m s xs r t e =
    let z = t.ticking r e in
    let u = t.used z.0 z.3 (subst (λ (x : ℕ). 0 < x) (sym z.4) z.2) in
    ap (is_prepared m) (sym z.4) ∙ (u.runs z.1 z.5).unprepared

-- what the keeper knows of slot i is another thing, and the region of the slot may be
module _ (m n : Meaning) (s : Keeper Offered) (xs : List ℕ) (t : Tied m s xs) (i q : ℕ) (p : Place Offered) (inside : i < length xs) where
  long : length (set xs i q) ≡ length xs
  long = length-set xs i q

  here : region_at (set xs i q) i ≡ q
  here = get_or-set_same xs i q 0 inside

  else : (j : ℕ) → j ≢ i → region_at (set xs i q) j ≡ region_at xs j
  else j ne = get_or-set_other xs i j q 0 ne

  place : place_at (knowing s i p) i ≡ p
  place = place_here s i p (let l = t.places in omega (arith, l, inside))

  -- where the slot is of region q then, and each other region's tick is where it was
  pub tied_changes : n.opening ≡ m.opening → TakeTurns s.workers n.history → (is_over (world_of n) ≡ true → NonePrepared n) → (q ≡ 0 → p.kept ≡ Some nothing) → (0 < q → InUse n q p)
      → ((j : ℕ) → j < length xs → j ≢ i → 0 < region_at xs j → Passes m n (region_at xs j))
      → (0 < q → (j : ℕ) → j < length xs → j ≢ i → region_at xs j ≢ q)
      → ((r : ℕ) → is_prepared n r ≡ true → (r ≡ q) ⊎ ((is_prepared m r ≡ true) × (r ≢ region_at xs i)))
      → (0 < q ⊎ ((r : ℕ) → is_prepared n r ≡ true → r ≢ q))
      → ((r : ℕ) → (world_of n).grid.state r ≡ Ticking → ((r ≡ q) × (0 < q) × (k : ℕ) × (p.found ≡ Some k)) ⊎ (((world_of m).grid.state r ≡ Ticking) × (r ≢ region_at xs i)))
      → Tied n (knowing s i p) (set xs i q)
  tied_changes opening turns calm empty own others alone marked some ticks = record {
    grid = rw opening t.grid;
    in_turn = turns;
    calm = calm;
    places = as_many s i p ∙ t.places ∙ sym long;
    slots = t.slots ∙ sym long;
    few = rw long t.few;
    unused = λ j low e. dite (ℕ_discrete j i)
        (λ same. ap (λ (x : Place Offered). x.kept) (ap (place_at (knowing s i p)) same ∙ place) ∙ empty (sym here ∙ (ap (region_at (set xs i q)) (sym same) ∙ e)))
        (λ ne. ap (λ (x : Place Offered). x.kept) (place_else s i j p ne) ∙ t.unused j (rw long at low) (sym (else j ne) ∙ e));
    used = λ j low pos. dite (ℕ_discrete j i)
        (λ same.
        let is : region_at (set xs i q) j ≡ q = ap (region_at (set xs i q)) same ∙ here in
        let at : place_at (knowing s i p) j ≡ p = ap (place_at (knowing s i p)) same ∙ place in
        subst (λ (x : Place Offered). InUse n (region_at (set xs i q) j) x) (sym at) (subst (λ (r : ℕ). InUse n r p) (sym is) (own (subst (λ (r : ℕ). 0 < r) is pos))))
        (λ ne.
        let is : region_at (set xs i q) j ≡ region_at xs j = else j ne in
        let low_j : j < length xs = rw long at low in
        let pos_j : 0 < region_at xs j = subst (λ (r : ℕ). 0 < r) is pos in
        subst (λ (x : Place Offered). InUse n (region_at (set xs i q) j) x) (sym (place_else s i j p ne))
        (subst (λ (r : ℕ). InUse n r (place_at s j)) (sym is) (in_use_passes m n (region_at xs j) (place_at s j) (others j low_j ne pos_j) (t.used j low_j pos_j))));
    apart = λ j k low_j low_k pos e. dite (ℕ_discrete j i)
        (λ same. dite (ℕ_discrete k i) (λ also. same ∙ sym also)
        (λ ne. let is : region_at (set xs i q) j ≡ q = ap (region_at (set xs i q)) same ∙ here in
        absurd (alone (subst (λ (r : ℕ). 0 < r) is pos) k (rw long at low_k) ne (sym (else k ne) ∙ sym e ∙ is))))
        (λ ne. dite (ℕ_discrete k i)
        (λ also. let is : region_at (set xs i q) k ≡ q = ap (region_at (set xs i q)) also ∙ here in
        absurd (alone (subst (λ (r : ℕ). 0 < r) (e ∙ is) pos) j (rw long at low_j) ne (sym (else j ne) ∙ e ∙ is)))
        (λ other. t.apart j k (rw long at low_j) (rw long at low_k) (subst (λ (r : ℕ). 0 < r) (else j ne) pos) (sym (else j ne) ∙ e ∙ else k other)));
    prepared = λ r e. elim (marked r e) [
      | inl is ↦ elim some [
        | inl pos ↦ (i, subst (λ (x : ℕ). 0 < x) (sym is) pos, subst (λ (l : ℕ). i < l) (sym long) inside, here ∙ sym is)
        | inr not ↦ absurd (not r e is)
      ]
      | inr was ↦ let z = t.prepared r was.0 in
          let ne : z.0 ≢ i = λ same. was.1 (sym z.3 ∙ ap (region_at xs) same) in
          (z.0, z.1, subst (λ (l : ℕ). z.0 < l) (sym long) z.2, else z.0 ne ∙ z.3)
    ];
    ticking = λ r e. elim (ticks r e) [
      | inl is ↦ (i, is.2, subst (λ (x : ℕ). 0 < x) (sym is.0) is.1, subst (λ (l : ℕ). i < l) (sym long) inside, here ∙ sym is.0, ap (λ (x : Place Offered). x.found) place ∙ is.3)
      | inr was ↦ let z = t.ticking r was.0 in
          let ne : z.0 ≢ i = λ same. was.1 (sym z.4 ∙ ap (region_at xs) same) in
          (z.0, z.1, z.2, subst (λ (l : ℕ). z.0 < l) (sym long) z.3, else z.0 ne ∙ z.4, ap (λ (x : Place Offered). x.found) (place_else s i z.0 p ne) ∙ z.5)
    ];
  }

-- ---- slots that were known anew twice

module _ (s : Keeper Offered) (i : ℕ) (inside : i < length s.places) where
  known_twice : (p q : Place Offered) → knowing (knowing s i p) i q ≡ knowing s i q
  known_twice p q = λ k. record { slots = s.slots; places = set_twice s.places i p q k; workers = s.workers }

  -- a kept slot got a body, and was offered
  pub offered_after : (b : Offered) → offering (keeping s i (Some b)) i ≡ knowing s i (hands.place None (Some b) None)
  offered_after b =
      let first : Place Offered = hands.place (Some b) (place_at s i).offered None in
      ap (λ (x : Place Offered). knowing (knowing s i first) i (hands.place None x.kept None)) (place_here s i first inside) ∙ known_twice first (hands.place None (Some b) None)

  -- a slot was kept, and got another body
  pub emptied_after : (a b : Option Offered) → keeping (keeping s i a) i b ≡ knowing s i (hands.place b (place_at s i).offered None)
  emptied_after a b =
      let first : Place Offered = hands.place a (place_at s i).offered None in
      ap (λ (x : Place Offered). knowing (knowing s i first) i (hands.place b x.offered None)) (place_here s i first inside) ∙ known_twice first (hands.place b (place_at s i).offered None)

-- ---- the three changes

module _ (m n : Meaning) (s : Keeper Offered) (xs : List ℕ) (t : Tied m s xs) (i r : ℕ) (inside : i < length xs) (some : 0 < r) where
  there : i < length s.places
  there = let l = t.places in omega (arith, l, inside)

  others_pass : n.opening ≡ m.opening → n.history ≡ m.history → (b : Bool) → is_prepared n ≡ at_id (is_prepared m) r b → (q : ℕ) → q ≢ r → Passes m n q
  others_pass opening history b prepared q ne = passes_same m n q opening history (ap (λ (f : ℕ → Bool). f q) prepared ∙ at_other (is_prepared m) r b q ne)

  -- a region was offered in a slot that was not in use
  pub tied_offers : (tick : Tick) → region_at xs i ≡ 0 → ((j : ℕ) → region_at xs j ≢ r) → is_over (world_of m) ≡ false → Prepares m n r → Allowed (world_of m) (Begin 0 r)
      → IsTick (world_of m) (length m.history) 0 r tick → length tick.due ≤ tick.body.queues.spare → Tied n (offering (keeping s i (Some (of_tick tick))) i) (set xs i r)
  tied_offers tick unused fresh on did allowed is room =
      let p : Place Offered = hands.place None (Some (of_tick tick)) None in
      subst (λ (k : Keeper Offered). Tied n k (set xs i r)) (sym (offered_after s i there (of_tick tick))) (tied_changes m n s xs t i r p inside did.opening (rw did.history t.in_turn)
      (λ over. absurd (true≢false (sym over ∙ (same_over m n did.opening did.history ∙ on))))
      (λ e. absurd (let z = some in omega (arith, e, z)))
      (λ _. record {
        kept = refl;
        tick = tick;
        offered = refl;
        waits = λ _. record {
          prepared = ap (λ (f : ℕ → Bool). f r) did.prepared ∙ at_here (is_prepared m) r true;
          before = m.history;
          between = [];
          history = did.history ∙ sym (append-nil m.history);
          calm = tt;
          allowed = rw did.opening allowed;
          is = rw did.opening is;
          room = room;
        };
        runs = λ k e. absurd (none_some k e);
      })
      (λ j low ne pos. others_pass did.opening did.history true did.prepared (region_at xs j) (fresh j))
      (λ _ j _ _. fresh j)
      (λ q e. elim (eqb_tells r q) [
        | inl y ↦ inl (sym y.1)
        | inr y ↦ let was : is_prepared m q ≡ true = sym (at_other (is_prepared m) r true q (λ z. y.1 (sym z))) ∙ (ap (λ (f : ℕ → Bool). f q) (sym did.prepared) ∙ e) in
            let pos = (t.prepared q was).1 in inr (was, λ z. let same : q ≡ 0 = z ∙ unused in omega (arith, same, pos))
      ])
      (inl some)
      (λ q e. let was = ticked_same m n q did.opening did.history e in
      let pos = (t.ticking q was).2 in
      inr (was, λ z. let same : q ≡ 0 = z ∙ unused in omega (arith, same, pos))))

  -- the tick of a region came back out of its slot
  pub tied_withdraws : (kept : Option Offered) → region_at xs i ≡ r → is_prepared m r ≡ true → Withdraws m n r → Tied n (keeping (keeping s i kept) i (Some nothing)) (set xs i 0)
  tied_withdraws kept own marked did =
      let p : Place Offered = hands.place (Some nothing) (place_at s i).offered None in
      let apart : (j : ℕ) → j < length xs → j ≢ i → region_at xs j ≢ r = λ j low ne e. ne (sym (t.apart i j inside low (subst (λ (x : ℕ). 0 < x) (sym own) some) (own ∙ sym e))) in
      subst (λ (k : Keeper Offered). Tied n k (set xs i 0)) (sym (emptied_after s i there kept (Some nothing))) (tied_changes m n s xs t i 0 p inside did.opening (rw did.history t.in_turn)
      (λ over q. falls did.prepared q (t.calm (sym (same_over m n did.opening did.history) ∙ over) q))
      (λ _. refl)
      (λ z. absurd (omega (arith, z)))
      (λ j low ne pos. others_pass did.opening did.history false did.prepared (region_at xs j) (apart j low ne))
      (λ z. absurd (omega (arith, z)))
      (λ q e. inr ((back did.prepared q e).0, λ z. (back did.prepared q e).1 (z ∙ own)))
      (inr (λ q e z. let pos = (t.prepared q ((back did.prepared q e).0)).1 in omega (arith, z, pos)))
      (λ q e. let was = ticked_same m n q did.opening did.history e in
      inr (was, λ z. true≢false (sym marked ∙ (ap (is_prepared m) (sym (z ∙ own)) ∙ ticking_unprepared m s xs q t was)))))
    where
      falls : is_prepared n ≡ at_id (is_prepared m) r false → (q : ℕ) → is_prepared m q ≡ false → is_prepared n q ≡ false
      falls prepared q none = elim (eqb_tells r q) [
        | inl y ↦ ap (is_prepared n) (sym y.1) ∙ (ap (λ (f : ℕ → Bool). f r) prepared ∙ at_here (is_prepared m) r false)
        | inr y ↦ ap (λ (f : ℕ → Bool). f q) prepared ∙ (at_other (is_prepared m) r false q (λ z. y.1 (sym z)) ∙ none)
      ]

      back : is_prepared n ≡ at_id (is_prepared m) r false → (q : ℕ) → is_prepared n q ≡ true → (is_prepared m q ≡ true) × (q ≢ r)
      back prepared q e = elim (eqb_tells r q) [
        | inl y ↦ absurd (true≢false (sym e ∙ (ap (is_prepared n) (sym y.1) ∙ (ap (λ (f : ℕ → Bool). f r) prepared ∙ at_here (is_prepared m) r false))))
        | inr y ↦ (sym (at_other (is_prepared m) r false q (λ z. y.1 (sym z))) ∙ (ap (λ (f : ℕ → Bool). f q) (sym prepared) ∙ e), λ z. y.1 (sym z))
      ]

  -- a worker was found to have the tick of a prepared region, and no other one, and its Begin was recorded
  pub tied_learns : (by k : ℕ) → Run m.opening m.history → FoundOnlyAt s k i → (1 ≤ k) × (k ≤ s.workers) → region_at xs i ≡ r → is_prepared m r ≡ true → is_over (world_of m) ≡ false → Learns m n by k r → Tied n (finding s i k) xs
  tied_learns by k run only few own marked on did =
      let begins : TakeTurns s.workers (m.history ++ (record { by = by; event = Begin k r }) ∷ []) = turns_begin s.workers m.history t.in_turn by k r (none_open m s xs i k t run (ap (is_prepared m) own ∙ marked) only) few.0 few.1 in
      let old : Place Offered = place_at s i in
      let u : InUse m r old = subst (λ (x : ℕ). InUse m x old) own (t.used i inside (subst (λ (x : ℕ). 0 < x) (sym own) some)) in
      let p : Place Offered = hands.place old.kept old.offered (Some k) in
      let e : Entry = record { by = by; event = Begin k r } in
      let waits : Waits m r u.tick = u.waits (no_worker old.found (λ j found. true≢false (sym marked ∙ (u.runs j found).unprepared))) in
      let made : Meaning = record m { history = waits.before } in
      let apart : (j : ℕ) → j < length xs → j ≢ i → region_at xs j ≢ r = λ j low ne z. ne (sym (t.apart i j inside low (subst (λ (x : ℕ). 0 < x) (sym own) some) (own ∙ sym z))) in
      let changed : Tied n (knowing s i p) (set xs i r) = tied_changes m n s xs t i r p inside did.opening (rw did.history begins)
      (λ over. absurd (true≢false (sym over ∙ (begun_over m n by k r did.opening did.history ∙ on))))
      (λ z. absurd (let y = some in omega (arith, z, y)))
      (λ _. record {
        kept = u.kept;
        tick = u.tick;
        offered = u.offered;
        waits = λ z. absurd (none_some k (sym z));
        runs = λ j z. subst (λ (x : ℕ). Runs n r x u.tick) (some_same k j z) record {
          of = waits.is.region;
          unprepared = ap (λ (f : ℕ → Bool). f r) did.prepared ∙ at_here (is_prepared m) r false;
          opened = learnt_opens made m n by k r u.tick waits.is waits.allowed record { opening = refl; between = waits.between; history = waits.history; calm = waits.calm } did;
        };
      })
      (λ j low ne pos. passes_one m n (region_at xs j) e did.opening did.history
      (ap (λ (f : ℕ → Bool). f (region_at xs j)) did.prepared ∙ at_other (is_prepared m) r false (region_at xs j) (apart j low ne))
      (λ _. (ne_eqb r (region_at xs j) (λ z. apart j low ne (sym z)), refl)) refl)
      (λ _ j low ne. apart j low ne)
      (λ q z. elim (eqb_tells r q) [
        | inl y ↦ inl (sym y.1)
        | inr y ↦ inr (sym (at_other (is_prepared m) r false q (λ x. y.1 (sym x))) ∙ (ap (λ (f : ℕ → Bool). f q) (sym did.prepared) ∙ z), λ x. y.1 (sym (x ∙ own)))
      ])
      (inl some)
      (λ q z. elim (eqb_tells r q) [
        | inl y ↦ inl (sym y.1, some, k, refl)
        | inr y ↦ elim (ticked_more m n e q did.opening did.history z) [
          | inl was ↦ inr (was.0, λ x. y.1 (sym (x ∙ own)))
          | inr begins ↦ absurd (y.1 (eqb-true r q begins))
        ]
      ]) in
      subst (λ (ys : List ℕ). Tied n (knowing s i p) ys) (ap (set xs i) (sym own) ∙ set-get_or xs i 0) changed

-- the body of a slot that was kept has the tick that waited there
pub came_back : (m : Meaning) (s k : Keeper Offered) (xs : List ℕ) (i r : ℕ) (b : Offered) (tick : Tick) → Tied m s xs → i < length xs → region_at xs i ≡ r → is_prepared m r ≡ true
    → k ≡ keeping s i (place_at s i).offered → (place_at k i).kept ≡ Some b → b.tick ≡ Some tick → Waits m r tick
came_back m s k xs i r b tick t inside own marked is body has =
    let some : 0 < r = (t.prepared r marked).1 in
    let old : Place Offered = place_at s i in
    let u : InUse m r old = subst (λ (x : ℕ). InUse m x old) own (t.used i inside (subst (λ (x : ℕ). 0 < x) (sym own) some)) in
    let kept : Some b ≡ Some (of_tick u.tick) = sym body ∙ (ap (λ (x : Keeper Offered). (place_at x i).kept) is ∙ (ap (λ (x : Place Offered). x.kept) (place_here s i (hands.place old.offered old.offered None) (let l = t.places in omega (arith, l, inside))) ∙ u.offered)) in
    let same : Some tick ≡ Some u.tick = sym has ∙ ap tick_in kept in
    subst (λ (x : Tick). Waits m r x) (sym (same_value tick u.tick same)) (u.waits (no_worker old.found (λ j found. true≢false (sym marked ∙ (u.runs j found).unprepared))))
  where
    tick_in : Option Offered → Option Tick
    tick_in None = None
    tick_in (Some o) = o.tick

    same_value : (a c : Tick) → Some a ≡ Some c → a ≡ c
    same_value a c e = cc

-- ---- events

-- an event that touches no prepared region and is neither a Begin nor an End; where a region is prepared, it is no Stop
pub tied_event : (m n : Meaning) (s : Keeper Offered) (xs : List ℕ) (by : ℕ) (event : Event) → Tied m s xs → Records m n by event
    → ((q : ℕ) → is_prepared m q ≡ true → (touches (world_of m) q event ≡ false) × (is_stop event ≡ false)) → ((q : ℕ) → (is_begin q event ≡ false) × (is_end q event ≡ false))
    → (is_over (world_of n) ≡ true → NonePrepared m) → Tied n s xs
tied_event m n s xs by event t did spares another calm = record {
  grid = rw did.opening t.grid;
  in_turn = rw did.history (turns_other s.workers m.history t.in_turn (record { by = by; event = event }) (λ q. (another q).0));
  calm = λ over r. ap (λ (f : ℕ → Bool). f r) did.prepared ∙ calm over r;
  places = t.places;
  slots = t.slots;
  few = t.few;
  unused = t.unused;
  used = λ i low p. in_use_passes m n (region_at xs i) (place_at s i)
      (passes_one m n (region_at xs i) (record { by = by; event = event }) did.opening did.history (ap (λ (f : ℕ → Bool). f (region_at xs i)) did.prepared) (spares (region_at xs i)) (another (region_at xs i)).1)
      (t.used i low p);
  apart = t.apart;
  prepared = λ r e. t.prepared r (ap (λ (f : ℕ → Bool). f r) (sym did.prepared) ∙ e);
  ticking = λ r e. elim (ticked_more m n (record { by = by; event = event }) r did.opening did.history e) [
    | inl was ↦ t.ticking r was.0
    | inr begins ↦ absurd (true≢false (sym begins ∙ (another r).0))
  ];
}
