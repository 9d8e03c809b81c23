-- The steps of the keeper without a worker keep the rule.
use Rattle.std.proofs.Common.{◌≡◌, ◌≢◌, ◌⊎◌, ℕ, ◌+◌, ◌-◌, ◌<◌, ◌≤◌, List, [], ◌∷◌, length, get_or, set, eqb, sym, refl, ap, ◌∙◌, subst, inl, inr, ⊎_elim, arith, length-set, get_or-set_other, get_or-set_same, Option, Some, None, IsSome, IsSomeAnd, true, false}
use Rattle.std.proofs.Math.ListN.{get_or-eq_default}
use Rattle.std.proofs.lemmas.Bool.Decides.{leb_tells}
use mathlib.Core.Logic.{dite}
use mathlib.Core.Option.{some, none}
use mathlib.Core.Option as maybe
use native.Mathlib.Decide.{ℕ_discrete}
use lib.ListN.{get_elem?}
use prog.Atomic.{either}
use Rattle.atomic_table.specs.Table.{State, Me, Step, Act, keeps, takes, gives, stepped, Valid, carried_after, Allows}
use Rattle.atomic_table.proofs.Lists.{at_index, exchanged}
use Rattle.fol_slots.specs.declared.view.Place.{Place}
use Rattle.fol_slots.specs.declared.view.View.{View}
use Rattle.fol_slots.specs.Hands.{place, place_at, FoundOnlyAt, SlotFits, SeatFits, Ruled}
use Rattle.fol_slots.specs.Steps.{knows, out_at}
use Rattle.fol_slots.specs.Steps as tells
use Rattle.fol_slots.proofs.Changes.{not_true, none_some, some_same, none_of, some_of, is_some, some_and, some_fit, fit_some, same_default, put, put_here, put_else}
use Rattle.fol_slots.proofs.AtSlot.{at_slot, same_homes, small_word}

abbrev nowhere : {T : Type 0} → Place T
nowhere = place None None None

-- the keeper's seat, while it has no worker's number
pub record Alone {T : Type 0} (v : View T) : Type 0 where
  pub keeper : v.keeper ≡ true
  pub worker : v.worker ≡ false

no_worker : {P : Type 0} {b : Rattle.std.proofs.Common.Bool} → b ≡ false → b ≡ true → P
no_worker e f = absurd (not_true (sym e ∙ f))

-- a slot that no seat has out
no_one : (o : Option ℕ) → ((j : ℕ) → o ≡ Some j → ⊥) → o ≡ None
no_one o none_has = none_of o (λ some. let t = some_of o some in none_has t.0 t.1)

module _ {T : Type 0} (fit : T → Type 0) (n : ℕ) where
  abbrev V : Type 0
  V = View T

  abbrev M : Type 0
  M = Me (Option T) V

  -- What the rule says of slot i, as the keeper's view v knows it, where no one else's step comes between.
  pub record Known (s : State (Option T) V) (r : Ruled fit n s) (id : ℕ) (v : V) (i : ℕ) : Type 0 where
    pub me : SeatFits n r.keeper r.made r.owner r.hold r.outer r.ps id v
    pub seat : id ≡ r.keeper
    pub places : v.places ≡ r.ps
    pub made : v.made ≡ r.made
    pub long : length v.places ≡ n
    pub slot : SlotFits fit r.keeper r.owner r.hold r.outer i (get_or s.words i 0) (get_elem? s.homes i) (place_at v.places i)

  pub known : (s : State (Option T) V) (r : Ruled fit n s) (id : ℕ) (v : V) (i : ℕ) → i < n → get_elem? s.views id ≡ some v → v.keeper ≡ true → Known s r id v i
  known s r id v i inside at keeper =
      let me = r.each_seat id v at in
      let my = me.keeper_is keeper in record {
        me = me;
        seat = my.0;
        places = my.1;
        made = my.2;
        long = ap length my.1 ∙ r.long;
        slot = subst (λ (ps : List (Place T)). SlotFits fit r.keeper r.owner r.hold r.outer i (get_or s.words i 0) (get_elem? s.homes i) (place_at ps i)) (sym my.1) (r.each_slot i inside);
      }

  -- a worker that holds a slot has a number that was given out
  pub given_out : (s : State (Option T) V) (r : Ruled fit n s) (k i : ℕ) → r.hold k ≡ Some i → k ≤ r.made
  given_out s r k i holds = elim (leb_tells k r.made) [
    | inl y ↦ y.1
    | inr y ↦ absurd (none_some i (sym (r.unmade k y.1) ∙ holds))
  ]

  -- and was found at no other slot
  pub found_only : (s : State (Option T) V) (r : Ruled fit n s) (k i : ℕ) → r.hold k ≡ Some i → FoundOnlyAt r.ps k i
  found_only s r k i holds j e = elim (leb_tells n j) [
    | inl y ↦ let long = r.long in absurd (none_some k (ap (λ (p : Place T). p.found) (sym (get_or-eq_default r.ps nowhere {n = j} (let z = y.1 in omega (arith, long, z)))) ∙ e))
    | inr y ↦
        let slot = r.each_slot j y.1 in
        let is = slot.found k e in
        let word = is.0 in
        let one = is.1 in
        let same : get_or s.words j 0 - 1 ≡ k = omega (arith, word) in
        sym (some_same i j (sym holds ∙ (ap r.hold (sym same) ∙ slot.ticks (omega (arith, word, one)))))
  ]

  -- a kept slot that the keeper does not have out is at home
  kept_home : (s : State (Option T) V) (r : Ruled fit n s) (id : ℕ) (v : V) (i : ℕ) → Known s r id v i → get_or s.words i 0 ≡ 0 → v.out ≡ None → r.outer i ≡ None
  kept_home s r id v i k zero home = no_one (r.outer i) (λ j e. ⊎_elim
      (λ (t : (get_or s.words i 0 ≡ 0) × (j ≡ r.keeper)). none_some i (sym home ∙ k.me.outer_is i (e ∙ ap (λ (a : ℕ). Some a) (t.1 ∙ sym k.seat))))
      (λ (t : (2 ≤ get_or s.words i 0) × (j ≡ r.owner (get_or s.words i 0 - 1))). let z = t.0 in omega arith)
      (k.slot.out_by j e))

  -- the view in which the keeper alone knows slot i as p
  seat_knows : (s : State (Option T) V) (r : Ruled fit n s) (id : ℕ) (v : V) (i : ℕ) (p : Place T) (outer : ℕ → Option ℕ) → Known s r id v i → v.worker ≡ false
      → ((a : ℕ) → outer a ≡ Some id → ⊥) → SeatFits n r.keeper r.made r.owner r.hold outer (set v.places i p) id (knows v i p)
  seat_knows s r id v i p outer k none_is home = record {
    keeper_is = λ _. (k.seat, refl, k.made);
    worker = λ e. no_worker none_is e;
    claims = λ e. no_worker none_is e;
    out = λ a e. absurd (none_some a e);
    outer_is = λ a e. absurd (home a e);
  }

  pub keeps_step : (st : Step (Option T)) (slots id : ℕ) (m : M) → st.word < n → Alone m.0 → m.0.out ≡ None → (place_at m.0.places st.word).kept ≡ None
      → Allows (Ruled fit n) slots id m st.word (λ k. either (eqb k 1) 0 k) (tells.keeps fit st m)
  keeps_step st slots id m inside who home not_kept s r deep_is at small =
      let i : ℕ = st.word in
      let v : V = m.0 in
      let w : ℕ = get_or s.words i 0 in
      let known_now = known s r id v i inside at who.keeper in
      let is = known_now.places in
      let old : Place T = place_at v.places i in
      let ok = known_now.slot in
      let long = known_now.long in
      let deep = r.deep in
      let goes : (p : Place T) (w' : ℕ) (h : maybe.Option (Option T)) → get_elem? s.homes i ≡ some h → p.offered ≡ old.offered → SlotFits fit r.keeper r.owner r.hold r.outer i w' (some h) p
      → Ruled fit n record { words = set s.words i w'; homes = s.homes; views = set s.views id (knows v i p) } =
      λ p w' h at_home offers slot. same_homes fit n s i h (set s.words i w') (set s.views id (knows v i p)) at_home
      (at_slot fit n s r id v (knows v i p) i w' h p (set v.places i p) r.hold r.outer inside at (length-set v.places i p ∙ long) (get_or-set_same v.places i p nowhere (omega arith))
      (λ j ne. get_or-set_other v.places i j p nowhere ne ∙ ap (λ (ps : List (Place T)). place_at ps j) is) slot
      (seat_knows s r id v i p r.outer known_now who.worker (λ a e. none_some a (sym home ∙ known_now.me.outer_is a e)))
      (λ _ _. refl) (λ _ _ _ e. e) (λ _ _ _ e. e) (λ _ _. refl) (λ _ _ e. e) (λ _ _ e. e) (λ _ _ _. offers ∙ ap (λ (ps : List (Place T)). (place_at ps i).offered) is)
      (λ j ne e. absurd (ne (e ∙ sym known_now.seat))) r.unmade) in
      exchanged w 1 0 (λ k. (u : V) × (a : Act (Option T)) × Valid s.homes m.1 a × Ruled fit n (stepped s i k id m.1 u a) × tells.keeps fit st m w (u, carried_after m.1 a))
      (λ one.
      let ready = ok.ready one in
      let fits = some_fit old.offered fit (ok.offered (omega arith)) ok.fits in
      let body = some_and old.offered fit fits in
      let some_offered : IsSome old.offered = is_some old.offered body.0 body.1 in
      let p : Place T = place old.offered old.offered None in (
        knows v i p,
        keeps,
        tt,
        goes p 0 (some old.offered) ready.0 refl record {
          kept = λ _. some_offered;
          keeps = λ _. refl;
          ready = λ e. absurd (omega arith);
          fits = ok.fits;
          offered = λ e. absurd (omega arith);
          home = λ _ _. refl;
          empty = λ e. absurd (omega arith);
          ticks = λ e. absurd (omega arith);
          held = λ a e. let z = ok.held a e in let y = z.0 in let x = z.1 in absurd (omega arith);
          found = λ a e. absurd (none_some a e);
          out_by = λ j e. absurd (none_some j (sym ready.1 ∙ e));
        },
        ((λ _. (fits, refl)), λ ne. absurd (ne one)),
      ))
      (λ other.
      let two : 1 < w = dite (ℕ_discrete w 0) (λ z. absurd (not_true (subst (λ (o : Option T). IsSome o) not_kept (ok.kept z)))) (λ nz. omega arith) in
      let p : Place T = place old.kept old.offered (Some (w - 1)) in
      let holds : r.hold (w - 1) ≡ Some i = ok.ticks (omega (arith, two)) in
      let few = given_out s r (w - 1) i holds in
      let all = known_now.made in
      let h : maybe.Option (Option T) = get_or s.homes i none in
      let at_home : get_elem? s.homes i ≡ some h = at_index s.homes i h (omega arith) (same_default s.homes i none (omega arith)) in (
        knows v i p,
        keeps,
        tt,
        goes p w h at_home refl record {
          kept = ok.kept;
          keeps = ok.keeps;
          ready = λ e. absurd (other e);
          fits = ok.fits;
          offered = ok.offered;
          home = λ e. absurd (omega arith);
          empty = λ e o. sym at_home ∙ ok.empty e o;
          ticks = ok.ticks;
          held = ok.held;
          found = λ k e. let same : w - 1 ≡ k = some_same (w - 1) k e in (omega arith, omega arith);
          out_by = ok.out_by;
        },
        (
          λ is. absurd (other is),
          λ _. (
            two,
            small_word fit n s r i inside,
            omega (arith, few, all),
            subst (λ (ps : List (Place T)). FoundOnlyAt ps (w - 1) i) (sym is) (found_only s r (w - 1) i holds),
            some_fit old.offered fit (ok.offered (omega (arith, two))) ok.fits,
            refl,
          ),
        ),
      ))

  pub offers : (st : Step (Option T)) (slots id : ℕ) (m : M) → st.word < n → Alone m.0 → m.0.out ≡ None → IsSomeAnd (place_at m.0.places st.word).kept fit
      → Allows (Ruled fit n) slots id m st.word (λ _. 1) (λ _. tells.offers st m 1)
  offers st slots id m inside who home fits s r deep_is at small =
      let i : ℕ = st.word in
      let v : V = m.0 in
      let known_now = known s r id v i inside at who.keeper in
      let is = known_now.places in
      let old : Place T = place_at v.places i in
      let ok = known_now.slot in
      let long = known_now.long in
      let body = some_and old.kept fit fits in
      let zero_is = ok.keeps (is_some old.kept body.0 body.1) in
      let in_place : r.outer i ≡ None = kept_home s r id v i known_now zero_is home in
      let p : Place T = place None old.kept None in
      let u : V = knows v i p in (
        u,
        keeps,
        tt,
        same_homes fit n s i (some old.kept) (set s.words i 1) (set s.views id u) (ok.home zero_is in_place)
            (at_slot fit n s r id v u i 1 (some old.kept) p (set v.places i p) r.hold r.outer inside at (length-set v.places i p ∙ long) (get_or-set_same v.places i p nowhere (omega arith))
            (λ j ne. get_or-set_other v.places i j p nowhere ne ∙ ap (λ (ps : List (Place T)). place_at ps j) is)
            record {
              kept = λ e. absurd (omega arith);
              keeps = λ e. absurd (not_true e);
              ready = λ _. (refl, in_place);
              fits = fit_some old.kept fit fits;
              offered = λ _. is_some old.kept body.0 body.1;
              home = λ e. absurd (omega arith);
              empty = λ e. absurd (omega arith);
              ticks = λ e. absurd (omega arith);
              held = λ a e. let z = (ok.held a e).0 in absurd (omega arith);
              found = λ a e. absurd (none_some a e);
              out_by = λ j e. absurd (none_some j (sym in_place ∙ e));
            }
            (seat_knows s r id v i p r.outer known_now who.worker (λ a e. none_some a (sym home ∙ known_now.me.outer_is a e)))
            (λ _ _. refl) (λ _ _ _ e. e) (λ _ _ _ e. e) (λ _ _. refl) (λ _ _ e. e) (λ _ _ e. e)
            (λ a _ e. let z = (ok.held a e).0 in absurd (omega arith))
            (λ j ne e. absurd (ne (e ∙ sym known_now.seat))) r.unmade),
        refl,
      )

  pub takes_out : (st : Step (Option T)) (slots id : ℕ) (m : M) → st.word < n → Alone m.0 → m.0.out ≡ None → IsSome (place_at m.0.places st.word).kept
      → Allows (Ruled fit n) slots id m st.word (λ k. k) (tells.takes_out fit st m)
  takes_out st slots id m inside who home kept s r deep_is at small =
      let i : ℕ = st.word in
      let v : V = m.0 in
      let w : ℕ = get_or s.words i 0 in
      let known_now = known s r id v i inside at who.keeper in
      let is = known_now.places in
      let old : Place T = place_at v.places i in
      let ok = known_now.slot in
      let zero_is = ok.keeps kept in
      let in_place : r.outer i ≡ None = kept_home s r id v i known_now zero_is home in
      let outer' : ℕ → Option ℕ = put r.outer i (Some id) in
      let here = put_here r.outer i (Some id) i refl in
      let u : V = out_at v (Some i) in (
        u,
        takes i old.kept,
        ok.home zero_is in_place,
        at_slot fit n s r id v u i w none old v.places r.hold outer' inside at known_now.long refl (λ j _. ap (λ (ps : List (Place T)). place_at ps j) is)
            record {
              kept = ok.kept;
              keeps = ok.keeps;
              ready = λ e. absurd (omega arith);
              fits = ok.fits;
              offered = ok.offered;
              home = λ _ e. absurd (none_some id (sym e ∙ here));
              empty = λ _ e. absurd (none_some id (sym e ∙ here));
              ticks = ok.ticks;
              held = ok.held;
              found = ok.found;
              out_by = λ j e. inl (zero_is, some_same j id (sym e ∙ here) ∙ known_now.seat);
            }
            record {
              keeper_is = λ _. (known_now.seat, refl, known_now.made);
              worker = λ e. no_worker who.worker e;
              claims = λ e. no_worker who.worker e;
              out = λ a e. put_here r.outer i (Some id) a (sym (some_same i a e));
              outer_is = λ a e. dite (ℕ_discrete a i) (λ same. ap (λ (z : ℕ). Some z) (sym same)) (λ ne. absurd (none_some a (sym home ∙ known_now.me.outer_is a (sym (put_else r.outer i (Some id) a ne) ∙ e))));
            }
            (λ j ne. put_else r.outer i (Some id) j ne) (λ _ _ _ e. e) (λ _ _ _ e. e) (λ _ _. refl)
            (λ j ne e. absurd (none_some j (sym in_place ∙ e))) (λ j ne e. absurd (ne (some_same j id (sym e ∙ here))))
            (λ _ _ _. ap (λ (ps : List (Place T)). (place_at ps i).offered) is)
            (λ j ne e. absurd (ne (e ∙ sym known_now.seat))) r.unmade,
        (ok.fits, refl),
      )

  pub puts_back : (st : Step (Option T)) (slots id : ℕ) (m : M) (v : V) (x : T) → st.word < n → m ≡ (v, (st.word, Some x) ∷ []) → Alone v → v.out ≡ Some st.word → IsSome (place_at v.places st.word).kept
      → Allows (Ruled fit n) slots id m st.word (λ k. k) (tells.puts_back st m)
  puts_back st slots id m v x inside m_is who out kept = subst (λ (y : M). Allows (Ruled fit n) slots id y st.word (λ k. k) (tells.puts_back st y)) (sym m_is) (λ s r deep_is at small.
      let i : ℕ = st.word in
      let w : ℕ = get_or s.words i 0 in
      let known_now = known s r id v i inside at who.keeper in
      let is = known_now.places in
      let old : Place T = place_at v.places i in
      let ok = known_now.slot in
      let long = known_now.long in
      let zero_is = ok.keeps kept in
      let out_is = known_now.me.out i out in
      let outer' : ℕ → Option ℕ = put r.outer i None in
      let none_out = put_here r.outer i None i refl in
      let p : Place T = place (Some x) old.offered None in
      let u : V = knows v i p in (
        u,
        gives,
        tt,
        at_slot fit n s r id v u i w (some (Some x)) p (set v.places i p) r.hold outer' inside at (length-set v.places i p ∙ long) (get_or-set_same v.places i p nowhere (omega arith))
            (λ j ne. get_or-set_other v.places i j p nowhere ne ∙ ap (λ (ps : List (Place T)). place_at ps j) is)
            record {
              kept = λ _. refl;
              keeps = λ _. zero_is;
              ready = λ e. absurd (omega arith);
              fits = ok.fits;
              offered = ok.offered;
              home = λ _ _. refl;
              empty = λ e. absurd (omega arith);
              ticks = ok.ticks;
              held = ok.held;
              found = λ a e. absurd (none_some a e);
              out_by = λ j e. absurd (none_some j (sym none_out ∙ e));
            }
            (seat_knows s r id v i p outer' known_now who.worker (λ a e. dite (ℕ_discrete a i) (λ same. none_some id (sym (put_here r.outer i None a same) ∙ e))
            (λ ne. ne (some_same a i (sym (known_now.me.outer_is a (sym (put_else r.outer i None a ne) ∙ e)) ∙ out)))))
            (λ j ne. put_else r.outer i None j ne) (λ _ _ _ e. e) (λ _ _ _ e. e) (λ _ _. refl)
            (λ j ne e. absurd (ne (some_same j id (sym e ∙ out_is)))) (λ j ne e. absurd (none_some j (sym none_out ∙ e)))
            (λ _ _ _. ap (λ (ps : List (Place T)). (place_at ps i).offered) is)
            (λ j ne e. absurd (ne (e ∙ sym known_now.seat))) r.unmade,
        λ y same. let eq : x ≡ y = some_same x y (ap (λ (l : List (ℕ × Option T)). (get_or l 0 (0, Some x)).1) same) in ap (λ (z : T). (knows v i (place (Some z) old.offered None), [])) eq,
      ))
