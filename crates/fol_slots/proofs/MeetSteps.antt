-- The steps of the keeper's seat with a worker's seat joined into it keep the rule.
use Rattle.std.proofs.Common.{◌≡◌, ℕ, ◌+◌, ◌-◌, ◌<◌, ◌≤◌, List, [], ◌∷◌, get_or, set, sym, refl, ap, ◌∙◌, subst, inr, ⊎_elim, arith, length-set, get_or-set_other, get_or-set_same, Option, Some, None, IsSomeAnd, true}
use mathlib.Core.Logic.{dite}
use mathlib.Core.Option.{some, none}
use native.Mathlib.Decide.{ℕ_discrete}
use lib.ListN.{get_elem?}
use Rattle.atomic_table.specs.Table.{State, Me, Step, keeps, takes, gives, Allows}
use Rattle.fol_slots.specs.declared.view.Place.{Place}
use Rattle.fol_slots.specs.declared.view.View.{View}
use Rattle.fol_slots.specs.Hands.{place, place_at, FoundOnlyAt, Ruled}
use Rattle.fol_slots.specs.Steps.{knows, out_at, taking_in, Met}
use Rattle.fol_slots.specs.Steps as tells
use Rattle.fol_slots.proofs.Changes.{none_some, some_same, none_of, some_of, some_fit, put, put_here, put_else}
use Rattle.fol_slots.proofs.AtSlot.{at_slot, same_homes}
use Rattle.fol_slots.proofs.KeepSteps.{Known, found_only, known}

abbrev nowhere : {T : Type 0} → Place T
nowhere = place None None None

-- the keeper's seat, into which the seat of a worker that holds slot i was joined
pub record Joined {T : Type 0} (i : ℕ) (v : View T) : Type 0 where
  pub keeper : v.keeper ≡ true
  pub worker : v.worker ≡ true
  pub slot : v.slot ≡ Some i

module _ {T : Type 0} (fit : T → Type 0) (n : ℕ) where
  abbrev V : Type 0
  V = View T

  abbrev M : Type 0
  M = Me (Option T) V

  -- What the rule says of the slot that the joined worker holds.
  record Holder (s : State (Option T) V) (r : Ruled fit n s) (id : ℕ) (v : V) (i : ℕ) : Type 0 where
    known_now : Known fit n s r id v i
    owned : r.owner v.number ≡ id
    holds : r.hold v.number ≡ Some i
    positive : 1 ≤ v.number
    given_out : v.number ≤ r.made
    word : get_or s.words i 0 ≡ v.number + 1
    claimed : v.claimed ≡ (place_at v.places i).offered
    owner : r.owner (get_or s.words i 0 - 1) ≡ id

  holder : (s : State (Option T) V) (r : Ruled fit n s) (id : ℕ) (v : V) (i : ℕ) → i < n → get_elem? s.views id ≡ some v → Joined i v → Holder s r id v i
  holder s r id v i inside at who =
      let k = known fit n s r id v i inside at who.keeper in
      let mine = k.me.worker who.worker in
      let has = k.me.claims who.worker i who.slot in
      let here = k.slot.held v.number (mine.1 ∙ who.slot) in
      let w_is = here.0 in record {
        known_now = k;
        owned = mine.0;
        holds = mine.1 ∙ who.slot;
        positive = mine.2;
        given_out = mine.3;
        word = w_is;
        claimed = has.1 ∙ ap (λ (ps : List (Place T)). (place_at ps i).offered) (sym k.places);
        owner = ap r.owner (let z : get_or s.words i 0 - 1 ≡ v.number = omega arith in z) ∙ mine.0;
      }

  met : (s : State (Option T) V) (r : Ruled fit n s) (id : ℕ) (v : V) (i : ℕ) → Holder s r id v i → Met fit v i (get_or s.words i 0)
  met s r id v i h =
      let slot = h.known_now.slot in
      let w_is = h.word in record {
        word = h.word;
        positive = h.positive;
        few = (let most = h.given_out in let all = h.known_now.made in omega (arith, most, all));
        only = subst (λ (ps : List (Place T)). FoundOnlyAt ps v.number i) (sym h.known_now.places) (found_only fit n s r v.number i h.holds);
        found = λ k e. let z = slot.found k e in let y = z.0 in omega arith;
        not_kept = none_of (place_at v.places i).kept (λ e. let z = slot.keeps e in omega arith);
        claimed = h.claimed;
        fits = subst (λ (o : Option T). IsSomeAnd o fit) (sym h.claimed) (some_fit (place_at v.places i).offered fit (slot.offered (let one = h.positive in omega arith)) slot.fits);
      }

  -- the slot is at home, empty, while the joined seat does not have it out
  home_empty : (s : State (Option T) V) (r : Ruled fit n s) (id : ℕ) (v : V) (i : ℕ) → Holder s r id v i → v.out ≡ None → (r.outer i ≡ None) × (get_elem? s.homes i ≡ some (some None))
  home_empty s r id v i h home =
      let w : ℕ = get_or s.words i 0 in
      let slot = h.known_now.slot in
      let w_is = h.word in
      let one = h.positive in
      let in_place : r.outer i ≡ None = none_of (r.outer i) (λ some_out. let out = some_of (r.outer i) some_out in ⊎_elim
      (λ (t : (w ≡ 0) × (out.0 ≡ r.keeper)). let z = t.0 in absurd (omega arith))
      (λ (t : (2 ≤ w) × (out.0 ≡ r.owner (w - 1))). none_some i (sym home ∙ h.known_now.me.outer_is i (out.1 ∙ ap (λ (a : ℕ). Some a) (t.1 ∙ h.owner))))
      (slot.out_by out.0 out.1)) in
      (in_place, slot.empty (omega arith) in_place)

  pub meets : (st : Step (Option T)) (slots id : ℕ) (m : M) → st.word < n → Joined st.word m.0 → m.0.out ≡ None → Allows (Ruled fit n) slots id m st.word (λ k. k) (tells.meets fit st m)
  meets st slots id m inside who home s r deep_is at small =
      let i : ℕ = st.word in
      let v : V = m.0 in
      let w : ℕ = get_or s.words i 0 in
      let h = holder s r id v i inside at who in
      let k = h.known_now in
      let is = k.places in
      let long = k.long in
      let w_is = h.word in
      let one = h.positive in
      let old : Place T = place_at v.places i in
      let ok = k.slot in
      let at_home = home_empty s r id v i h home in
      let p : Place T = place old.kept old.offered (Some (w - 1)) in
      let u : V = knows v i p in
      let p_here : place_at (set v.places i p) i ≡ p = get_or-set_same v.places i p nowhere (omega arith) in (
        u,
        keeps,
        tt,
        same_homes fit n s i (some None) (set s.words i w) (set s.views id u) at_home.1 (at_slot fit n s r id v u i w (some None) p (set v.places i p) r.hold r.outer inside at (length-set v.places i p ∙ long) p_here
            (λ j ne. get_or-set_other v.places i j p nowhere ne ∙ ap (λ (ps : List (Place T)). place_at ps j) is)
            record {
              kept = ok.kept;
              keeps = ok.keeps;
              ready = λ e. absurd (omega arith);
              fits = ok.fits;
              offered = ok.offered;
              home = λ e. absurd (omega arith);
              empty = λ _ _. refl;
              ticks = ok.ticks;
              held = ok.held;
              found = λ a e. let same : w - 1 ≡ a = some_same (w - 1) a e in (omega arith, omega arith);
              out_by = ok.out_by;
            }
            record {
              keeper_is = λ _. (k.seat, refl, k.made);
              worker = k.me.worker;
              claims = λ _ a e. let same : i ≡ a = some_same i a (sym who.slot ∙ e) in (omega arith, h.claimed ∙ (ap (λ (z : Place T). z.offered) (sym p_here) ∙ ap (λ (z : ℕ). (place_at (set v.places i p) z).offered) same));
              out = λ a e. absurd (none_some a e);
              outer_is = λ a e. absurd (none_some a (sym home ∙ k.me.outer_is a e));
            }
            (λ _ _. refl) (λ _ _ _ e. e) (λ _ _ _ e. e) (λ _ _. refl) (λ _ _ e. e) (λ _ _ e. e)
            (λ _ _ _. ap (λ (ps : List (Place T)). (place_at ps i).offered) is)
            (λ j ne e. absurd (ne (e ∙ sym k.seat))) r.unmade),
        (met s r id v i h, refl),
      )

  pub meets_out : (st : Step (Option T)) (slots id : ℕ) (m : M) → st.word < n → Joined st.word m.0 → m.0.out ≡ None → Allows (Ruled fit n) slots id m st.word (λ k. k) (tells.meets_out fit st m)
  meets_out st slots id m inside who home s r deep_is at small =
      let i : ℕ = st.word in
      let v : V = m.0 in
      let w : ℕ = get_or s.words i 0 in
      let h = holder s r id v i inside at who in
      let k = h.known_now in
      let is = k.places in
      let w_is = h.word in
      let one = h.positive in
      let old : Place T = place_at v.places i in
      let ok = k.slot in
      let at_home = home_empty s r id v i h home in
      let outer' : ℕ → Option ℕ = put r.outer i (Some id) in
      let out_now = put_here r.outer i (Some id) i refl in
      let u : V = out_at v (Some i) in (
        u,
        takes i None,
        at_home.1,
        at_slot fit n s r id v u i w none old v.places r.hold outer' inside at k.long refl (λ j _. ap (λ (ps : List (Place T)). place_at ps j) is)
            record {
              kept = ok.kept;
              keeps = ok.keeps;
              ready = λ e. absurd (omega arith);
              fits = ok.fits;
              offered = ok.offered;
              home = λ _ e. absurd (none_some id (sym e ∙ out_now));
              empty = λ _ e. absurd (none_some id (sym e ∙ out_now));
              ticks = ok.ticks;
              held = ok.held;
              found = ok.found;
              out_by = λ j e. inr (omega arith, some_same j id (sym e ∙ out_now) ∙ sym h.owner);
            }
            record {
              keeper_is = λ _. (k.seat, refl, k.made);
              worker = k.me.worker;
              claims = λ _ a e. let same : i ≡ a = some_same i a (sym who.slot ∙ e) in (omega arith, h.claimed ∙ ap (λ (z : ℕ). (place_at v.places z).offered) same);
              out = λ a e. put_here r.outer i (Some id) a (sym (some_same i a e));
              outer_is = λ a e. dite (ℕ_discrete a i) (λ same. ap (λ (z : ℕ). Some z) (sym same)) (λ ne. absurd (none_some a (sym home ∙ k.me.outer_is a (sym (put_else r.outer i (Some id) a ne) ∙ e))));
            }
            (λ j ne. put_else r.outer i (Some id) j ne) (λ _ _ _ e. e) (λ _ _ _ e. e) (λ _ _. refl)
            (λ j ne e. absurd (none_some j (sym at_home.0 ∙ e))) (λ j ne e. absurd (ne (some_same j id (sym e ∙ out_now))))
            (λ _ _ _. ap (λ (ps : List (Place T)). (place_at ps i).offered) is)
            (λ j ne e. absurd (ne (e ∙ sym k.seat))) r.unmade,
        (met s r id v i h, refl),
      )

  pub takes_in : (st : Step (Option T)) (slots id : ℕ) (m : M) (v : V) (x : T) → st.word < n → m ≡ (v, (st.word, Some x) ∷ []) → Joined st.word v → v.out ≡ Some st.word
      → Allows (Ruled fit n) slots id m st.word (λ _. 0) (λ _. tells.takes_in st m 0)
  takes_in st slots id m v x inside m_is who out = subst (λ (y : M). Allows (Ruled fit n) slots id y st.word (λ _. 0) (λ _. tells.takes_in st y 0)) (sym m_is) (λ s r deep_is at small.
      let i : ℕ = st.word in
      let w : ℕ = get_or s.words i 0 in
      let h = holder s r id v i inside at who in
      let k = h.known_now in
      let is = k.places in
      let long = k.long in
      let old : Place T = place_at v.places i in
      let ok = k.slot in
      let w_is = h.word in
      let one = h.positive in
      let out_is = k.me.out i out in
      let outer' : ℕ → Option ℕ = put r.outer i None in
      let none_out = put_here r.outer i None i refl in
      let hold' : ℕ → Option ℕ = put r.hold v.number None in
      let p : Place T = place (Some x) old.offered None in
      let u : V = taking_in v i p in (
        u,
        gives,
        tt,
        at_slot fit n s r id v u i 0 (some (Some x)) p (set v.places i p) hold' outer' inside at (length-set v.places i p ∙ long) (get_or-set_same v.places i p nowhere (omega arith))
            (λ j ne. get_or-set_other v.places i j p nowhere ne ∙ ap (λ (ps : List (Place T)). place_at ps j) is)
            record {
              kept = λ _. refl;
              keeps = λ _. refl;
              ready = λ e. absurd (omega arith);
              fits = ok.fits;
              offered = λ e. absurd (omega arith);
              home = λ _ _. refl;
              empty = λ e. absurd (omega arith);
              ticks = λ e. absurd (omega arith);
              held = λ a e. dite (ℕ_discrete a v.number) (λ same. absurd (none_some i (sym (put_here r.hold v.number None a same) ∙ e)))
                  (λ ne. let z = (ok.held a (sym (put_else r.hold v.number None a ne) ∙ e)).0 in absurd (ne (omega arith)));
              found = λ a e. absurd (none_some a e);
              out_by = λ j e. absurd (none_some j (sym none_out ∙ e));
            }
            record {
              keeper_is = λ _. (k.seat, refl, k.made);
              worker = λ _. (h.owned, put_here r.hold v.number None v.number refl, h.positive, h.given_out);
              claims = λ _ a e. absurd (none_some a e);
              out = λ a e. absurd (none_some a e);
              outer_is = λ a e. dite (ℕ_discrete a i) (λ same. absurd (none_some id (sym (put_here r.outer i None a same) ∙ e)))
                  (λ ne. absurd (ne (some_same a i (sym (k.me.outer_is a (sym (put_else r.outer i None a ne) ∙ e)) ∙ out))));
            }
            (λ j ne. put_else r.outer i None j ne)
            (λ a j ne e. dite (ℕ_discrete a v.number) (λ same. absurd (none_some j (sym (put_here r.hold v.number None a same) ∙ e))) (λ other. sym (put_else r.hold v.number None a other) ∙ e))
            (λ a j ne e. dite (ℕ_discrete a v.number) (λ same. absurd (ne (some_same j i (sym e ∙ (ap r.hold same ∙ h.holds))))) (λ other. put_else r.hold v.number None a other ∙ e))
            (λ a not_mine. put_else r.hold v.number None a (λ same. not_mine (ap r.owner same ∙ h.owned)))
            (λ j ne e. absurd (ne (some_same j id (sym e ∙ out_is)))) (λ j ne e. absurd (none_some j (sym none_out ∙ e)))
            (λ _ _ _. ap (λ (ps : List (Place T)). (place_at ps i).offered) is)
            (λ j ne e. absurd (ne (e ∙ sym k.seat)))
            (λ a high. dite (ℕ_discrete a v.number) (λ same. put_here r.hold v.number None a same) (λ other. put_else r.hold v.number None a other ∙ r.unmade a high)),
        λ y same. let eq : x ≡ y = some_same x y (ap (λ (l : List (ℕ × Option T)). (get_or l 0 (0, Some x)).1) same) in ap (λ (z : T). (taking_in v i (place (Some z) old.offered None), [])) eq,
      ))
