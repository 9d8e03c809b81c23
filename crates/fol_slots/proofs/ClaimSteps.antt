-- The steps of a worker keep the rule.
use Rattle.std.proofs.Common.{◌≡◌, ℕ, ◌+◌, ◌-◌, ◌<◌, ◌≤◌, [], ◌∷◌, get_or, set, eqb, sym, refl, ap, ◌∙◌, subst, inl, inr, arith, Option, Some, None, true}
use mathlib.Core.Logic.{dite}
use mathlib.Core.Option.{some, none}
use native.Mathlib.Decide.{ℕ_discrete}
use prog.Atomic.{either}
use lib.ListN.{get_elem?}
use Rattle.std.proofs.lemmas.Bool.{cases_eq}
use Rattle.atomic_table.specs.Table.{Me, State, Step, Act, keeps, takes, gives, stepped, Valid, carried_after, Allows}
use Rattle.atomic_table.proofs.Lists.{exchanged}
use Rattle.fol_slots.specs.declared.view.View.{View}
use Rattle.fol_slots.specs.Words.{word_of}
use Rattle.fol_slots.specs.Hands.{place_at, Ruled}
use Rattle.fol_slots.specs.Steps.{claiming, missing, out_at}
use Rattle.fol_slots.specs.Steps as tells
use Rattle.fol_slots.proofs.Changes.{none_some, some_same, some_and, some_fit, put, put_here, put_else}
use Rattle.fol_slots.proofs.AtSlot.{at_slot, same_view, same_words, small_word}

module _ {T : Type 0} (fit : T → Type 0) (n : ℕ) where
  abbrev V : Type 0
  V = View T

  abbrev M : Type 0
  M = Me (Option T) V

  abbrev St : Type 0
  St = State (Option T) V

  -- the seat notes the word that it met
  misses : (st : Step (Option T)) (id : ℕ) (m : M) (s : St) → (r : Ruled fit n s) → st.word < n → get_elem? s.views id ≡ some m.0
      → Ruled fit n (stepped s st.word (get_or s.words st.word 0) id m.1 (missing m.0 st.word (word_of (get_or s.words st.word 0))) keeps)
  misses st id m s r inside at =
      let i : ℕ = st.word in
      let v : V = m.0 in
      let me = r.each_seat id v at in
      let u : V = missing v i (word_of (get_or s.words i 0)) in
      same_words fit n s i s.homes (set s.views id u) (same_view fit n s r id v u at record { keeper_is = me.keeper_is; worker = me.worker; claims = me.claims; out = me.out; outer_is = me.outer_is })

  pub looks : (st : Step (Option T)) (slots id : ℕ) (m : M) → st.word < n → Allows (Ruled fit n) slots id m st.word (λ k. k) (tells.looks st m)
  looks st slots id m inside s r deep_is at small =
      let i : ℕ = st.word in
      let v : V = m.0 in
      let w : ℕ = get_or s.words i 0 in
      let me = r.each_seat id v at in
      elim (cases_eq w 1) [
        | inl is ↦ (v, keeps, tt, same_words fit n s i s.homes (set s.views id v) (same_view fit n s r id v v at me), ((λ _. refl), λ other. absurd (other is)))
        | inr other ↦ (missing v i (word_of w), keeps, tt, misses st id m s r inside at, ((λ is. absurd (other is)), λ _. (small_word fit n s r i inside, refl)))
      ]

  pub claims : (st : Step (Option T)) (slots id : ℕ) (m : M) (new : ℕ) → st.word < n → m.0.worker ≡ true → new ≡ m.0.number + 1 → m.0.slot ≡ None → m.0.out ≡ None
      → Allows (Ruled fit n) slots id m st.word (λ k. either (eqb k 1) new k) (tells.claims fit st m)
  claims st slots id m new inside worker new_is free home s r deep_is at small =
      let i : ℕ = st.word in
      let v : V = m.0 in
      let w : ℕ = get_or s.words i 0 in
      let ok = r.each_slot i inside in
      let me = r.each_seat id v at in
      let mine = me.worker worker in
      let Goal : ℕ → Type 0 = λ k. (u : V) × (a : Act (Option T)) × Valid s.homes m.1 a × Ruled fit n (stepped s i k id m.1 u a) × tells.claims fit st m w (u, carried_after m.1 a) in
      exchanged w 1 new Goal
      (λ is.
      let ready = ok.ready is in
      let body = some_and (place_at r.ps i).offered fit (some_fit (place_at r.ps i).offered fit (ok.offered (omega arith)) ok.fits) in
      let x : T = body.0 in
      let u : V = claiming v i x in
      let hold' : ℕ → Option ℕ = put r.hold v.number (Some i) in
      let outer' : ℕ → Option ℕ = put r.outer i (Some id) in
      let low = mine.3 in
      let one_number : 1 ≤ v.number = mine.2 in
      let held_none : r.hold v.number ≡ None = mine.1 ∙ free in
      let out_now = put_here r.outer i (Some id) i refl in (
        u,
        takes i (Some x),
        ready.0 ∙ ap (λ (z : Option T). some (some z)) body.1,
        at_slot fit n s r id v u i new none (place_at r.ps i) r.ps hold' outer' inside at r.long refl (λ _ _. refl)
            record {
              kept = λ e. absurd (omega arith);
              keeps = λ e. let z = ok.keeps e in absurd (omega arith);
              ready = λ e. absurd (omega arith);
              fits = ok.fits;
              offered = λ _. ok.offered (omega arith);
              home = λ e. absurd (omega arith);
              empty = λ _ e. absurd (none_some id (sym e ∙ out_now));
              ticks = λ _. put_here r.hold v.number (Some i) (new - 1) (omega arith);
              held = λ k e. dite (ℕ_discrete k v.number) (λ same. (omega arith, omega arith))
                  (λ other. let z = ok.held k (sym (put_else r.hold v.number (Some i) k other) ∙ e) in let a = z.0 in let b = z.1 in absurd (omega arith));
              found = λ k e. let z = ok.found k e in let a = z.0 in let b = z.1 in absurd (omega arith);
              out_by = λ j e. let same : j ≡ id = some_same j id (sym e ∙ out_now) in inr (omega arith, same ∙ (sym mine.0 ∙ ap r.owner (let y : v.number ≡ new - 1 = omega arith in y)));
            }
            record {
              keeper_is = me.keeper_is;
              worker = λ _. (mine.0, put_here r.hold v.number (Some i) v.number refl, mine.2, mine.3);
              claims = λ _ k e. let same : i ≡ k = some_same i k e in (omega arith, sym body.1 ∙ ap (λ (z : ℕ). (place_at r.ps z).offered) same);
              out = λ k e. put_here r.outer i (Some id) k (sym (some_same i k e));
              outer_is = λ k e. dite (ℕ_discrete k i) (λ same. ap (λ (z : ℕ). Some z) (sym same))
                  (λ ne. let z = me.outer_is k (sym (put_else r.outer i (Some id) k ne) ∙ e) in absurd (none_some k (sym home ∙ z)));
            }
            (λ j ne. put_else r.outer i (Some id) j ne)
            (λ a j ne e. dite (ℕ_discrete a v.number) (λ same. absurd (ne (sym (some_same i j (sym (put_here r.hold v.number (Some i) a same) ∙ e))))) (λ other. sym (put_else r.hold v.number (Some i) a other) ∙ e))
            (λ a j ne e. dite (ℕ_discrete a v.number) (λ same. absurd (none_some j (sym held_none ∙ (ap r.hold (sym same) ∙ e)))) (λ other. put_else r.hold v.number (Some i) a other ∙ e))
            (λ a not_mine. put_else r.hold v.number (Some i) a (λ same. not_mine (ap r.owner same ∙ mine.0)))
            (λ j ne e. absurd (none_some j (sym ready.1 ∙ e))) (λ j ne e. absurd (ne (some_same j id (sym e ∙ out_now))))
            (λ _ _ _. refl) (λ _ _ _. refl)
            (λ a high. put_else r.hold v.number (Some i) a (λ e. omega arith) ∙ r.unmade a high),
        ((λ _. (x, refl, body.2)), λ ne. absurd (ne is)),
      ))
      (λ other. (missing v i (word_of w), keeps, tt, misses st id m s r inside at, ((λ is. absurd (other is)), λ _. (small_word fit n s r i inside, refl))))

  pub empties : (st : Step (Option T)) (slots id : ℕ) (m : M) (v : V) → st.word < n → m ≡ (v, (st.word, None) ∷ []) → v.worker ≡ true → v.slot ≡ Some st.word → v.out ≡ Some st.word
      → Allows (Ruled fit n) slots id m st.word (λ k. k) (tells.empties st m)
  empties st slots id m v inside m_is worker has out = subst (λ (x : M). Allows (Ruled fit n) slots id x st.word (λ k. k) (tells.empties st x)) (sym m_is) (λ s r deep_is at small.
      let i : ℕ = st.word in
      let ok = r.each_slot i inside in
      let me = r.each_seat id v at in
      let mine = me.worker worker in
      let here = ok.held v.number (mine.1 ∙ has) in
      let w_is = here.0 in
      let one = here.1 in
      let outer' : ℕ → Option ℕ = put r.outer i None in
      let none_out = put_here r.outer i None i refl in
      let out_is = me.out i out in
      let u : V = out_at v None in (
        u,
        gives,
        tt,
        at_slot fit n s r id v u i (get_or s.words i 0) (some None) (place_at r.ps i) r.ps r.hold outer' inside at r.long refl (λ _ _. refl)
            record {
              kept = ok.kept;
              keeps = ok.keeps;
              ready = λ e. absurd (omega arith);
              fits = ok.fits;
              offered = ok.offered;
              home = λ e. absurd (omega arith);
              empty = λ _ _. refl;
              ticks = ok.ticks;
              held = ok.held;
              found = ok.found;
              out_by = λ j e. absurd (none_some j (sym none_out ∙ e));
            }
            record {
              keeper_is = me.keeper_is;
              worker = me.worker;
              claims = me.claims;
              out = λ k e. absurd (none_some k e);
              outer_is = λ k e. dite (ℕ_discrete k i) (λ same. absurd (none_some id (sym (put_here r.outer i None k same) ∙ e)))
                  (λ ne. let z = me.outer_is k (sym (put_else r.outer i None k ne) ∙ e) in absurd (ne (some_same k i (sym z ∙ out))));
            }
            (λ j ne. put_else r.outer i None j ne) (λ _ _ _ e. e) (λ _ _ _ e. e) (λ _ _. refl)
            (λ j ne e. absurd (ne (some_same j id (sym e ∙ out_is)))) (λ j ne e. absurd (none_some j (sym none_out ∙ e))) (λ _ _ _. refl) (λ _ _ _. refl) r.unmade,
        refl,
      ))
