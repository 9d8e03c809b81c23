-- Cutting a seat in two and joining two seats keep the rule.
use Rattle.std.proofs.Common.{◌≡◌, ◌≢◌, ℕ, ◌+◌, ◌<◌, List, [], ◌∷◌, ◌++◌, length, set, sym, refl, ap, ◌∙◌, subst, ⊎_elim, arith, length-set, length-append, Option, Some, None, true, false}
use mathlib.Core.Option.{some}
use lib.ListN.{get_elem?}
use Rattle.atomic_table.specs.Table.{Splits, Joins}
use Rattle.atomic_table.proofs.Lists.{set_else}
use Rattle.fol_slots.specs.declared.view.View.{View}
use Rattle.fol_slots.specs.Hands.{SeatFits, Ruled}
use Rattle.fol_slots.specs.Steps.{made_left, made_right, parted_left, parted_right, both_of, spent}
use Rattle.fol_slots.proofs.Changes.{not_true, none_some, at_end, put, put_here, put_else}
use Rattle.fol_slots.proofs.Frames.{seats_stay, slot_stays, seat_stays}

module _ {T : Type 0} (fit : T → Type 0) (n : ℕ) where
  abbrev V : Type 0
  V = View T

  -- a seat that knows of nothing
  idle_seat : (keeper made : ℕ) (owner : ℕ → ℕ) (hold outer : ℕ → Option ℕ) (ps : List _) (seat : ℕ) (v : V) → v.keeper ≡ false → v.worker ≡ false → v.out ≡ None → ((i : ℕ) → outer i ≡ Some seat → ⊥)
      → SeatFits n keeper made owner hold outer ps seat v
  idle_seat keeper made owner hold outer ps seat v no_keeper no_worker home none_out = record {
    keeper_is = λ e. absurd (not_true (sym no_keeper ∙ e));
    worker = λ e. absurd (not_true (sym no_worker ∙ e));
    claims = λ e. absurd (not_true (sym no_worker ∙ e));
    out = λ i e. absurd (none_some i (sym home ∙ e));
    outer_is = λ i e. absurd (none_out i e);
  }

  -- one seat more
  one_longer : (views : List V) (id j : ℕ) (u x : V) → j < length views → j < length (set views id u ++ x ∷ [])
  one_longer views id j u x low = let a = length-append (set views id u) (x ∷ []) in let b = length-set views id u in omega arith

  pub makes : (id : ℕ) (v : V) → v.keeper ≡ true → v.worker ≡ false → v.made + 2 < 4294967296 → Splits (Ruled fit n) id v (made_left v) (made_right v)
  makes id v keeper none_is room s r at =
      let me = r.each_seat id v at in
      let my = me.keeper_is keeper in
      let u : V = made_left v in
      let x : V = made_right v in
      let new : ℕ = length s.views in
      let number : ℕ = v.made + 1 in
      let made_is = my.2 in
      let owner' : ℕ → ℕ = put r.owner number new in
      let unheld : r.hold number ≡ None = r.unmade number (omega arith) in
      let K : ℕ → V → Type 0 = SeatFits n r.keeper (r.made + 1) owner' r.hold r.outer r.ps in record {
        keeper = r.keeper;
        made = r.made + 1;
        owner = owner';
        hold = r.hold;
        outer = r.outer;
        ps = r.ps;
        wide = r.wide;
        deep = r.deep;
        long = r.long;
        few = omega arith;
        unmade = λ a high. r.unmade a (omega arith);
        seated = λ i j e. one_longer s.views id j u x (r.seated i j e);
        each_slot = λ i low. let ok = r.each_slot i low in slot_stays fit r.keeper r.owner owner' r.hold r.hold r.outer r.outer i _ _ _ refl (λ _ e. e) (λ _ e. e)
            (λ j e two is. is ∙ sym (put_else r.owner number new _ (λ same. none_some i (sym unheld ∙ (ap r.hold (sym same) ∙ ok.ticks two))))) ok;
        each_seat = λ j d there. ⊎_elim
            (seats_stay K s.views id u
            record {
              keeper_is = λ _. (my.0, my.1, ap (λ (a : ℕ). a + 1) my.2);
              worker = λ e. absurd (not_true (sym none_is ∙ e));
              claims = λ e. absurd (not_true (sym none_is ∙ e));
              out = me.out;
              outer_is = me.outer_is;
            }
            (λ j d other here. let ok = r.each_seat j d here in seat_stays n r.keeper r.made (r.made + 1) r.owner owner' r.hold r.hold r.outer r.outer r.ps r.ps j d
            (λ _ is. absurd (other (is ∙ sym my.0)))
            (λ _ owned _ low. (put_else r.owner number new d.number (λ e. omega arith) ∙ owned, refl, omega arith))
            (λ _ _ _. refl) (λ _ e. e) (λ _ e. e) ok)
            j d)
            (λ (h : (j ≡ length (set s.views id u)) × (x ≡ d)).
            let here : j ≡ new = h.0 ∙ length-set s.views id u in
            subst (λ (y : ℕ × V). K y.0 y.1) (λ i. (sym here i, h.1 i)) record {
              keeper_is = λ e. absurd (not_true e);
              worker = λ _. (put_here r.owner number new number refl, unheld, omega arith, omega arith);
              claims = λ _ i e. absurd (none_some i e);
              out = λ i e. absurd (none_some i e);
              outer_is = λ i e. let z = r.seated i new e in absurd (omega arith);
            })
            (at_end (set s.views id u) x d j there);
      }

  pub parts : (id : ℕ) (v : V) → v.keeper ≡ true → v.worker ≡ true → v.out ≡ None → Splits (Ruled fit n) id v (parted_left v) (parted_right v)
  parts id v keeper worker home s r at =
      let me = r.each_seat id v at in
      let my = me.keeper_is keeper in
      let mine = me.worker worker in
      let u : V = parted_left v in
      let x : V = parted_right v in
      let new : ℕ = length s.views in
      let owner' : ℕ → ℕ = put r.owner v.number new in
      let K : ℕ → V → Type 0 = SeatFits n r.keeper r.made owner' r.hold r.outer r.ps in record {
        keeper = r.keeper;
        made = r.made;
        owner = owner';
        hold = r.hold;
        outer = r.outer;
        ps = r.ps;
        wide = r.wide;
        deep = r.deep;
        long = r.long;
        few = r.few;
        unmade = r.unmade;
        seated = λ i j e. one_longer s.views id j u x (r.seated i j e);
        each_slot = λ i low. let ok = r.each_slot i low in slot_stays fit r.keeper r.owner owner' r.hold r.hold r.outer r.outer i _ _ _ refl (λ _ e. e) (λ _ e. e)
            (λ j e two is. is ∙ sym (put_else r.owner v.number new _ (λ same. none_some i (sym home ∙ me.outer_is i (e ∙ ap (λ (a : ℕ). Some a) (is ∙ (ap r.owner same ∙ mine.0))))))) ok;
        each_seat = λ j d there. ⊎_elim
            (seats_stay K s.views id u
            record {
              keeper_is = λ _. my;
              worker = λ e. absurd (not_true e);
              claims = λ e. absurd (not_true e);
              out = me.out;
              outer_is = me.outer_is;
            }
            (λ j d other here. let ok = r.each_seat j d here in seat_stays n r.keeper r.made r.made r.owner owner' r.hold r.hold r.outer r.outer r.ps r.ps j d
            (λ _ _. (refl, refl))
            (λ _ owned _ low. (put_else r.owner v.number new d.number (λ e. other (sym owned ∙ (ap r.owner e ∙ mine.0))) ∙ owned, refl, low))
            (λ _ _ _. refl) (λ _ e. e) (λ _ e. e) ok)
            j d)
            (λ (h : (j ≡ length (set s.views id u)) × (x ≡ d)).
            let here : j ≡ new = h.0 ∙ length-set s.views id u in
            subst (λ (y : ℕ × V). K y.0 y.1) (λ i. (sym here i, h.1 i)) record {
              keeper_is = λ e. absurd (not_true e);
              worker = λ _. (put_here r.owner v.number new v.number refl, mine.1, mine.2, mine.3);
              claims = λ _. me.claims worker;
              out = λ i e. absurd (none_some i e);
              outer_is = λ i e. let z = r.seated i new e in absurd (omega arith);
            })
            (at_end (set s.views id u) x d j there);
      }

  pub joins : (id : ℕ) (v : V) (other : ℕ) (w : V) → v.keeper ≡ true → w.worker ≡ true → w.out ≡ None → Joins (Ruled fit n) id v other w (both_of v w) spent
  joins id v other w keeper worker home s r at apart at_other =
      let b : V = both_of v w in
      let there : get_elem? s.views other ≡ some w = sym (set_else s.views id other b apart) ∙ at_other in
      let me = r.each_seat id v at in
      let my = me.keeper_is keeper in
      let it = r.each_seat other w there in
      let its = it.worker worker in
      let owner' : ℕ → ℕ = put r.owner w.number id in
      let vs : List V = set s.views id b in
      let K : ℕ → V → Type 0 = SeatFits n r.keeper r.made owner' r.hold r.outer r.ps in record {
        keeper = r.keeper;
        made = r.made;
        owner = owner';
        hold = r.hold;
        outer = r.outer;
        ps = r.ps;
        wide = r.wide;
        deep = r.deep;
        long = r.long;
        few = r.few;
        unmade = r.unmade;
        seated = λ i j e. let low = r.seated i j e in let a : length (set vs other spent) ≡ length vs = length-set vs other spent in let c = length-set s.views id b in omega arith;
        each_slot = λ i low. let ok = r.each_slot i low in slot_stays fit r.keeper r.owner owner' r.hold r.hold r.outer r.outer i _ _ _ refl (λ _ e. e) (λ _ e. e)
            (λ j e two is. is ∙ sym (put_else r.owner w.number id _ (λ same. none_some i (sym home ∙ it.outer_is i (e ∙ ap (λ (a : ℕ). Some a) (is ∙ (ap r.owner same ∙ its.0))))))) ok;
        each_seat = seats_stay K vs other spent
            (idle_seat r.keeper r.made owner' r.hold r.outer r.ps other spent refl refl refl (λ i e. none_some i (sym home ∙ it.outer_is i e)))
            (λ j d not_other in_vs. seats_stay (λ (a : ℕ) (d : V). a ≢ other → K a d) s.views id b
            (λ _. record {
              keeper_is = λ _. my;
              worker = λ _. (put_here r.owner w.number id w.number refl, its.1, its.2, its.3);
              claims = λ _. it.claims worker;
              out = me.out;
              outer_is = me.outer_is;
            })
            (λ j d not_me here not_other. seat_stays n r.keeper r.made r.made r.owner owner' r.hold r.hold r.outer r.outer r.ps r.ps j d
            (λ _ _. (refl, refl))
            (λ _ owned _ low. (put_else r.owner w.number id d.number (λ e. not_other (sym owned ∙ (ap r.owner e ∙ its.0))) ∙ owned, refl, low))
            (λ _ _ _. refl) (λ _ e. e) (λ _ e. e) (r.each_seat j d here))
            j d in_vs not_other);
      }
