-- What stays so over a step at another slot or of another seat.
use Rattle.std.proofs.Common.{◌≡◌, ◌≢◌, ℕ, ◌-◌, ◌<◌, ◌≤◌, List, get_or, set, sym, ◌∙◌, subst, inl, inr, ⊎_elim, Option, Some, true}
use mathlib.Core.Logic.{dite}
use mathlib.Core.Option as maybe
use mathlib.Core.Option.{some}
use native.Mathlib.Decide.{ℕ_discrete}
use lib.ListN.{get_elem?}
use Rattle.atomic_table.proofs.Lists.{at_set}
use Rattle.fol_slots.specs.declared.view.Place.{Place}
use Rattle.fol_slots.specs.declared.view.View.{View}
use Rattle.fol_slots.specs.Hands.{place_at, SlotFits, SeatFits}

pub seats_stay : {V : Type 0} (K : ℕ → V → Type 0) (vs : List V) (me : ℕ) (w : V) → K me w → ((j : ℕ) (d : V) → j ≢ me → get_elem? vs j ≡ some d → K j d)
    → (j : ℕ) (d : V) → get_elem? (set vs me w) j ≡ some d → K j d
seats_stay {V} K vs me w mine others j d e = ⊎_elim (λ (t : (j ≡ me) × (w ≡ d)). subst (λ (x : ℕ × V). K x.0 x.1) (λ i. (sym t.0 i, t.1 i)) mine)
    (λ (t : (j ≢ me) × (get_elem? vs j ≡ some d)). others j d t.0 t.1) (at_set vs me j w d e)

-- what lies in a slot: nothing where there is no such slot, or where it is out
abbrev pub Home : Type 0 → Type 0
Home T = maybe.Option (maybe.Option (Option T))

module _ {T : Type 0} where
  pub at_same : (Q : ℕ → Home T → Place T → Type 0) (w w' : ℕ) (h h' : Home T) (p p' : Place T) → w' ≡ w → h' ≡ h → p' ≡ p → Q w h p → Q w' h' p'
  at_same Q w w' h h' p p' a b c q = subst (λ (x : ℕ × Home T × Place T). Q x.0 x.1 x.2) (λ i. (sym a i, sym b i, sym c i)) q

  pub slots_at : (Q : ℕ → ℕ → Home T → Place T → Type 0) (ws ws' : List ℕ) (hs hs' : List (maybe.Option (Option T))) (ps ps' : List (Place T)) (i n : ℕ)
      → Q i (get_or ws' i 0) (get_elem? hs' i) (place_at ps' i)
      → ((j : ℕ) → j ≢ i → (get_or ws' j 0 ≡ get_or ws j 0) × (get_elem? hs' j ≡ get_elem? hs j) × (place_at ps' j ≡ place_at ps j))
      → ((j : ℕ) → j < n → j ≢ i → Q j (get_or ws j 0) (get_elem? hs j) (place_at ps j))
      → (j : ℕ) → j < n → Q j (get_or ws' j 0) (get_elem? hs' j) (place_at ps' j)
  slots_at Q ws ws' hs hs' ps ps' i n mine same others j low = dite (ℕ_discrete j i)
      (λ e. subst (λ (x : ℕ). Q x (get_or ws' x 0) (get_elem? hs' x) (place_at ps' x)) (sym e) mine)
      (λ ne. let t = same j ne in at_same (Q j) _ _ _ _ _ _ t.0 t.1 t.2 (others j low ne))

  -- the slot is as it was, and so is what is said of it
  pub slot_stays : (fit : T → Type 0) (keeper : ℕ) (owner owner' : ℕ → ℕ) (hold hold' outer outer' : ℕ → Option ℕ) (i w : ℕ) (h : Home T) (p : Place T)
      → outer' i ≡ outer i → ((k : ℕ) → hold' k ≡ Some i → hold k ≡ Some i) → ((k : ℕ) → hold k ≡ Some i → hold' k ≡ Some i)
      → ((j : ℕ) → outer i ≡ Some j → 2 ≤ w → j ≡ owner (w - 1) → j ≡ owner' (w - 1))
      → SlotFits fit keeper owner hold outer i w h p → SlotFits fit keeper owner' hold' outer' i w h p
  slot_stays fit keeper owner owner' hold hold' outer outer' i w h p same back forth by ok = record {
    kept = ok.kept;
    keeps = ok.keeps;
    ready = λ e. let t = ok.ready e in (t.0, same ∙ t.1);
    fits = ok.fits;
    offered = ok.offered;
    home = λ e o. ok.home e (sym same ∙ o);
    empty = λ e o. ok.empty e (sym same ∙ o);
    ticks = λ e. forth (w - 1) (ok.ticks e);
    held = λ k e. ok.held k (back k e);
    found = ok.found;
    out_by = λ j e. ⊎_elim (λ (t : (w ≡ 0) × (j ≡ keeper)). inl t) (λ (t : (2 ≤ w) × (j ≡ owner (w - 1))). inr (t.0, by j (sym same ∙ e) t.0 t.1)) (ok.out_by j (sym same ∙ e));
  }

  pub seat_stays : (n keeper made made' : ℕ) (owner owner' : ℕ → ℕ) (hold hold' outer outer' : ℕ → Option ℕ) (ps ps' : List (Place T)) (j : ℕ) (v : View T)
      → (v.keeper ≡ true → j ≡ keeper → (ps' ≡ ps) × (made' ≡ made))
      → (v.worker ≡ true → owner v.number ≡ j → 1 ≤ v.number → v.number ≤ made → (owner' v.number ≡ j) × (hold' v.number ≡ hold v.number) × (v.number ≤ made'))
      → ((i : ℕ) → v.worker ≡ true → hold v.number ≡ Some i → (place_at ps' i).offered ≡ (place_at ps i).offered)
      → ((i : ℕ) → outer i ≡ Some j → outer' i ≡ Some j) → ((i : ℕ) → outer' i ≡ Some j → outer i ≡ Some j)
      → SeatFits n keeper made owner hold outer ps j v → SeatFits n keeper made' owner' hold' outer' ps' j v
  seat_stays n keeper made made' owner owner' hold hold' outer outer' ps ps' j v knows works offers forth back ok = record {
    keeper_is = λ e. let t = ok.keeper_is e in let u = knows e t.0 in (t.0, t.1 ∙ sym u.0, t.2 ∙ sym u.1);
    worker = λ e. let t = ok.worker e in let u = works e t.0 t.2 t.3 in (u.0, u.1 ∙ t.1, t.2, u.2);
    claims = λ e i at. let t = ok.worker e in let u = ok.claims e i at in (u.0, u.1 ∙ sym (offers i e (t.1 ∙ at)));
    out = λ i e. forth i (ok.out i e);
    outer_is = λ i e. ok.outer_is i (back i e);
  }
