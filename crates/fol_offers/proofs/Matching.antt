-- A region gets a slot, and loses it.
use Rattle.std.proofs.Common.{◌≡◌, ◌≢◌, ℕ, ◌<◌, List, length, set, sym, refl, ap, ◌∙◌, subst, cond, Bool, true, false, Option, Some, None, nat_eq, arith, length-set, get_or-set_other, get_or-set_same, inl, inr}
use Rattle.std.proofs.Math.ListN.{get_or-eq_default}
use Rattle.std.proofs.lemmas.Bool.Decides.{eqb_tells}
use Rattle.std.proofs.lemmas.Bool.{cases_lt, eq-eqb, ne_eqb}
use mathlib.Core.Logic.{dite}
use native.Mathlib.Decide.{ℕ_discrete}
use Rattle.fol_offers.specs.Places.{AreMatched, region_at, slot_in}

some_same : (a b : ℕ) → Some a ≡ Some b → a ≡ b
some_same a b e = cc

not_none : (a : ℕ) → None ≡ Some a → ⊥
not_none a e = cc

hit : {A : Type 0} (b : Bool) (x u v : A) → b ≡ true → x ≡ cond b u v → x ≡ u
hit b x u v e h = subst (λ (z : Bool). x ≡ cond z u v) e h

miss : {A : Type 0} (b : Bool) (x u v : A) → b ≡ false → x ≡ cond b u v → x ≡ v
miss b x u v e h = subst (λ (z : Bool). x ≡ cond z u v) e h

-- the slot of one region is changed
pub slot_set : (slots : List (Option ℕ)) (r : ℕ) (slot : Option ℕ) → r < length slots
    → (q : ℕ) → slot_in (set slots r slot) q ≡ cond (nat_eq r q) slot (slot_in slots q)
slot_set slots r slot inside q = elim (eqb_tells r q) [
  | inl k ↦ rw k.0 (ap (slot_in (set slots r slot)) (sym k.1) ∙ get_or-set_same slots r slot None inside)
  | inr k ↦ rw k.0 (get_or-set_other slots r q slot None (λ e. k.1 (sym e)))
]

-- a region with a slot is in the list
pub slot_below : (slots : List (Option ℕ)) (r i : ℕ) → slot_in slots r ≡ Some i → r < length slots
slot_below slots r i e = elim (cases_lt r (length slots)) [
  | inl l ↦ l
  | inr l ↦ absurd (not_none i (sym (get_or-eq_default slots None l) ∙ e))
]

module _ (xs : List ℕ) (slots slots' : List (Option ℕ)) (m : AreMatched xs slots) where
  pub same_matched : ((q : ℕ) → slot_in slots' q ≡ slot_in slots q) → AreMatched xs slots'
  same_matched same = record { there = λ q j e. m.there q j (sym (same q) ∙ e); all = λ j p. same (region_at xs j) ∙ m.all j p }

  pub put_matched : (r i : ℕ) → 0 < r → i < length xs → region_at xs i ≡ 0 → ((j : ℕ) → region_at xs j ≢ r)
      → ((q : ℕ) → slot_in slots' q ≡ cond (nat_eq r q) (Some i) (slot_in slots q)) → AreMatched (set xs i r) slots'
  put_matched r i some inside empty fresh updates = record {
    there = λ q j e. elim (eqb_tells r q) [
      | inl k ↦ let found : Some i ≡ Some j = sym (hit _ _ _ _ k.0 (updates q)) ∙ e in let same = some_same i j found in
          subst (λ (z : ℕ). (0 < q) × (z < length (set xs i r)) × (region_at (set xs i r) z ≡ q)) same
          (subst (λ (z : ℕ). 0 < z) k.1 some, (let l = length-set xs i r in omega (arith, l)), get_or-set_same xs i r 0 inside ∙ k.1)
      | inr k ↦ let old = m.there q j (sym (miss _ _ _ _ k.0 (updates q)) ∙ e) in
          (old.0, (let l = length-set xs i r in let o = old.1 in omega (arith, l)), get_or-set_other xs i j r 0 (λ same. let o = old.0 in let z = sym old.2 ∙ ap (region_at xs) same ∙ empty in omega arith) ∙ old.2)
    ];
    all = λ j p. dite (ℕ_discrete j i)
        (λ same. let here : region_at (set xs i r) j ≡ r = ap (region_at (set xs i r)) same ∙ get_or-set_same xs i r 0 inside in
        rw here (hit _ _ _ _ (eq-eqb r r refl) (updates r) ∙ ap (λ (z : ℕ). Some z) (sym same)))
        (λ ne. let here : region_at (set xs i r) j ≡ region_at xs j = get_or-set_other xs i j r 0 ne in
        let n = ne_eqb r (region_at xs j) (λ e. fresh j (sym e)) in
        rw here (miss _ _ _ _ n (updates (region_at xs j)) ∙ m.all j (subst (λ (z : ℕ). 0 < z) here p)));
  }

  pub clear_matched : (r i : ℕ) → i < length xs → region_at xs i ≡ r
      → ((q : ℕ) → slot_in slots' q ≡ cond (nat_eq r q) None (slot_in slots q)) → AreMatched (set xs i 0) slots'
  clear_matched r i inside is updates = record {
    there = λ q j e. elim (eqb_tells r q) [
      | inl k ↦ absurd (not_none j (sym (hit _ _ _ _ k.0 (updates q)) ∙ e))
      | inr k ↦ let old = m.there q j (sym (miss _ _ _ _ k.0 (updates q)) ∙ e) in
          (old.0, (let l = length-set xs i 0 in let o = old.1 in omega (arith, l)), get_or-set_other xs i j 0 0 (λ same. k.1 (sym is ∙ (ap (region_at xs) (sym same) ∙ old.2))) ∙ old.2)
    ];
    all = λ j p. dite (ℕ_discrete j i)
        (λ same. absurd (let z = ap (region_at (set xs i 0)) same ∙ get_or-set_same xs i 0 0 inside in omega arith))
        (λ ne. let here : region_at (set xs i 0) j ≡ region_at xs j = get_or-set_other xs i j 0 0 ne in
        let old = m.all j (subst (λ (z : ℕ). 0 < z) here p) in
        let n = ne_eqb r (region_at xs j) (λ d. let e : region_at xs i ≡ region_at xs j = is ∙ d in let a = m.all i (subst (λ (z : ℕ). 0 < z) (here ∙ sym e) p) in ne (sym (some_same i j (sym a ∙ (ap (λ (z : ℕ). slot_in slots z) e ∙ old))))) in
        rw here (miss _ _ _ _ n (updates (region_at xs j)) ∙ old));
  }
