-- The slots that are not in use.
use Rattle.std.proofs.Common.{◌≡◌, ◌≢◌, ℕ, zero, suc, ◌<◌, ◌≤◌, ◌+◌, ◌-◌, ◌*◌, List, [], ◌∷◌, ◌++◌, length, set, replicate, sym, refl, ap, ◌∙◌, subst, cond, Bool, false, nat_eq, arith, length-set, get_or-set_other, get_or-set_same, inl, inr, length-append, Some}
use Rattle.std.specs.Prelude.{slice_get}
use Rattle.std.specs.List.{count_by}
use Rattle.std.proofs.Math.ListN.{get_or-append}
use Rattle.std.proofs.Math.Seq.{get_or-append_seam}
use Rattle.std.proofs.lemmas.Bool.{ne_eqb}
use Rattle.std.proofs.lemmas.Bool.Decides.{leb_tells}
use Rattle.std.proofs.lemmas.List.{length-replicate}
use Rattle.std.proofs.lemmas.List.Folds.{sum_by-replicate}
use Rattle.std.proofs.lemmas.List.Sums.{count_by-le-length, sum_by-set}
use Rattle.fol_offers.specs.Places.{AreFree, region_at, slot_at}

-- 1 for a slot that is not in use
abbrev bit : ℕ → ℕ
bit r = cond (nat_eq 0 r) 1 0

used : (r : ℕ) → 0 < r → bit r ≡ 0
used r some = let off : nat_eq 0 r ≡ false = ne_eqb 0 r (λ e. omega (arith, e, some)) in ap (λ (b : Bool). cond {A = ℕ} b 1 0) off

pub none_at : (n i : ℕ) → region_at (replicate n 0) i ≡ 0
none_at zero i = refl
none_at (suc n) zero = refl
none_at (suc n) (suc i) = none_at n i

-- the last element of a list
pub last_at : (xs : List ℕ) (x : ℕ) → slice_get xs (length xs - 1) ≡ Some x → (0 < length xs) × (slot_at xs (length xs - 1) ≡ x)
last_at xs x e = (inside xs (length xs - 1) e, value xs (length xs - 1) e)
  where
    inside : (ys : List ℕ) (k : ℕ) → slice_get ys k ≡ Some x → 0 < length ys
    inside [] k e = absurd (cc)
    inside (y ∷ ys) k e = omega arith

    value : (ys : List ℕ) (k : ℕ) → slice_get ys k ≡ Some x → slot_at ys k ≡ x
    value [] k e = absurd (cc)
    value (y ∷ ys) zero e = cc
    value (y ∷ ys) (suc k) e = value ys k e

-- at first
pub all_free : (n : ℕ) (slots : List ℕ) → length slots ≡ n → ((k : ℕ) → k < n → slot_at slots k ≡ n - 1 - k) → AreFree (replicate n 0) slots
all_free n slots count each = let long : length {A = ℕ} (replicate n 0) ≡ n = length-replicate n 0 in record {
  inside = λ k low. let is = each k (omega (arith, low, count)) in omega (arith, is, low, count, long);
  unused = λ k low. none_at n (slot_at slots k);
  apart = λ j k low_j low_k same. let a = each j (omega (arith, low_j, count)) in let b = each k (omega (arith, low_k, count)) in omega (arith, a, b, same, low_j, low_k, count);
  count = count ∙ sym (let all : count_by (nat_eq 0) (replicate n 0) ≡ n * 1 = sum_by-replicate bit n 0 in omega (arith, all));
}

module _ (regions free : List ℕ) (are : AreFree regions free) (i : ℕ) where
  -- the last of them is in use then
  pub free_taken : (rest : List ℕ) (r : ℕ) → free ≡ rest ++ i ∷ [] → 0 < r → AreFree (set regions i r) rest
  free_taken rest r is some =
      let n : ℕ = length rest in
      let long : length free ≡ n + 1 = ap length is ∙ length-append rest (i ∷ []) in
      let size : length (set regions i r) ≡ length regions = length-set regions i r in
      let here : slot_at free n ≡ i = ap (λ (l : List ℕ). slot_at l n) is ∙ get_or-append_seam rest i [] 0 in
      let before : (k : ℕ) → k < n → slot_at free k ≡ slot_at rest k = λ k low. ap (λ (l : List ℕ). slot_at l k) is ∙ get_or-append rest (i ∷ []) 0 k low in
      let low_i : i < length regions = subst (λ (x : ℕ). x < length regions) here (are.inside n (omega (arith, long))) in
      let empty : region_at regions i ≡ 0 = subst (λ (x : ℕ). region_at regions x ≡ 0) here (are.unused n (omega (arith, long))) in
      record {
        inside = λ k low. let a = are.inside k (omega (arith, long, low)) in let b = before k low in omega (arith, a, b, size);
        unused = λ k low.
            let other : slot_at rest k ≢ i = λ e. let same = are.apart k n (omega (arith, long, low)) (omega (arith, long)) (before k low ∙ (e ∙ sym here)) in omega (arith, same, low) in
            get_or-set_other regions i (slot_at rest k) r 0 other ∙ (ap (region_at regions) (sym (before k low)) ∙ are.unused k (omega (arith, long, low)));
        apart = λ j k low_j low_k e. are.apart j k (omega (arith, long, low_j)) (omega (arith, long, low_k)) (before j low_j ∙ (e ∙ sym (before k low_k)));
        count =
            let sum = sum_by-set bit regions i r 0 low_i in
            let one : bit (region_at regions i) ≡ 1 = ap bit empty in
            let none = used r some in
            let all = are.count in
            omega (arith, sum, one, none, all, long);
      }

  -- there is room for a slot that is in use
  pub free_room : i < length regions → 0 < region_at regions i → length free < length regions
  free_room low some =
      let sum = sum_by-set bit regions i 0 0 low in
      let none = used (region_at regions i) some in
      let most = count_by-le-length (nat_eq 0) (set regions i 0) in
      let size = length-set regions i 0 in
      let all = are.count in
      omega (arith, sum, none, most, size, all)

  -- it is free again
  pub free_again : i < length regions → 0 < region_at regions i → AreFree (set regions i 0) (free ++ i ∷ [])
  free_again low some =
      let n : ℕ = length free in
      let long : length (free ++ i ∷ []) ≡ n + 1 = length-append free (i ∷ []) in
      let size : length (set regions i 0) ≡ length regions = length-set regions i 0 in
      let here : slot_at (free ++ i ∷ []) n ≡ i = get_or-append_seam free i [] 0 in
      let before : (k : ℕ) → k < n → slot_at (free ++ i ∷ []) k ≡ slot_at free k = λ k l. get_or-append free (i ∷ []) 0 k l in
      let other : (k : ℕ) → k < n → slot_at free k ≢ i = λ k l e. let z = are.unused k l in let y = ap (region_at regions) e in omega (arith, z, y, some) in
      let at_end : (k : ℕ) → k < length (free ++ i ∷ []) → n ≤ k → k ≡ n = λ k l up. omega (arith, l, up, long) in
      record {
        inside = λ k l. elim (leb_tells n k) [
          | inl y ↦ let same = at_end k l y.1 in let e : slot_at (free ++ i ∷ []) k ≡ i = ap (slot_at (free ++ i ∷ [])) same ∙ here in omega (arith, e, low, size)
          | inr y ↦ let e = before k y.1 in let a = are.inside k y.1 in omega (arith, e, a, size)
        ];
        unused = λ k l. elim (leb_tells n k) [
          | inl y ↦ let same = at_end k l y.1 in ap (region_at (set regions i 0)) (ap (slot_at (free ++ i ∷ [])) same ∙ here) ∙ get_or-set_same regions i 0 0 low
          | inr y ↦ ap (region_at (set regions i 0)) (before k y.1) ∙ (get_or-set_other regions i (slot_at free k) 0 0 (other k y.1) ∙ are.unused k y.1)
        ];
        apart = λ j k lj lk e. elim (leb_tells n j) [
          | inl y ↦ elim (leb_tells n k) [
            | inl z ↦ at_end j lj y.1 ∙ sym (at_end k lk z.1)
            | inr z ↦ absurd (other k z.1 (sym (before k z.1) ∙ (sym e ∙ (ap (slot_at (free ++ i ∷ [])) (at_end j lj y.1) ∙ here))))
          ]
          | inr y ↦ elim (leb_tells n k) [
            | inl z ↦ absurd (other j y.1 (sym (before j y.1) ∙ (e ∙ (ap (slot_at (free ++ i ∷ [])) (at_end k lk z.1) ∙ here))))
            | inr z ↦ are.apart j k y.1 z.1 (sym (before j y.1) ∙ (e ∙ before k z.1))
          ]
        ];
        count =
            let sum = sum_by-set bit regions i 0 0 low in
            let none = used (region_at regions i) some in
            let all = are.count in
            omega (arith, sum, none, all, long);
      }
