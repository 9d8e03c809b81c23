-- How many pages of a list are absent from a map of pages.
use Rattle.std.proofs.Common.{◌≡◌, ℕ, ◌+◌, ◌<◌, ◌≤◌, refl, sym, ◌∙◌, ap, arith, Bool, true, false, cond, not, ◌||◌, inl, inr, List, [], ◌∷◌}
use Rattle.std.specs.Prelude.{ℤ}
use Rattle.std.specs.List.{count_by, list_any}
use Rattle.std.proofs.lemmas.Bool.{cases_Bool, or_cases, or_left, or_right, true≢false}
use Rattle.fol_laws.proofs.ListCounts.{count_by-cons, count_by-mono, list_any-count}
use Rattle.fol_pages.specs.Pages.{has_page, is_listed, is_same}
use Rattle.fol_pages.proofs.PagePlaces.{same_place}

-- there is no page in that column and row
abbrev pub is_absent : {P : Type 0} → List ((ℤ × ℤ) × P) → ℤ × ℤ → Bool
is_absent entries key = not (has_page entries key.0 key.1)

module _ {X : Type 0} (p q t : X → Bool) (weaker : (x : X) → p x ≡ true → q x ≡ true) (hit : (x : X) → t x ≡ true → (p x ≡ false) × (q x ≡ true)) where
  pub one_less : (xs : List X) → list_any t xs ≡ true → count_by p xs + 1 ≤ count_by q xs
  one_less [] h = absurd (true≢false (sym h))
  one_less (x ∷ xs) h = elim (cases_Bool (t x)) [
    | inl e ↦ let k = hit x e in omega (arith, count_by-cons p x xs, count_by-cons q x xs, ap (λ b. cond {A = ℕ} b 1 0) k.0, ap (λ b. cond {A = ℕ} b 1 0) k.1, count_by-mono p q weaker xs)
    | inr e ↦
        let rest : list_any t xs ≡ true = elim (or_cases (t x) (list_any t xs) h) [ inl k ↦ absurd (true≢false (sym k ∙ e)) | inr k ↦ k ] in
        omega (arith, count_by-cons p x xs, count_by-cons q x xs, one_less xs rest, test_rises (p x) (q x) (weaker x))
  ]
    where
      test_rises : (a b : Bool) → (a ≡ true → b ≡ true) → cond a 1 0 ≤ cond b 1 0
      test_rises true b h = let e = h refl in rw e (omega arith)
      test_rises false b h = omega arith

module _ {P : Type 0} (x z : ℤ) (pages : List (ℤ × ℤ)) (listed : is_listed pages x z ≡ true) where
  -- a listed page that is absent is counted
  pub some_absent : (entries : List ((ℤ × ℤ) × P)) → has_page entries x z ≡ false → 0 < count_by (is_absent entries) pages
  some_absent entries e = list_any-count (is_absent entries) pages (here pages listed)
    where
      here : (keys : List (ℤ × ℤ)) → is_listed keys x z ≡ true → list_any (is_absent entries) keys ≡ true
      here [] h = absurd (true≢false (sym h))
      here (key ∷ keys) h = elim (or_cases (is_same x z key.0 key.1) (is_listed keys x z) h) [
        | inl k ↦
            let same = same_place x z key.0 key.1 k in
            let none : has_page entries key.0 key.1 ≡ false = (λ i. has_page entries (sym same.0 i) (sym same.1 i)) ∙ e in
            or_left (is_absent entries key) (list_any (is_absent entries) keys) (ap not none)
        | inr k ↦ or_right (is_absent entries key) (list_any (is_absent entries) keys) (here keys k)
      ]

-- a page that came was absent, or there before, and no other came
module _ {P : Type 0} (before after : List ((ℤ × ℤ) × P)) (x z : ℤ) (came : (a b : ℤ) → has_page after a b ≡ (is_same x z a b || has_page before a b)) (pages : List (ℤ × ℤ)) where
  weaker : (key : ℤ × ℤ) → is_absent after key ≡ true → is_absent before key ≡ true
  weaker key h = still (is_same x z key.0 key.1) (has_page before key.0 key.1) (ap not (sym (came key.0 key.1)) ∙ h)
    where
      still : (a b : Bool) → not (a || b) ≡ true → not b ≡ true
      still true b e = absurd (true≢false (sym e))
      still false b e = e

  pub room_left : (has_page before x z ≡ false → is_listed pages x z ≡ true) → (was is : ℕ) → was ≤ is + cond (has_page before x z) 0 1
      → was + count_by (is_absent after) pages ≤ is + count_by (is_absent before) pages
  room_left listed was is h = elim (cases_Bool (has_page before x z)) [
    | inl e ↦ omega (arith, h, ap (λ b. cond {A = ℕ} b 0 1) e, count_by-mono (is_absent after) (is_absent before) weaker pages)
    | inr e ↦ omega (arith, h, ap (λ b. cond {A = ℕ} b 0 1) e, one_less (is_absent after) (is_absent before) (λ key. is_same x z key.0 key.1) weaker (hit e) pages (listed e))
  ]
    where
      hit : has_page before x z ≡ false → (key : ℤ × ℤ) → is_same x z key.0 key.1 ≡ true → (is_absent after key ≡ false) × (is_absent before key ≡ true)
      hit e key k =
          let there = same_place x z key.0 key.1 k in
          let was : has_page before key.0 key.1 ≡ false = (λ i. has_page before (sym there.0 i) (sym there.1 i)) ∙ e in
          (ap not (came key.0 key.1 ∙ ap (λ b. b || has_page before key.0 key.1) k), ap not was)
