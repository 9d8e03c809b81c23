-- The regions that wait for a region, in the order in which they join it.
use Rattle.std.proofs.Common.{◌≡◌, ℕ, zero, suc, ◌+◌, ◌≤◌, ◌<◌, refl, sym, ◌∙◌, ap, arith, Bool, true, false, inl, inr, List, [], ◌∷◌, ◌++◌, length, get_or, take}
use Rattle.std.specs.Prelude.{◌≢◌, nat_eq, nat_lt, filter}
use Rattle.std.specs.List.{list_any}
use Rattle.std.specs.List.Sorted.{IsStrictlySortedBy}
use Rattle.std.specs.Ordering.{nat_cmp}
use Rattle.std.specs.declared.cmp.Ordering.TheVariants.{Less}
use Rattle.std.proofs.lemmas.Bool.{cases_Bool, cases_eq, ne_eqb, eqb-true, true≢false, lt-ltb}
use Rattle.std.proofs.lemmas.List.{take_more, map-append, get_or_past}
use Rattle.std.proofs.lemmas.List.Folds.{list_any_more}
use Rattle.std.proofs.lemmas.List.Kept.{IsStrictlySortedBy-filter}
use Rattle.std.proofs.lemmas.List.Sums.{length-filter}
use Rattle.std.proofs.lemmas.Map.Keys.{Less-from_sorted}
use Rattle.fol_model.specs.Universe.{all_sections, count_sections, numbers_below}
use Rattle.fol_laws.proofs.ListCounts.{count_by-mono}
use Rattle.fol_laws.proofs.NumberOrder.{numbers_sorted}
use Rattle.fol_region_tables.specs.Book.{Book, IsBook, Merges, owner_of, waits_of, is_live, ahead_of, behind_of}
use Rattle.fol_regions.specs.Changes.{into}
use Rattle.fol_regions.specs.Added.{is_id}
use Rattle.fol_regions.specs.Released.{Joins}
use Rattle.fol_region_tables.specs.Slots.{slot_of}
use Rattle.fol_regions.proofs.JoinSteps.{joins_more}
use Rattle.fol_region_tables.proofs.PartingSteps.{count_parts, not_live}

-- what a filter keeps passes
filter_passes : (p : ℕ → Bool) (xs : List ℕ) (i d : ℕ) → i < length (filter p xs) → p (get_or (filter p xs) i d) ≡ true
filter_passes p [] i d l = absurd (omega arith)
filter_passes p (x ∷ xs) zero d l = elim (cases_Bool (p x)) [
  | inl e ↦ rw e e
  | inr e ↦ let m : 0 < length (filter p xs) = rw e at l in rw e (filter_passes p xs 0 d m)
]
filter_passes p (x ∷ xs) (suc i) d l = elim (cases_Bool (p x)) [
  | inl e ↦ let m : suc i < length (x ∷ filter p xs) = rw e at l in rw e (filter_passes p xs i d (omega arith))
  | inr e ↦ let m : suc i < length (filter p xs) = rw e at l in rw e (filter_passes p xs (suc i) d m)
]

none_any : {X : Type 0} (p : X → Bool) (xs : List X) → ((x : X) → p x ≡ false) → list_any p xs ≡ false
none_any p [] h = refl
none_any p (x ∷ xs) h = let e = h x in rw e (none_any p xs h)

-- a number that is at none of the first places
not_among : (ids : List ℕ) (v i : ℕ) → i ≤ length ids → ((k : ℕ) → k < i → get_or ids k 0 ≢ v) → is_id (take i ids) v ≡ false
not_among ids v zero l h = refl
not_among ids v (suc i) l h =
    let r = not_among ids v i (omega arith) (λ k m. h k (omega arith)) in
    let e : suc i ≡ i + 1 = omega arith in
    let m = list_any_more (nat_eq v) ids i 0 (omega arith) in
    let n : nat_eq v (get_or ids i 0) ≡ false = ne_eqb v _ (λ x. h i (omega arith) (sym x)) in
    rw e (m ∙ rw (r, n) refl)

not_less : (u : ℕ) → nat_cmp u u ≡ Less → ⊥
not_less u e = absurd (grind (arith, e))

module _ (b : Book) (t : ℕ) (h : IsBook b) (live : is_live b t ≡ true) (alone : (r : ℕ) → waits_of b t r ≡ false) (last : (u r : ℕ) → waits_of b u t ≡ true → waits_of b r u ≡ false)
    (few : count_sections (λ s. nat_lt 0 (owner_of b s)) ≤ 16384) (ids : List ℕ) (is : ids ≡ behind_of b t) where
  ids_are : ids ≡ filter (λ u. waits_of b u t) (numbers_below b.next)
  ids_are = is ∙ h.behind t

  ids_rise : IsStrictlySortedBy nat_cmp ids
  ids_rise = let e = ids_are in rw e (IsStrictlySortedBy-filter nat_cmp (λ u. waits_of b u t) (numbers_below b.next) (numbers_sorted b.next))

  module _ (i : ℕ) (l : i < length ids) where
    waits_at : waits_of b (get_or ids i 0) t ≡ true
    waits_at =
        let e = ids_are in
        let m : i < length (filter (λ u. waits_of b u t) (numbers_below b.next)) = omega (arith, ap length e) in
        let w = filter_passes (λ u. waits_of b u t) (numbers_below b.next) i 0 m in
        rw e w

    pub live_at : is_live b (get_or ids i 0) ≡ true
    unfolding waits_of ahead_of
    live_at = elim (cases_Bool (is_live b (get_or ids i 0))) [
      | inl e ↦ e
      | inr e ↦ absurd (
          let none : ahead_of b (get_or ids i 0) ≡ [] = get_or_past b.ahead.lists (slot_of b.slots (get_or ids i 0)) [] (omega (arith, h.ahead_numbers, not_live b (get_or ids i 0) e)) in
          let w : list_any (nat_eq t) (ahead_of b (get_or ids i 0)) ≡ true = waits_at in
          let z : list_any (nat_eq t) [] ≡ true = rw none at w in
          true≢false (sym z))
    ]

    pub apart_at : get_or ids i 0 ≢ t
    apart_at = λ e. let w : waits_of b t t ≡ true = rw e at waits_at in true≢false (sym w ∙ alone t)

    pub fresh_at : is_id (take i ids) (get_or ids i 0) ≡ false
    fresh_at = not_among ids (get_or ids i 0) i (omega arith) (λ k m e.
        let less = Less-from_sorted nat_cmp ids k i 0 ids_rise m l in
        not_less (get_or ids i 0) (rw e at less))

  -- t itself is none of them
  not_t : (i : ℕ) → i ≤ length ids → is_id (take i ids) t ≡ false
  not_t i l = not_among ids t i l (λ k m. apart_at k (omega arith))

  -- ---- there are no more of them than sections
  some_sections : (i : ℕ) → i ≤ length ids → i ≤ count_sections (λ s. is_id (take i ids) (owner_of b s))
  some_sections zero l = omega arith
  some_sections (suc i) l =
      let m : i < length ids = omega arith in
      let r = some_sections i (omega arith) in
      let u : ℕ = get_or ids i 0 in
      let lives = live_at i m in
      let pos = (h.given u lives).0 in
      let e : suc i ≡ i + 1 = omega arith in
      let c = count_parts (λ s. is_id (take (i + 1) ids) (owner_of b s)) (λ s. is_id (take i ids) (owner_of b s)) (λ s. nat_eq (owner_of b s) u) (λ s.
      let more = list_any_more (nat_eq (owner_of b s)) ids i 0 m in
      let f = fresh_at i m in
      elim (cases_Bool (nat_eq (owner_of b s) u)) [
        | inl k ↦ let o : owner_of b s ≡ u = eqb-true _ _ k in let z : is_id (take i ids) (owner_of b s) ≡ false = rw o f in
            rw (more, z, k) refl
        | inr k ↦ rw (more, k) (elim (cases_Bool (is_id (take i ids) (owner_of b s))) [ inl y ↦ rw y refl | inr y ↦ rw y refl ])
      ]) all_sections in
      let one = h.some u lives in
      rw e (omega (arith, r, c, one, ap length (h.rows u pos), length-filter (λ s. nat_eq (owner_of b s) u) all_sections))

  pub ids_few : length ids ≤ 16384
  ids_few =
      let a = some_sections (length ids) (omega arith) in
      omega (
        arith,
        a,
        few,
        count_by-mono (λ s. is_id (take (length ids) ids) (owner_of b s)) (λ s. nat_lt 0 (owner_of b s)) (λ s e.
            elim (cases_eq (owner_of b s) 0) [
              | inl z ↦ absurd (
                  let none = not_among ids 0 (length ids) (omega arith) (λ k m x. let lives = live_at k m in let p = (h.given (get_or ids k 0) lives).0 in omega arith) in
                  let y : is_id (take (length ids) ids) 0 ≡ true = rw z at e in
                  true≢false (sym y ∙ none))
              | inr n ↦ lt-ltb 0 _ (omega (arith, n))
            ]) all_sections,
      )

  -- ---- after some have joined
  module _ (i : ℕ) (l : i < length ids) (c : Book) (w : Joins b c t (take i ids)) where
    pub still_live : is_live c (get_or ids i 0) ≡ true
    still_live = let f = fresh_at i l in let v = live_at i l in ap (λ f. f (get_or ids i 0)) w.live ∙ rw (f, v) refl

    pub t_live : is_live c t ≡ true
    t_live = let f = not_t i (omega arith) in let v = live in ap (λ f. f t) w.live ∙ rw (f, v) refl

    pub still_last : (r : ℕ) → waits_of c r (get_or ids i 0) ≡ false
    still_last r =
        let u : ℕ = get_or ids i 0 in
        let none : (q : ℕ) → waits_of b q u ≡ false = λ q. last u q (waits_at i l) in
        let any = none_any (λ q. waits_of b q u) (take i ids) none in
        let own = none r in
        ap (λ f. f r u) w.waits ∙ elim (cases_Bool (nat_eq r t)) [
          | inl e ↦ rw (e, any) (elim (cases_Bool (nat_eq u t)) [ inl x ↦ rw x refl | inr x ↦ rw x refl ])
          | inr e ↦ rw (e, own) (elim (cases_Bool (is_id (take i ids) r)) [ inl x ↦ rw x refl | inr x ↦ rw x refl ])
        ]

    pub joined_more : (d : Book) → Merges c d (get_or ids i 0) t → Joins b d t (take (i + 1) ids)
    joined_more d m = let e = take_more ids i 0 l in rw e (joins_more b c d t (get_or ids i 0) (take i ids) w m (apart_at i l) (fresh_at i l))

  pub into_more : (i : ℕ) → i < length ids → into t (take i ids) ++ (record { «from» = get_or ids i 0; into = t }) ∷ [] ≡ into t (take (i + 1) ids)
  into_more i l = let e = take_more ids i 0 l in rw e (sym (map-append (λ u. record { «from» = u; into = t }) (take i ids) (get_or ids i 0 ∷ [])))
