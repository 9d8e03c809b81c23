-- The ids of the regions that have a slot, in order.
use Rattle.std.proofs.Common.{◌≡◌, ℕ, zero, suc, ◌+◌, ◌<◌, ◌≤◌, refl, sym, ◌∙◌, ap, arith, Bool, true, false, inl, inr, ◌||◌, cond, List, [], ◌∷◌, length, get_or}
use Rattle.std.specs.Prelude.{count_by, filter, is_some, nat_eq, nat_lt, OnSome, Option, Some, None, slice_index_or, slice_set}
use Rattle.std.specs.Cmp.{both_ways}
use Rattle.std.specs.List.{AllByRecursion, IsDistinct, list_any}
use Rattle.std.specs.List.Sorted.{IsNonDecreasingBy, IsPermutation, IsStrictlySortedBy}
use Rattle.std.specs.Ordering.{nat_cmp}
use Rattle.std.proofs.lemmas.Bool.{cases_Bool, cases_lt, eq-eqb, eqb-true, lt-ltb, ltb-true, true≢false}
use Rattle.std.proofs.lemmas.List.Kept.{IsNonDecreasingBy-filter, IsStrictlySortedBy-filter}
use Rattle.std.proofs.lemmas.List.Sorted.{list_any-IsPermutation, sum_by_pushed}
use Rattle.std.proofs.lemmas.List.Sums.{count_by-le-length}
use Rattle.std.proofs.lemmas.Map.Views.{any-filter_same}
use Rattle.std.proofs.lemmas.Map.Keys.{IsDistinct-IsPermutation, IsStrictlyIncreasing-from_distinct, sorted_from_strictly_increasing}
use Rattle.fol_model.specs.Counting.{least, some_below}
use Rattle.fol_model.specs.Universe.{numbers_below}
use Rattle.fol_laws.proofs.ListCounts.{count_by-cons}
use Rattle.fol_laws.proofs.NumberOrder.{number_rows_are}
use Rattle.fol_laws.proofs.NumbersBelow.{least-below, least-passes, some_below-gives, some_below-is}
use Rattle.fol_region_tables.specs.declared.slots.Region.{Region}
use Rattle.fol_region_tables.specs.Book.{Book, IsBook, is_live}
use Rattle.fol_region_tables.specs.SlotKeys.{AreLiving, has_slot}
use Rattle.fol_region_tables.specs.Slots.{SlotTable, has_id, region_at, slot_of}
use Rattle.fol_region_tables.proofs.Chosen.{same_swap}

-- ---- an id beside others
all_apart : (x : ℕ) (xs : List ℕ) → list_any (nat_eq x) xs ≡ false → AllByRecursion (λ y. nat_eq x y ≡ false) xs
all_apart x [] h = tt
all_apart x (y ∷ ys) h = (first (nat_eq x y) (list_any (nat_eq x) ys) h, all_apart x ys (rest (nat_eq x y) (list_any (nat_eq x) ys) h))
  where
    first : (a b : Bool) → (a || b) ≡ false → a ≡ false
    first true b e = absurd (true≢false e)
    first false b e = refl

    rest : (a b : Bool) → (a || b) ≡ false → b ≡ false
    rest true b e = absurd (true≢false e)
    rest false b e = e

module _ (id : ℕ) (ids : List ℕ) where
  distinct_with : list_any (nat_eq id) ids ≡ false → IsDistinct nat_eq ids → IsDistinct nat_eq (id ∷ ids)
  unfolding IsDistinct
  distinct_with none h = (all_apart id ids none, h)

  -- an id is the first one, or among the others
  first_or : (q : ℕ) → list_any (nat_eq q) (id ∷ ids) ≡ (nat_eq id q || list_any (nat_eq q) ids)
  first_or q = ap (λ b. b || list_any (nat_eq q) ids) (same_swap q id)

nothing_below : (n : ℕ) → nat_lt n n ≡ false
nothing_below n = elim (cases_Bool (nat_lt n n)) [
  | inr e ↦ e
  | inl e ↦ let l = ltb-true n n e in absurd (omega arith)
]

-- ---- how many ids pass one test, and how many another that differs at one id alone
module _ (p q : ℕ → Bool) (id : ℕ) (alike : (x : ℕ) → nat_eq id x ≡ false → q x ≡ p x) where
  count_apart : (xs : List ℕ) → AllByRecursion (λ y. nat_eq id y ≡ false) xs → count_by q xs ≡ count_by p xs
  count_apart [] h = refl
  count_apart (x ∷ xs) h = omega (arith, count_by-cons q x xs, count_by-cons p x xs, ap (λ b. cond {A = ℕ} b 1 0) (alike x h.0), count_apart xs h.1)

  count_less : (xs : List ℕ) → IsDistinct nat_eq xs → list_any (nat_eq id) xs ≡ true → p id ≡ true → q id ≡ false → count_by q xs + 1 ≡ count_by p xs
  unfolding IsDistinct
  count_less [] h there was gone = absurd (true≢false (sym there))
  count_less (x ∷ xs) h there was gone = elim (cases_Bool (nat_eq id x)) [
    | inl e ↦
        let k = eqb-true id x e in
        let apart : AllByRecursion (λ y. nat_eq id y ≡ false) xs = rw k h.0 in
        omega (arith, count_by-cons q x xs, count_by-cons p x xs, ap (λ b. cond {A = ℕ} b 1 0) (ap q (sym k) ∙ gone), ap (λ b. cond {A = ℕ} b 1 0) (ap p (sym k) ∙ was), count_apart xs apart)
    | inr e ↦
        let rest : list_any (nat_eq id) xs ≡ true = ap (λ b. b || list_any (nat_eq id) xs) (sym e) ∙ there in
        omega (arith, count_by-cons q x xs, count_by-cons p x xs, ap (λ b. cond {A = ℕ} b 1 0) (alike x e), count_less xs h.1 rest was gone)
  ]

-- ---- the ids that pass a test
module _ (p : ℕ → Bool) where
  -- if as many pass as there are, all are kept
  pub all_kept : (xs : List ℕ) → length xs ≤ count_by p xs → filter p xs ≡ xs
  all_kept [] h = refl
  all_kept (x ∷ xs) h = elim (cases_Bool (p x)) [
    | inl y ↦ ap (λ b. cond b (x ∷ filter p xs) (filter p xs)) y ∙ ap (λ ys. x ∷ ys) (all_kept xs (omega (arith, h, count_by-cons p x xs, ap (λ b. cond {A = ℕ} b 1 0) y)))
    | inr n ↦ absurd (omega (arith, h, count_by-cons p x xs, ap (λ b. cond {A = ℕ} b 1 0) n, count_by-le-length p xs))
  ]

  kept_apart : (id : ℕ) (xs : List ℕ) → AllByRecursion (λ y. nat_eq id y ≡ false) xs → AllByRecursion (λ y. nat_eq id y ≡ false) (filter p xs)
  kept_apart id [] h = tt
  kept_apart id (x ∷ xs) h = elim (cases_Bool (p x)) [
    | inl e ↦ rw e (h.0, kept_apart id xs h.1)
    | inr e ↦ rw e (kept_apart id xs h.1)
  ]

  kept_distinct : (xs : List ℕ) → IsDistinct nat_eq xs → IsDistinct nat_eq (filter p xs)
  unfolding IsDistinct
  kept_distinct [] h = tt
  kept_distinct (x ∷ xs) h = elim (cases_Bool (p x)) [
    | inl e ↦ rw e (kept_apart x xs h.0, kept_distinct xs h.1)
    | inr e ↦ rw e (kept_distinct xs h.1)
  ]

  kept_count : (xs : List ℕ) → count_by p (filter p xs) ≡ count_by p xs
  kept_count [] = refl
  kept_count (x ∷ xs) = step (kept_count xs) (p x) refl
    where
      step : count_by p (filter p xs) ≡ count_by p xs → (b : Bool) → p x ≡ b → count_by p (cond b (x ∷ filter p xs) (filter p xs)) ≡ count_by p (x ∷ xs)
      step rest true e = let s : count_by p (x ∷ filter p xs) ≡ count_by p (x ∷ xs) = omega (arith, count_by-cons p x (filter p xs), count_by-cons p x xs, rest) in s
      step rest false e = let s : count_by p (filter p xs) ≡ count_by p (x ∷ xs) = omega (arith, count_by-cons p x xs, ap (λ b. cond {A = ℕ} b 1 0) e, rest) in s

-- as many slots have a region once one has another region
pub set_counts : (xs : List (Option Region)) (k : ℕ) (old new : Region) → slice_index_or xs k None ≡ Some old → count_by is_some (slice_set xs k (Some new)) ≡ count_by is_some xs
set_counts [] k old new was = let x : None ≡ Some old = was in absurd (cc)
set_counts (x ∷ xs) zero old new was = omega (arith, count_by-cons is_some (Some new) xs, count_by-cons is_some x xs, ap (λ (o : Option Region). cond {A = ℕ} (is_some o) 1 0) was)
set_counts (x ∷ xs) (suc k) old new was = omega (arith, count_by-cons is_some x (slice_set xs k (Some new)), count_by-cons is_some x xs, set_counts xs k old new was)

-- what a call says of a value, where there is one
pub on_some : {X : Type 0} (o : Option X) (P : Type 0) → is_some o ≡ true → OnSome o P → P
on_some None P h s = absurd (true≢false (sym h))
on_some (Some x) P h s = s

-- ---- what changes the list
-- no region has a slot
pub living_none : (v : SlotTable) (capacity : ℕ) → ((id : ℕ) → slot_of v id ≡ v.room) → count_by is_some v.regions ≡ 0 → v.room ≤ capacity → AreLiving v [] capacity
unfolding IsDistinct
living_none v capacity none empty fits = record {
  rising = λ i j d l m. absurd (omega arith);
  distinct = tt;
  members = λ id h. absurd (true≢false (sym h ∙ ap (λ n. nat_lt n v.room) (none id) ∙ nothing_below v.room));
  count = sym empty;
  fits = fits;
}

module _ (v : SlotTable) (ids : List ℕ) (capacity : ℕ) (kept : AreLiving v ids capacity) where
  -- at least as many ids as regions
  pub living_many : count_by is_some v.regions ≤ length ids
  living_many = omega (arith, kept.count, count_by-le-length (has_slot v) ids)

  -- those of Dead regions are taken out
  pub living_kept : (capacity' : ℕ) → v.room ≤ capacity' → AreLiving v (filter (has_slot v) ids) capacity'
  living_kept capacity' fits = record {
    rising = IsNonDecreasingBy-filter (λ x. x) (has_slot v) ids kept.rising;
    distinct = kept_distinct (has_slot v) ids kept.distinct;
    members = λ id h. any-filter_same (nat_eq id) (has_slot v) true (λ k e. ap (has_slot v) (sym (eqb-true id k e)) ∙ h) ids ∙ kept.members id h;
    count = kept_count (has_slot v) ids ∙ kept.count;
    fits = fits;
  }

  -- each id stands once, so they rise strictly
  pub living_rise : IsStrictlySortedBy nat_cmp (filter (has_slot v) ids)
  living_rise = IsStrictlySortedBy-filter nat_cmp (has_slot v) ids (sorted_from_strictly_increasing ids (IsStrictlyIncreasing-from_distinct ids kept.rising kept.distinct))

  -- which ids are left then
  pub living_members : (id : ℕ) → list_any (nat_eq id) (filter (has_slot v) ids) ≡ has_slot v id
  living_members id = elim (cases_Bool (has_slot v id)) [
    | inl h ↦ any-filter_same (nat_eq id) (has_slot v) true (λ k e. ap (has_slot v) (sym (eqb-true id k e)) ∙ h) ids ∙ kept.members id h ∙ sym h
    | inr h ↦ any-filter_same (nat_eq id) (has_slot v) false (λ k e. ap (has_slot v) (sym (eqb-true id k e)) ∙ h) ids ∙ sym h
  ]

module _ (v w : SlotTable) (ids : List ℕ) (capacity : ℕ) (kept : AreLiving v ids capacity) (same : w.room ≡ v.room) where
  -- the slots stay
  pub living_stay : slot_of w ≡ slot_of v → count_by is_some w.regions ≡ count_by is_some v.regions → AreLiving w ids capacity
  living_stay slots count =
      let alike : (id : ℕ) → has_slot w id ≡ has_slot v id = λ id. λ i. nat_lt (slots i id) (same i) in
      record {
        rising = kept.rising;
        distinct = kept.distinct;
        members = λ id h. kept.members id (sym (alike id) ∙ h);
        count = ap {A = ℕ → Bool} (λ p. count_by p ids) (λ i. λ id. alike id i) ∙ kept.count ∙ sym count;
        fits = omega (arith, kept.fits);
      }

  module _ (id : ℕ) where
    -- a region leaves its slot
    pub living_go : slot_of w ≡ (λ q. cond (nat_eq id q) v.room (slot_of v q)) → slot_of v id < v.room → count_by is_some w.regions + 1 ≡ count_by is_some v.regions → AreLiving w ids capacity
    living_go slots held count =
        let is : (q : ℕ) → has_slot w q ≡ nat_lt (cond (nat_eq id q) v.room (slot_of v q)) v.room = λ q. λ i. nat_lt (slots i q) (same i) in
        let others : (q : ℕ) → nat_eq id q ≡ false → has_slot w q ≡ has_slot v q = λ q e. is q ∙ ap (λ b. nat_lt (cond b v.room (slot_of v q)) v.room) e in
        let gone : has_slot w id ≡ false = is id ∙ ap (λ b. nat_lt (cond b v.room (slot_of v id)) v.room) (eq-eqb id id refl) ∙ nothing_below v.room in
        let was : has_slot v id ≡ true = lt-ltb (slot_of v id) v.room held in
        record {
          rising = kept.rising;
          distinct = kept.distinct;
          members = λ q h. elim (cases_Bool (nat_eq id q)) [
            | inl e ↦ absurd (true≢false (sym h ∙ ap (has_slot w) (sym (eqb-true id q e)) ∙ gone))
            | inr e ↦ kept.members q (sym (others q e) ∙ h)
          ];
          count = omega (arith, count_less (has_slot v) (has_slot w) id others ids kept.distinct (kept.members id was) was gone, kept.count, count);
          fits = omega (arith, kept.fits);
        }

    -- a region comes to a slot
    module _ (at : ℕ) (absent : slot_of v id ≡ v.room) (within : at < v.room) (slots : slot_of w ≡ (λ q. cond (nat_eq id q) at (slot_of v q))) (count : count_by is_some w.regions ≡ count_by is_some v.regions + 1) where
      is_there : (q : ℕ) → has_slot w q ≡ nat_lt (cond (nat_eq id q) at (slot_of v q)) v.room
      is_there q = λ i. nat_lt (slots i q) (same i)

      others : (q : ℕ) → nat_eq id q ≡ false → has_slot w q ≡ has_slot v q
      others q e = is_there q ∙ ap (λ b. nat_lt (cond b at (slot_of v q)) v.room) e

      comes : has_slot w id ≡ true
      comes = is_there id ∙ ap (λ b. nat_lt (cond b at (slot_of v id)) v.room) (eq-eqb id id refl) ∙ lt-ltb at v.room within

      was_not : has_slot v id ≡ false
      was_not = ap (λ n. nat_lt n v.room) absent ∙ nothing_below v.room

      module _ (ids' : List ℕ) (capacity' : ℕ) (rising : IsNonDecreasingBy (λ x. x) ids') (fits : v.room ≤ capacity') where
        -- its id is not in the list yet
        come_new : list_any (nat_eq id) ids ≡ false → IsPermutation (id ∷ ids) ids' → AreLiving w ids' capacity'
        come_new none put = record {
          rising = rising;
          distinct = IsDistinct-IsPermutation nat_eq same_swap (id ∷ ids) ids' put (distinct_with id ids none kept.distinct);
          members = λ q h. sym (list_any-IsPermutation (nat_eq q) (id ∷ ids) ids' put) ∙ first_or id ids q ∙ elim (cases_Bool (nat_eq id q)) [
            | inl e ↦ ap (λ b. b || list_any (nat_eq q) ids) e
            | inr e ↦ ap (λ b. b || list_any (nat_eq q) ids) e ∙ kept.members q (sym (others q e) ∙ h)
          ];
          count = omega (
            arith,
            sum_by_pushed (λ q. cond (has_slot w q) 1 0) id ids ids' put,
            ap (λ b. cond {A = ℕ} b 1 0) comes,
            count_apart (has_slot v) (has_slot w) id others ids (all_apart id ids none),
            kept.count,
            count,
          );
          fits = omega (arith, fits);
        }

        -- its id is in the list still
        come_again : list_any (nat_eq id) ids ≡ true → ids' ≡ ids → AreLiving w ids' capacity'
        come_again there stays = record {
          rising = rising;
          distinct = rw stays kept.distinct;
          members = λ q h. rw stays (elim (cases_Bool (nat_eq id q)) [
            | inl e ↦ ap (λ n. list_any (nat_eq n) ids) (sym (eqb-true id q e)) ∙ there
            | inr e ↦ kept.members q (sym (others q e) ∙ h)
          ]);
          count = rw stays (omega (arith, count_less (has_slot w) (has_slot v) id (λ q e. sym (others q e)) ids kept.distinct there comes was_not, kept.count, count));
          fits = omega (arith, fits);
        }

        pub living_come : (list_any (nat_eq id) ids ≡ true → ids' ≡ ids) → (list_any (nat_eq id) ids ≡ false → IsPermutation (id ∷ ids) ids') → AreLiving w ids' capacity'
        living_come stays put = elim (cases_Bool (list_any (nat_eq id) ids)) [
          | inl e ↦ come_again e (stays e)
          | inr e ↦ come_new e (put e)
        ]

-- ---- more slots
module _ (v w : SlotTable) (same : w.regions ≡ v.regions) (more : v.room ≤ w.room) (within : (k : ℕ) → v.room ≤ k → region_at v k ≡ None) where
  -- some slot has the region exactly where the region's own slot is one
  some_slot : (u : SlotTable) (id : ℕ) → some_below (λ k. has_id id (region_at u k)) u.room ≡ nat_lt (slot_of u id) u.room
  unfolding slot_of
  some_slot u id =
      let p : ℕ → Bool = λ k. has_id id (region_at u k) in
      both_ways (some_below p u.room) (nat_lt (least p u.room) u.room)
      (λ h. let s = some_below-gives p u.room h in let l = least-below p u.room s.0 s.1 s.2 in let m = s.1 in lt-ltb (least p u.room) u.room (omega arith))
      (λ h. let l = ltb-true (least p u.room) u.room h in some_below-is p u.room (least p u.room) l (least-passes p u.room l))

  as_many : (id : ℕ) → nat_lt (slot_of v id) v.room ≡ nat_lt (slot_of w id) w.room
  as_many id =
      let p : ℕ → Bool = λ k. has_id id (region_at v k) in
      let q : ℕ → Bool = λ k. has_id id (region_at w k) in
      let alike : (k : ℕ) → q k ≡ p k = λ k. ap (λ rs. has_id id (get_or rs k None)) same in
      sym (some_slot v id) ∙ both_ways (some_below p v.room) (some_below q w.room)
      (λ h. let s = some_below-gives p v.room h in let l = s.1 in some_below-is q w.room s.0 (omega arith) (alike s.0 ∙ s.2))
      (λ h.
      let s = some_below-gives q w.room h in
      let yes = sym (alike s.0) ∙ s.2 in
      some_below-is p v.room s.0 (elim (cases_lt s.0 v.room) [
        | inl l ↦ l
        | inr l ↦ absurd (true≢false (sym yes ∙ ap (has_id id) (within s.0 l)))
      ]) yes) ∙ some_slot w id

  pub living_copied : (ids ids' : List ℕ) (capacity capacity' : ℕ) → AreLiving v ids capacity → ids' ≡ ids → w.room ≤ capacity' → AreLiving w ids' capacity'
  living_copied ids ids' capacity capacity' kept copied fits = rw copied (record {
    rising = kept.rising;
    distinct = kept.distinct;
    members = λ id h. kept.members id (as_many id ∙ h);
    count = ap {A = ℕ → Bool} (λ p. count_by p ids) (λ i. λ id. sym (as_many id) i) ∙ kept.count ∙ sym (ap (count_by is_some) same);
    fits = fits;
  })

-- ---- the regions of the tables
pub live_rows : (b : Book) (ids : List ℕ) → IsBook b → IsStrictlySortedBy nat_cmp ids → ((id : ℕ) → list_any (nat_eq id) ids ≡ nat_lt (slot_of b.slots id) b.slots.room) → ids ≡ filter (is_live b) (numbers_below b.next)
unfolding is_live
live_rows b ids h rising members = (number_rows_are b.next (is_live b) ids rising members (λ k e. (h.given k e).1)).0
