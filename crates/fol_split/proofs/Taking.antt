-- Runs that are taken, one, none, or those that pass one test and then another.
use Rattle.std.proofs.Common.{◌≡◌, ℕ, zero, suc, ◌+◌, ◌≤◌, ◌<◌, refl, sym, ◌∙◌, ap, arith, Bool, true, false, not, ◌&&◌, ◌||◌, inl, inr, List, [], ◌∷◌, ◌++◌, length, get_or, append_assoc, length-append, length-set, get_or-set_same, get_or-set_other}
use Rattle.std.specs.Prelude.{nat_eq, nat_le, nat_lt, slice_set}
use Rattle.std.specs.List.{IsDistinct}
use Rattle.std.specs.List.Sorted.{IsPermutation, IsSorted}
use Rattle.std.specs.Ordering.{nat_cmp}
use Rattle.std.specs.Cmp.{IsEquivalence, both_ways}
use Rattle.std.proofs.lemmas.Bool.{cases_Bool, cases_eq, and_parts, and_from, or_cases, le-leb, lt-ltb, true≢false}
use Rattle.std.proofs.lemmas.List.{append-nil}
use Rattle.std.proofs.lemmas.List.Folds.{list_any-append}
use Rattle.std.proofs.lemmas.List.Sorted.{list_any-IsPermutation, IsNonDecreasingBy-from_sort}
use Rattle.std.proofs.lemmas.Map.Keys.{IsDistinct-push, IsDistinct-IsPermutation, IsStrictlyIncreasing-from_distinct, sorted_from_strictly_increasing}
use Rattle.std.proofs.lemmas.Map.Steps.{length-le_from_distinct_below}
use Rattle.fol_split.specs.Runs.{Marks, IsMarked, TakesRuns, SortsClass, is_left_at, is_place}
use Rattle.fol_split.proofs.Near.{spread}
use Rattle.fol_split.proofs.RunLists.{same_place, place_self, between-none, between-more}

place-swap : (k j : ℕ) → nat_eq k j ≡ nat_eq j k
place-swap k j = both_ways _ _ (λ h. let e = same_place k j h in rw e (place_self j)) (λ h. let e = same_place j k h in rw e (place_self k))

place_equiv : IsEquivalence nat_eq
place_equiv = record {
  refl = place_self;
  symm = place-swap;
  congr = λ a b c h. ap (λ s. nat_eq s c) (same_place a b h);
}

-- a place where a run is left is one of a run
pub left_within : (flags : List Bool) (k : ℕ) → get_or flags k false ≡ true → k < length flags
left_within [] k h = absurd (true≢false (sym h))
left_within (b ∷ bs) zero h = omega arith
left_within (b ∷ bs) (suc k) h = let l = left_within bs k h in omega arith

pub place-push : (ks : List ℕ) (k j : ℕ) → is_place (ks ++ k ∷ []) j ≡ (is_place ks j || nat_eq k j)
place-push ks k j = list_any-append (nat_eq j) ks (k ∷ []) ∙ ap (λ b. is_place ks j || b) (or_none (nat_eq j k) ∙ place-swap j k)
  where
    or_none : (b : Bool) → (b || false) ≡ b
    or_none true = refl
    or_none false = refl

never : (b : Bool) → (b && false) ≡ false
never true = refl
never false = refl

always : (b : Bool) → (b && true) ≡ b
always true = refl
always false = refl

-- ---- one run
module _ (m : Marks) (k : ℕ) (marked : IsMarked m) (left : is_left_at m k ≡ true) where
  left-one : (j : ℕ) → get_or (slice_set m.left k false) j false ≡ (get_or m.left j false && not (nat_eq k j))
  left-one j = elim (cases_eq j k) [
    | inl e ↦
        let l = left_within m.left k left in
        let same : nat_eq k j ≡ true = ap (nat_eq k) e ∙ place_self k in
        ap (λ i. get_or (slice_set m.left k false) i false) e ∙ get_or-set_same m.left k false false l ∙ sym (ap (λ b. get_or m.left j false && not b) same ∙ never (get_or m.left j false))
    | inr n ↦
        let other : nat_eq k j ≡ false = elim (cases_Bool (nat_eq k j)) [ inl e ↦ absurd (n (sym (same_place k j e))) | inr e ↦ e ] in
        get_or-set_other m.left k j false false n ∙ sym (ap (λ b. get_or m.left j false && not b) other ∙ always (get_or m.left j false))
  ]

  pub takes_one : TakesRuns m (record { runs = m.runs; left = slice_set m.left k false; class = m.class ++ k ∷ [] }) (nat_eq k)
  takes_one = record {
    runs = refl;
    left = left-one;
    class = (k ∷ [], refl);
    members = λ j. place-push m.class k j ∙ one_test (is_left_at m j) (is_place m.class j) (nat_eq k j) (λ e. ap (is_left_at m) (sym (same_place k j e)) ∙ left);
  }
    where
      one_test : (free taken same : Bool) → (same ≡ true → free ≡ true) → (taken || same) ≡ (taken || (free && same))
      one_test true taken same h = refl
      one_test false taken true h = absurd (true≢false (sym (h refl)))
      one_test false taken false h = refl

  not_taken : is_place m.class k ≡ false
  not_taken = elim (cases_Bool (is_place m.class k)) [
    | inl e ↦ absurd (true≢false (sym left ∙ (marked.gone k e).1))
    | inr e ↦ e
  ]

  pub marked_one : IsMarked (record { runs = m.runs; left = slice_set m.left k false; class = m.class ++ k ∷ [] })
  marked_one = record {
    sound = marked.sound;
    flags = length-set m.left k false ∙ marked.flags;
    distinct = IsDistinct-push place_equiv m.class k marked.distinct not_taken;
    gone = λ j h. elim (or_cases (is_place m.class j) (nat_eq k j) (sym (place-push m.class k j) ∙ h)) [
      | inl e ↦ ((marked.gone j e).0, left-one j ∙ ap (λ b. b && not (nat_eq k j)) (marked.gone j e).1)
      | inr e ↦
          let q = same_place k j e in
          let l = left_within m.left k left in
          (omega (arith, q, marked.flags), left-one j ∙ ap (λ b. get_or m.left j false && not b) e ∙ never (get_or m.left j false))
    ];
  }

  -- there is room for it
  pub room_for : length m.class < length m.runs
  room_for =
      let d = IsDistinct-push place_equiv m.class k marked.distinct not_taken in
      let l = length-le_from_distinct_below (m.class ++ k ∷ []) (length m.runs) d (λ j h. (marked_one.gone j h).0) in
      omega (arith, length-append m.class (k ∷ []))

pub class_few : (m : Marks) → IsMarked m → length m.class ≤ length m.runs
class_few m marked = length-le_from_distinct_below m.class (length m.runs) marked.distinct (λ j h. (marked.gone j h).0)

-- ---- no run
pub takes_none : (m : Marks) (passes : ℕ → Bool) → ((k : ℕ) → is_left_at m k ≡ true → passes k ≡ false) → TakesRuns m m passes
takes_none m passes none = record {
  runs = refl;
  left = λ k. kept (is_left_at m k) (passes k) (none k);
  class = ([], sym (append-nil m.class));
  members = λ k. no_test (is_left_at m k) (is_place m.class k) (passes k) (none k);
}
  where
    kept : (free passes : Bool) → (free ≡ true → passes ≡ false) → free ≡ (free && not passes)
    kept true true h = absurd (true≢false (h refl))
    kept true false h = refl
    kept false passes h = refl

    no_test : (free taken passes : Bool) → (free ≡ true → passes ≡ false) → taken ≡ (taken || (free && passes))
    no_test free true passes h = refl
    no_test true false true h = absurd (true≢false (h refl))
    no_test true false false h = refl
    no_test false false passes h = refl

-- ---- those that pass a test and then those that pass another one
pub takes_both : (a b c : Marks) (p q r : ℕ → Bool) → TakesRuns a b p → TakesRuns b c q → ((k : ℕ) → r k ≡ (p k || q k)) → TakesRuns a c r
takes_both a b c p q r first second all = record {
  runs = second.runs ∙ first.runs;
  left = λ k. second.left k ∙ ap (λ f. f && not (q k)) (first.left k) ∙ both_fail (is_left_at a k) (p k) (q k) ∙ ap (λ f. is_left_at a k && not f) (sym (all k));
  class = (first.class.0 ++ second.class.0, second.class.1 ∙ ap (λ xs. xs ++ second.class.0) first.class.1 ∙ append_assoc a.class first.class.0 second.class.0);
  members = λ k. second.members k ∙ rw (first.members k, first.left k) (both_pass (is_left_at a k) (is_place a.class k) (p k) (q k)) ∙ ap (λ f. is_place a.class k || (is_left_at a k && f)) (sym (all k));
}
  where
    both_fail : (free p q : Bool) → ((free && not p) && not q) ≡ (free && not (p || q))
    both_fail true true q = refl
    both_fail true false q = refl
    both_fail false p q = refl

    both_pass : (free taken p q : Bool) → ((taken || (free && p)) || ((free && not p) && q)) ≡ (taken || (free && (p || q)))
    both_pass free true p q = refl
    both_pass true false true q = refl
    both_pass true false false q = refl
    both_pass false false p q = refl

-- the same by another test, which is the same where a run is left
pub takes_like : (a b : Marks) (p q : ℕ → Bool) → TakesRuns a b p → ((k : ℕ) → is_left_at a k ≡ true → q k ≡ p k) → TakesRuns a b q
takes_like a b p q takes same = record {
  runs = takes.runs;
  left = λ k. takes.left k ∙ like_left (is_left_at a k) (p k) (q k) (same k);
  class = takes.class;
  members = λ k. takes.members k ∙ like (is_left_at a k) (is_place a.class k) (p k) (q k) (same k);
}
  where
    like_left : (free p q : Bool) → (free ≡ true → q ≡ p) → (free && not p) ≡ (free && not q)
    like_left true p q h = ap not (sym (h refl))
    like_left false p q h = refl

    like : (free taken p q : Bool) → (free ≡ true → q ≡ p) → (taken || (free && p)) ≡ (taken || (free && q))
    like true taken p q h = ap (λ b. taken || b) (sym (h refl))
    like false taken p q h = refl

-- ---- a look at one run after another
-- the place is before k, and passes the test
abbrev pub passed : (ℕ → Bool) → ℕ → ℕ → Bool
passed test k j = (nat_le 0 j && nat_lt j k) && test j

module _ (test : ℕ → Bool) where
  pub none-passed : (j : ℕ) → passed test 0 j ≡ false
  none-passed j = ap (λ b. b && test j) (between-none 0 j)

  passed-more : (k j : ℕ) → passed test (k + 1) j ≡ (passed test k j || (nat_eq k j && test j))
  passed-more k j = ap (λ b. b && test j) (between-more 0 k j (omega arith)) ∙ spread (nat_le 0 j && nat_lt j k) (nat_eq k j) (test j)

  -- the run at the place k is taken
  pub takes_next : (a b c : Marks) (k : ℕ) → TakesRuns a b (passed test k) → test k ≡ true → TakesRuns b c (nat_eq k) → TakesRuns a c (passed test (k + 1))
  takes_next a b c k before passes takes = takes_both a b c _ _ _ before (takes_like b c (nat_eq k) (λ j. nat_eq k j && test j) takes (λ j _. only j)) (passed-more k)
    where
      only : (j : ℕ) → (nat_eq k j && test j) ≡ nat_eq k j
      only j = both_ways _ _ (λ h. (and_parts (nat_eq k j) (test j) h).0) (λ h. and_from _ _ h (ap test (sym (same_place k j h)) ∙ passes))

  -- it is not, since it is gone or does not pass
  pub keeps_next : (a b : Marks) (k : ℕ) → TakesRuns a b (passed test k) → (is_left_at b k && test k) ≡ false → TakesRuns a b (passed test (k + 1))
  keeps_next a b k before fails = takes_both a b b _ _ _ before (takes_none b (λ j. nat_eq k j && test j) none) (passed-more k)
    where
      none : (j : ℕ) → is_left_at b j ≡ true → (nat_eq k j && test j) ≡ false
      none j left = elim (cases_Bool (nat_eq k j && test j)) [
        | inl e ↦
            let p = and_parts (nat_eq k j) (test j) e in
            let same = same_place k j p.0 in
            absurd (true≢false (sym (and_from _ _ (ap (is_left_at b) same ∙ left) (ap test same ∙ p.1)) ∙ fails))
        | inr e ↦ e
      ]

  -- the look went over all
  pub takes_all : (a b : Marks) (n : ℕ) → length a.left ≤ n → TakesRuns a b (passed test n) → TakesRuns a b test
  takes_all a b n all takes = takes_like a b (passed test n) test takes (λ j left. both_ways _ _
      (λ h. and_from _ _ (and_from _ _ (le-leb 0 j (omega arith)) (lt-ltb j n (omega (arith, left_within a.left j left)))) h)
      (λ h. (and_parts (nat_le 0 j && nat_lt j n) (test j) h).1))

-- ---- the list of what was taken
pub marked_cleared : (m : Marks) (class : List ℕ) → IsMarked m → class ≡ [] → IsMarked (record { runs = m.runs; left = m.left; class = class })
unfolding IsDistinct
marked_cleared m class marked e = rw e (record { sound = marked.sound; flags = marked.flags; distinct = tt; gone = λ k h. absurd (true≢false (sym h)) })

module _ (m : Marks) (sorted : List ℕ) (marked : IsMarked m) (moved : IsPermutation m.class sorted) where
  distinct : IsDistinct nat_eq sorted
  distinct = IsDistinct-IsPermutation nat_eq place-swap m.class sorted moved marked.distinct

  pub marked_sorted : IsMarked (record { runs = m.runs; left = m.left; class = sorted })
  marked_sorted = record {
    sound = marked.sound;
    flags = marked.flags;
    distinct = distinct;
    gone = λ k h. marked.gone k (list_any-IsPermutation (nat_eq k) m.class sorted moved ∙ h);
  }

  pub sorts_class : IsSorted nat_cmp sorted → SortsClass m (record { runs = m.runs; left = m.left; class = sorted })
  sorts_class up = record {
    runs = refl;
    left = refl;
    rising = sorted_from_strictly_increasing sorted (IsStrictlyIncreasing-from_distinct sorted (IsNonDecreasingBy-from_sort (λ x. x) sorted up) distinct);
    members = λ k. sym (list_any-IsPermutation (nat_eq k) m.class sorted moved);
  }
