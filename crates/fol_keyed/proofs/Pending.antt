-- A list after the changes that wait.
use Rattle.std.proofs.Common.{◌≡◌, ◌≢◌, ℕ, zero, suc, ◌+◌, ◌<◌, ◌≤◌, Bool, true, false, not, ◌||◌, ◌&&◌, List, [], ◌∷◌, ◌++◌, length, get_or, take, drop, refl, sym, ◌∙◌, ap, inl, inr, ◌⊎◌, arith, drop-cons}
use Rattle.std.specs.Prelude.{Contains, filter}
use Rattle.std.specs.List.{AllByRecursion, AllWithin, insert, remove}
use Rattle.std.specs.List.Sorted.{IsStrictlySortedBy, IsPartitionPoint}
use Rattle.std.specs.Cmp.{tied_itself}
use Rattle.std.specs.Ordering.{is_lt, ordering_reverse}
use Rattle.std.specs.declared.cmp.Ordering.{Ordering}
use Rattle.std.specs.declared.cmp.Ordering.TheVariants.{Less, Equal, Greater}
use Rattle.std.proofs.lemmas.Bool.{cases_Bool, cases_eq}
use Rattle.std.proofs.lemmas.List.Elements.{All-contains, filter_passes}
use Rattle.std.proofs.lemmas.List.Folds.{list_any-append}
use Rattle.std.proofs.lemmas.List.Kept.{IsStrictlySortedBy-filter}
use Rattle.std.proofs.lemmas.Map.Keys.{Less-from_sorted}
use Rattle.std.proofs.lemmas.Map.Views.{any-filter_same}
use Rattle.fol_model.specs.declared.places.ChunkPos.{ChunkPos}
use Rattle.fol_model.specs.Geometry.{same_chunk}
use Rattle.fol_keyed.specs.Members.{is_listed}
use Rattle.fol_keyed.specs.Order.{chunk_cmp}
use Rattle.fol_keyed.proofs.Places.{same_chunk-true, same_chunk-self, chunk_cmp_total, chunk_cmp_tells}
use Rattle.fol_keyed.proofs.Sorted.{sorted_append}
use Rattle.fol_keyed.specs.ChunkSets.{IsPending, changed, is_pending, unless_there}
use Rattle.fol_keyed.proofs.Recorded.{recorded_in}
use Rattle.fol_keyed.proofs.OneMore.{recorded_insert, recorded_remove}

abbrev before : ChunkPos → ChunkPos → Bool
before c q = is_lt (chunk_cmp q c)

abbrev behind : ChunkPos → ChunkPos → Bool
behind c q = is_lt (chunk_cmp c q)

is_less : (r : Ordering) → is_lt r ≡ true → r ≡ Less
is_less Less h = refl
is_less Equal h = cc
is_less Greater h = cc

-- a chunk is in a list or not, and changes or not
abbrev comes_to : Bool → Bool → Bool
comes_to a m = (a && not m) || (not a && m)

swapped : (a b : Bool) → comes_to a b ≡ comes_to b a
swapped true true = refl
swapped true false = refl
swapped false true = refl
swapped false false = refl

-- a chunk of a list that passes
recorded_filter : (p : ChunkPos → Bool) (xs : List ChunkPos) (q : ChunkPos) → is_listed (filter p xs) q ≡ (p q && is_listed xs q)
recorded_filter p xs q = any-filter_same (same_chunk q) p (p q) (λ k e. ap p (sym (same_chunk-true q k e))) xs

-- one behind all
all_behind : (c : ChunkPos) (cs : List ChunkPos) (q : ChunkPos) → AllByRecursion (λ y. chunk_cmp c y ≡ Less) cs → is_listed cs q ≡ true → chunk_cmp c q ≡ Less
all_behind c [] q h r = (let z : false ≡ true = r in cc)
all_behind c (y ∷ ys) q h r = elim (cases_Bool (same_chunk q y)) [
  | inl e ↦ ap (chunk_cmp c) (same_chunk-true q y e) ∙ h.0
  | inr e ↦ all_behind c ys q h.1 (rw e at r)
]

module _ (c : ChunkPos) (cs : List ChunkPos) (rise : AllByRecursion (λ y. chunk_cmp c y ≡ Less) cs) (q : ChunkPos) where
  none_yet : chunk_cmp c q ≢ Less → is_listed cs q ≡ false
  none_yet n = elim (cases_Bool (is_listed cs q)) [
    | inl r ↦ absurd (n (all_behind c cs q rise r))
    | inr r ↦ r
  ]

unless_has : (xs : List ChunkPos) (c q : ChunkPos) → is_listed (unless_there xs c) q ≡ (same_chunk q c && not (is_listed xs c))
unless_has xs c q = elim (cases_Bool (is_listed xs c)) [
  | inl e ↦ rw e (never (same_chunk q c))
  | inr e ↦ rw e (once (same_chunk q c))
]
  where
    never : (a : Bool) → false ≡ (a && false)
    never true = refl
    never false = refl

    once : (a : Bool) → (a || false) ≡ (a && true)
    once true = refl
    once false = refl

-- one chunk with one change before others
module _ (c q : ChunkPos) (r n m : Bool) (same : same_chunk q c ≡ true → n ≡ not r) (later : chunk_cmp c q ≢ Less → m ≡ false) where
  abbrev now : Bool
  now = ((before c q && r) || (same_chunk q c && n)) || (((behind c q && r) && not m) || (not (behind c q && r) && m))

  abbrev then : Bool
  then = (r && not (same_chunk q c || m)) || (not r && (same_chunk q c || m))

  apart : chunk_cmp q c ≢ Equal → same_chunk q c ≡ false
  apart n = elim (cases_Bool (same_chunk q c)) [
    | inl e ↦ absurd (n (ap (chunk_cmp q) (sym (same_chunk-true q c e)) ∙ tied_itself chunk_cmp_total q))
    | inr e ↦ e
  ]

  one_change : now ≡ then
  one_change = go (chunk_cmp q c) (chunk_cmp c q) refl refl
    where
      less : (r n : Bool) → ((true && r) || (false && n)) || (((false && r) && not false) || (not (false && r) && false)) ≡ (r && not (false || false)) || (not r && (false || false))
      less true n = refl
      less false n = refl

      equal : (r : Bool) → ((false && r) || (true && not r)) || (((false && r) && not false) || (not (false && r) && false)) ≡ (r && not (true || false)) || (not r && (true || false))
      equal true = refl
      equal false = refl

      go : (a b : Ordering) → chunk_cmp q c ≡ a → chunk_cmp c q ≡ b → now ≡ then
      go Less b e f =
          let g : chunk_cmp c q ≡ Greater = chunk_cmp_total.antisymm c q ∙ ap ordering_reverse e in
          let k : m ≡ false = later (λ h. let z : Greater ≡ Less = sym g ∙ h in cc) in
          let s : same_chunk q c ≡ false = apart (λ h. let z : Less ≡ Equal = sym e ∙ h in cc) in
          rw (e, g, k, s) (less r n)
      go Equal b e f =
          let is : q ≡ c = chunk_cmp_tells q c e in
          let g : chunk_cmp c q ≡ Equal = chunk_cmp_total.antisymm c q ∙ ap ordering_reverse e in
          let k : m ≡ false = later (λ h. let z : Equal ≡ Less = sym g ∙ h in cc) in
          let s : same_chunk q c ≡ true = ap (same_chunk q) (sym is) ∙ same_chunk-self q in
          rw (e, g, k, s, same s) (equal r)
      go Greater b e f =
          let g : chunk_cmp c q ≡ Less = chunk_cmp_total.antisymm c q ∙ ap ordering_reverse e in
          let s : same_chunk q c ≡ false = apart (λ h. let z : Greater ≡ Equal = sym e ∙ h in cc) in
          rw (e, g, s) refl

-- which chunks the list has then
pub changed_has : (xs cs : List ChunkPos) → IsStrictlySortedBy chunk_cmp cs → (q : ChunkPos) → is_listed (changed xs cs) q ≡ is_pending xs cs q
unfolding IsStrictlySortedBy changed
changed_has xs [] s q = plain (is_listed xs q)
  where
    plain : (a : Bool) → a ≡ ((a && true) || (not a && false))
    plain true = refl
    plain false = refl
changed_has xs (c ∷ cs) s q =
    list_any-append (same_chunk q) (filter (before c) xs ++ unless_there xs c) (changed (filter (behind c) xs) cs)
    ∙ (λ i. front i || rest (changed_has (filter (behind c) xs) cs s.1 q) i)
    ∙ one_change c q (is_listed xs q) (not (is_listed xs c)) (is_listed cs q) (λ e. ap (λ z. not (is_listed xs z)) (sym (same_chunk-true q c e))) (none_yet c cs s.0 q)
  where
    front : is_listed (filter (before c) xs ++ unless_there xs c) q ≡ ((before c q && is_listed xs q) || (same_chunk q c && not (is_listed xs c)))
    front = list_any-append (same_chunk q) (filter (before c) xs) (unless_there xs c) ∙ (λ i. recorded_filter (before c) xs q i || unless_has xs c q i)

    rest : is_listed (changed (filter (behind c) xs) cs) q ≡ is_pending (filter (behind c) xs) cs q → is_listed (changed (filter (behind c) xs) cs) q ≡ comes_to (behind c q && is_listed xs q) (is_listed cs q)
    rest h = h ∙ ap (λ a. comes_to a (is_listed cs q)) (recorded_filter (behind c) xs q)

-- and they rise
pub changed_rises : (xs cs : List ChunkPos) → IsStrictlySortedBy chunk_cmp xs → IsStrictlySortedBy chunk_cmp cs → IsStrictlySortedBy chunk_cmp (changed xs cs)
unfolding IsStrictlySortedBy changed
changed_rises xs [] s t = s
changed_rises xs (c ∷ cs) s t =
    let key : ChunkPos → ChunkPos = λ z. z in
    sorted_append key chunk_cmp chunk_cmp_total (filter (before c) xs ++ unless_there xs c) (changed (filter (behind c) xs) cs)
    (sorted_append key chunk_cmp chunk_cmp_total (filter (before c) xs) (unless_there xs c) (IsStrictlySortedBy-filter chunk_cmp (before c) xs s) (single xs)
    (λ x y m n. ap (chunk_cmp x) (only y n) ∙ less x m))
    (changed_rises (filter (behind c) xs) cs (IsStrictlySortedBy-filter chunk_cmp (behind c) xs s) t.1)
    (λ x y m n. below x y (recorded_in (filter (before c) xs ++ unless_there xs c) x m) (recorded_in (changed (filter (behind c) xs) cs) y n))
  where
    single : (xs : List ChunkPos) → IsStrictlySortedBy chunk_cmp (unless_there xs c)
    single xs = elim (cases_Bool (is_listed xs c)) [
      | inl e ↦ rw e tt
      | inr e ↦ rw e (tt, tt)
    ]

    -- those in front are before the chunk or it, and the others behind it
    front : (x : ChunkPos) → is_listed (filter (before c) xs ++ unless_there xs c) x ≡ true → (chunk_cmp x c ≡ Less) ⊎ (x ≡ c)
    front x h = go (before c x) (same_chunk x c) refl refl
      where
        at : ((before c x && is_listed xs x) || (same_chunk x c && not (is_listed xs c))) ≡ true
        at = sym (list_any-append (same_chunk x) (filter (before c) xs) (unless_there xs c) ∙ (λ i. recorded_filter (before c) xs x i || unless_has xs c x i)) ∙ h

        go : (a b : Bool) → before c x ≡ a → same_chunk x c ≡ b → (chunk_cmp x c ≡ Less) ⊎ (x ≡ c)
        go true b e f = inl (is_less (chunk_cmp x c) e)
        go false true e f = inr (same_chunk-true x c f)
        go false false e f = let z : false ≡ true = rw (e, f) at at in cc

    back : (y : ChunkPos) → is_listed (changed (filter (behind c) xs) cs) y ≡ true → chunk_cmp c y ≡ Less
    back y h = go (behind c y) (is_listed cs y) refl refl
      where
        at : comes_to (behind c y && is_listed xs y) (is_listed cs y) ≡ true
        at = sym (changed_has (filter (behind c) xs) cs t.1 y ∙ ap (λ a. comes_to a (is_listed cs y)) (recorded_filter (behind c) xs y)) ∙ h

        go : (a b : Bool) → behind c y ≡ a → is_listed cs y ≡ b → chunk_cmp c y ≡ Less
        go true b e f = is_less (chunk_cmp c y) e
        go false true e f = all_behind c cs y t.0 f
        go false false e f = let z : false ≡ true = rw (e, f) at at in cc

    below : (x y : ChunkPos) → is_listed (filter (before c) xs ++ unless_there xs c) x ≡ true → is_listed (changed (filter (behind c) xs) cs) y ≡ true → chunk_cmp x y ≡ Less
    below x y m n = elim (front x m) [
      | inl e ↦ chunk_cmp_total.trans x c y e (back y n)
      | inr e ↦ ap (λ z. chunk_cmp z y) e ∙ back y n
    ]

    less : (x : ChunkPos) → Contains (filter (before c) xs) x → chunk_cmp x c ≡ Less
    less x m = is_less (chunk_cmp x c) (All-contains (λ z. before c z ≡ true) (filter (before c) xs) x (filter_passes (before c) xs) m)

    only : (y : ChunkPos) → Contains (unless_there xs c) y → y ≡ c
    only y n = elim (cases_Bool (is_listed xs c)) [
      | inl e ↦ let k : Contains [] y = rw e at n in absurd (no_item y k)
      | inr e ↦ let k : Contains (c ∷ []) y = rw e at n in single_item y k
    ]
      where
        no_item : (y : ChunkPos) → Contains [] y → ⊥
        no_item y (k, l, e) = omega (arith, l)

        single_item : (y : ChunkPos) → Contains (c ∷ []) y → y ≡ c
        single_item y (zero, l, e) = sym e
        single_item y (suc k, l, e) = absurd (omega (arith, l))

-- ---- one change more or less
module _ (xs cs : List ChunkPos) (c q : ChunkPos) where
  known : (zs : List ChunkPos) (b : Bool) → is_listed zs c ≡ b → same_chunk c q ≡ true → is_listed zs q ≡ b
  known zs b e s = ap (is_listed zs) (sym (same_chunk-true c q s)) ∙ e

  one_more : (a b s : Bool) → (s ≡ true → b ≡ false) → comes_to (a || s) b ≡ (comes_to a b || s)
  one_more a b true h = rw (h refl) (all a)
    where
      all : (a : Bool) → comes_to (a || true) false ≡ (comes_to a false || true)
      all true = refl
      all false = refl
  one_more true true false h = refl
  one_more true false false h = refl
  one_more false true false h = refl
  one_more false false false h = refl

  one_less : (a b s : Bool) → (s ≡ true → b ≡ false) → comes_to (a && not s) b ≡ (comes_to a b && not s)
  one_less a b true h = rw (h refl) (all a)
    where
      all : (a : Bool) → comes_to (a && false) false ≡ (comes_to a false && false)
      all true = refl
      all false = refl
  one_less true true false h = refl
  one_less true false false h = refl
  one_less false true false h = refl
  one_less false false false h = refl

  leave_changes : (a b s : Bool) → (s ≡ true → a ≡ true) → comes_to a (b || s) ≡ (comes_to a b && not s)
  leave_changes a b true h = rw (h refl) (all b)
    where
      all : (b : Bool) → comes_to true (b || true) ≡ (comes_to true b && false)
      all true = refl
      all false = refl
  leave_changes true true false h = refl
  leave_changes true false false h = refl
  leave_changes false true false h = refl
  leave_changes false false false h = refl

  back_changes : (a b s : Bool) → (s ≡ true → a ≡ true) → comes_to a (b && not s) ≡ (comes_to a b || s)
  back_changes a b true h = rw (h refl) (all b)
    where
      all : (b : Bool) → comes_to true (b && false) ≡ (comes_to true b || true)
      all true = refl
      all false = refl
  back_changes true true false h = refl
  back_changes true false false h = refl
  back_changes false true false h = refl
  back_changes false false false h = refl

  pub list_more : (i : ℕ) → is_listed cs c ≡ false → is_pending (insert xs i c) cs q ≡ (is_pending xs cs q || same_chunk c q)
  list_more i n = ap (λ a. comes_to a (is_listed cs q)) (recorded_insert xs i c q) ∙ one_more (is_listed xs q) (is_listed cs q) (same_chunk c q) (known cs false n)

  pub changes_more : (j : ℕ) → is_listed xs c ≡ false → is_pending xs (insert cs j c) q ≡ (is_pending xs cs q || same_chunk c q)
  changes_more j n =
      ap (comes_to (is_listed xs q)) (recorded_insert cs j c q)
      ∙ swapped (is_listed xs q) (is_listed cs q || same_chunk c q)
      ∙ one_more (is_listed cs q) (is_listed xs q) (same_chunk c q) (known xs false n)
      ∙ ap (λ a. a || same_chunk c q) (swapped (is_listed cs q) (is_listed xs q))

  pub list_less : (i : ℕ) → IsStrictlySortedBy chunk_cmp xs → i < length xs → ((d : ChunkPos) → get_or xs i d ≡ c) → is_listed cs c ≡ false → is_pending (remove xs i) cs q ≡ (is_pending xs cs q && not (same_chunk c q))
  list_less i s l at n = ap (λ a. comes_to a (is_listed cs q)) (recorded_remove xs i c q s l at) ∙ one_less (is_listed xs q) (is_listed cs q) (same_chunk c q) (known cs false n)

  pub changes_leave : (j : ℕ) → is_listed xs c ≡ true → is_pending xs (insert cs j c) q ≡ (is_pending xs cs q && not (same_chunk c q))
  changes_leave j h = ap (comes_to (is_listed xs q)) (recorded_insert cs j c q) ∙ leave_changes (is_listed xs q) (is_listed cs q) (same_chunk c q) (known xs true h)

  module _ (less : List ChunkPos) (has : is_listed less q ≡ (is_listed cs q && not (same_chunk c q))) where
    pub changes_back : is_listed xs c ≡ true → is_pending xs less q ≡ (is_pending xs cs q || same_chunk c q)
    changes_back h = ap (comes_to (is_listed xs q)) has ∙ back_changes (is_listed xs q) (is_listed cs q) (same_chunk c q) (known xs true h)

    pub changes_less : is_listed xs c ≡ false → is_pending xs less q ≡ (is_pending xs cs q && not (same_chunk c q))
    changes_less n =
        ap (comes_to (is_listed xs q)) has
        ∙ swapped (is_listed xs q) (is_listed cs q && not (same_chunk c q))
        ∙ one_less (is_listed cs q) (is_listed xs q) (same_chunk c q) (known xs false n)
        ∙ ap (λ a. a && not (same_chunk c q)) (swapped (is_listed cs q) (is_listed xs q))

-- the list rises where it does after the changes
pub list_in_order : (xs cs : List ChunkPos) (room : ℕ) → IsPending xs cs room → IsStrictlySortedBy chunk_cmp (changed xs cs) → IsStrictlySortedBy chunk_cmp xs
unfolding changed
list_in_order xs [] room p s = s
list_in_order xs (c ∷ cs) room p s = p.list_rises (omega arith)

-- a chunk that waits, and is not in the list, is there; one that is in the list, and waits, is not
pub pending_come : (xs cs : List ChunkPos) (c : ChunkPos) → is_listed xs c ≡ false → is_listed cs c ≡ true → is_pending xs cs c ≡ true
pending_come xs cs c n h = rw (n, h) refl

pub pending_there : (xs cs : List ChunkPos) (c : ChunkPos) → is_listed xs c ≡ true → is_listed cs c ≡ true → is_pending xs cs c ≡ false
pending_there xs cs c n h = rw (n, h) refl

-- ---- the chunks before one, and those behind it
module _ {X : Type 0} (p : X → Bool) where
  filter_front : (xs : List X) (i : ℕ) → i ≤ length xs → AllWithin (λ x. p x ≡ true) xs 0 i → AllWithin (λ x. p x ≡ false) xs i (length xs) → filter p xs ≡ take i xs
  filter_front [] zero l t f = refl
  filter_front [] (suc i) l t f = absurd (omega (arith, l))
  filter_front (x ∷ xs) zero l t f =
      rw (f 0 x (omega arith) (omega arith))
      (filter_front xs zero (omega arith) (λ k d a b. absurd (omega (arith, b))) (λ k d a b. f (suc k) d (omega arith) (omega arith)))
  filter_front (x ∷ xs) (suc i) l t f =
      rw (t 0 x (omega arith) (omega arith))
      (ap (λ ys. x ∷ ys) (filter_front xs i (omega arith) (λ k d a b. t (suc k) d (omega arith) (omega arith)) (λ k d a b. f (suc k) d (omega arith) (omega arith))))

  filter_back : (xs : List X) (i : ℕ) → i ≤ length xs → AllWithin (λ x. p x ≡ false) xs 0 i → AllWithin (λ x. p x ≡ true) xs i (length xs) → filter p xs ≡ drop i xs
  filter_back [] zero l f t = refl
  filter_back [] (suc i) l f t = absurd (omega (arith, l))
  filter_back (x ∷ xs) zero l f t =
      rw (t 0 x (omega arith) (omega arith))
      (ap (λ ys. x ∷ ys) (filter_back xs zero (omega arith) (λ k d a b. absurd (omega (arith, b))) (λ k d a b. t (suc k) d (omega arith) (omega arith))))
  filter_back (x ∷ xs) (suc i) l f t =
      rw (f 0 x (omega arith) (omega arith))
      (filter_back xs i (omega arith) (λ k d a b. f (suc k) d (omega arith) (omega arith)) (λ k d a b. t (suc k) d (omega arith) (omega arith)))

module _ (xs : List ChunkPos) (c : ChunkPos) (i : ℕ) where
  turned : (q : ChunkPos) (r : Ordering) → chunk_cmp q c ≡ r → chunk_cmp c q ≡ ordering_reverse r
  turned q r e = chunk_cmp_total.antisymm c q ∙ ap ordering_reverse e

  -- the chunk stands between two of the list
  module _ (l : i ≤ length xs) (at : IsPartitionPoint (λ q. chunk_cmp q c ≡ Less) (λ q. chunk_cmp q c ≡ Greater) xs i) where
    pub gap_front : filter (before c) xs ≡ take i xs
    gap_front = filter_front (before c) xs i l (λ k d a b. ap is_lt (at.0 k d a b)) (λ k d a b. ap is_lt (at.1 k d a b))

    pub gap_back : filter (behind c) xs ≡ drop i xs
    gap_back = filter_back (behind c) xs i l
        (λ k d a b. ap is_lt (turned _ _ (at.0 k d a b)))
        (λ k d a b. ap is_lt (turned _ _ (at.1 k d a b)))

  -- the chunk is one of the list
  module _ (s : IsStrictlySortedBy chunk_cmp xs) (l : i < length xs) (at : (d : ChunkPos) → get_or xs i d ≡ c) where
    under : (k : ℕ) (d : ChunkPos) → k < i → chunk_cmp (get_or xs k d) c ≡ Less
    under k d b = ap (chunk_cmp (get_or xs k d)) (sym (at d)) ∙ Less-from_sorted chunk_cmp xs k i d s b l

    over : (k : ℕ) (d : ChunkPos) → i < k → k < length xs → chunk_cmp c (get_or xs k d) ≡ Less
    over k d a b = ap (λ z. chunk_cmp z (get_or xs k d)) (sym (at d)) ∙ Less-from_sorted chunk_cmp xs i k d s a b

    pub known_front : filter (before c) xs ≡ take i xs
    known_front = filter_front (before c) xs i (omega arith) (λ k d a b. ap is_lt (under k d b)) (λ k d a b. not_before k d a b)
      where
        not_before : (k : ℕ) (d : ChunkPos) → i ≤ k → k < length xs → before c (get_or xs k d) ≡ false
        not_before k d a b = elim (cases_eq k i) [
          | inl e ↦ ap (before c) (ap (λ n. get_or xs n d) e ∙ at d) ∙ ap is_lt (tied_itself chunk_cmp_total c)
          | inr n ↦ ap is_lt (chunk_cmp_total.antisymm (get_or xs k d) c ∙ ap ordering_reverse (over k d (omega (arith, n)) b))
        ]

    pub known_back : filter (behind c) xs ≡ drop (i + 1) xs
    known_back = filter_back (behind c) xs (i + 1) (omega arith) (λ k d a b. not_behind k d b) (λ k d a b. ap is_lt (over k d (omega arith) b))
      where
        not_behind : (k : ℕ) (d : ChunkPos) → k < i + 1 → behind c (get_or xs k d) ≡ false
        not_behind k d b = elim (cases_eq k i) [
          | inl e ↦ ap (behind c) (ap (λ n. get_or xs n d) e ∙ at d) ∙ ap is_lt (tied_itself chunk_cmp_total c)
          | inr n ↦ ap is_lt (chunk_cmp_total.antisymm c (get_or xs k d) ∙ ap ordering_reverse (under k d (omega (arith, n))))
        ]

-- the first change of the rest
pub changed_next : (xs cs : List ChunkPos) (k : ℕ) (d : ChunkPos) → k < length cs
    → changed xs (drop k cs) ≡ (filter (before (get_or cs k d)) xs ++ unless_there xs (get_or cs k d)) ++ changed (filter (behind (get_or cs k d)) xs) (drop (k + 1) cs)
unfolding changed
changed_next xs cs k d l =
    let next : suc k ≡ k + 1 = omega arith in
    ap (changed xs) (drop-cons cs k d l) ∙ ap (λ n. (filter (before (get_or cs k d)) xs ++ unless_there xs (get_or cs k d)) ++ changed (filter (behind (get_or cs k d)) xs) (drop n cs)) next

pub changed_none : (xs cs : List ChunkPos) (k : ℕ) → length cs ≤ k → changed xs (drop k cs) ≡ xs
unfolding changed
changed_none xs [] zero l = refl
changed_none xs [] (suc k) l = refl
changed_none xs (c ∷ cs) zero l = absurd (omega (arith, l))
changed_none xs (c ∷ cs) (suc k) l = changed_none xs cs k (omega (arith, l))

-- ---- where no change waits
pub none_pending : (xs cs : List ChunkPos) (room : ℕ) → cs ≡ [] → IsPending xs cs room
unfolding IsStrictlySortedBy
none_pending xs cs room e = record {
  changes_rise = rw e tt;
  list_rises = λ l. (let n : length cs ≡ 0 = ap length e in absurd (omega (arith, l)));
  enough = λ l. (let n : length cs ≡ 0 = ap length e in absurd (omega (arith, l)));
}

pub changed_nothing : (xs cs : List ChunkPos) → cs ≡ [] → changed xs cs ≡ xs
unfolding changed
changed_nothing xs cs e = rw e refl
