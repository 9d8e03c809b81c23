-- A chunk comes to a list of chunks in order, or leaves it.
use Rattle.std.proofs.Common.{◌≡◌, ℕ, zero, suc, ◌<◌, ◌≤◌, Bool, true, false, not, ◌||◌, ◌&&◌, List, [], ◌∷◌, length, get_or, refl, sym, ◌∙◌, ap, inl, inr, arith}
use Rattle.std.specs.List.{IsDistinct, AllByRecursion, insert, remove}
use Rattle.std.specs.List.Sorted.{IsStrictlySortedBy, IsPartitionPoint}
use Rattle.std.specs.declared.cmp.Ordering.TheVariants.{Less, Greater}
use Rattle.std.proofs.lemmas.Bool.{cases_Bool}
use Rattle.fol_model.specs.declared.places.ChunkPos.{ChunkPos}
use Rattle.fol_model.specs.Geometry.{same_chunk}
use Rattle.fol_keyed.specs.Members.{is_listed}
use Rattle.fol_keyed.specs.Order.{chunk_cmp}
use Rattle.fol_keyed.proofs.Places.{same_chunk-true, same_chunk-self, chunk_cmp_total}
use Rattle.fol_keyed.proofs.Sorted.{differ_from_sorted, none_between, sorted_insert, sorted_remove}
use Rattle.fol_keyed.proofs.Recorded.{same_chunk-swap, recorded_at, recorded_index}

-- one more
pub recorded_insert : (xs : List ChunkPos) (i : ℕ) (c q : ChunkPos) → is_listed (insert xs i c) q ≡ (is_listed xs q || same_chunk c q)
recorded_insert [] zero c q = swapped (same_chunk q c) (same_chunk c q) (same_chunk-swap q c)
  where
    swapped : (a b : Bool) → a ≡ b → (a || false) ≡ b
    swapped true b e = e
    swapped false b e = e
recorded_insert [] (suc i) c q = swapped (same_chunk q c) (same_chunk c q) (same_chunk-swap q c)
  where
    swapped : (a b : Bool) → a ≡ b → (a || false) ≡ b
    swapped true b e = e
    swapped false b e = e
recorded_insert (x ∷ xs) zero c q = turned (same_chunk q c) (is_listed (x ∷ xs) q) (same_chunk c q) (same_chunk-swap q c)
  where
    turned : (a b d : Bool) → a ≡ d → (a || b) ≡ (b || d)
    turned true true d e = refl
    turned true false d e = e
    turned false true d e = refl
    turned false false d e = e
recorded_insert (x ∷ xs) (suc i) c q = rw (recorded_insert xs i c q) (grouped (same_chunk q x) (is_listed xs q) (same_chunk c q))
  where
    grouped : (a b d : Bool) → (a || (b || d)) ≡ ((a || b) || d)
    grouped true b d = refl
    grouped false b d = refl

-- one at a known place
pub recorded_where : (xs : List ChunkPos) (i : ℕ) (c : ChunkPos) → i < length xs → ((d : ChunkPos) → get_or xs i d ≡ c) → is_listed xs c ≡ true
recorded_where xs i c l e = ap (is_listed xs) (sym (e c)) ∙ recorded_at xs i c l

-- one between those below it and those above it is not there
pub recorded_between : (xs : List ChunkPos) (i : ℕ) (c : ChunkPos) → IsPartitionPoint (λ q. chunk_cmp q c ≡ Less) (λ q. chunk_cmp q c ≡ Greater) xs i → is_listed xs c ≡ false
recorded_between xs i c p = elim (cases_Bool (is_listed xs c)) [
  | inl r ↦ let at = recorded_index xs c c r in absurd (none_between (λ (z : ChunkPos). z) chunk_cmp chunk_cmp_total xs i c p c (at.0, at.1, at.2) refl)
  | inr r ↦ r
]

-- one that is there already
pub recorded_there : (xs : List ChunkPos) (c q : ChunkPos) → is_listed xs c ≡ true → is_listed xs q ≡ (is_listed xs q || same_chunk c q)
recorded_there xs c q h = elim (cases_Bool (same_chunk c q)) [
  | inl e ↦ let r : is_listed xs q ≡ true = ap (is_listed xs) (sym (same_chunk-true c q e)) ∙ h in rw r refl
  | inr e ↦ rw e (last (is_listed xs q))
]
  where
    last : (a : Bool) → a ≡ (a || false)
    last true = refl
    last false = refl

-- one that is not there
pub recorded_away : (xs : List ChunkPos) (c q : ChunkPos) → is_listed xs c ≡ false → is_listed xs q ≡ (is_listed xs q && not (same_chunk c q))
recorded_away xs c q h = elim (cases_Bool (same_chunk c q)) [
  | inl e ↦ let r : is_listed xs q ≡ false = ap (is_listed xs) (sym (same_chunk-true c q e)) ∙ h in rw r refl
  | inr e ↦ rw e (last (is_listed xs q))
]
  where
    last : (a : Bool) → a ≡ (a && true)
    last true = refl
    last false = refl

-- none of the rest is the first
none_same : (x q : ChunkPos) (xs : List ChunkPos) → AllByRecursion (λ y. same_chunk x y ≡ false) xs → same_chunk x q ≡ true → is_listed xs q ≡ false
none_same x q [] h e = refl
none_same x q (y ∷ ys) h e =
    let s : x ≡ q = same_chunk-true x q e in
    let f : same_chunk q y ≡ false = ap (λ z. same_chunk z y) (sym s) ∙ h.0 in rw f (none_same x q ys h.1 e)

removed : (xs : List ChunkPos) (i : ℕ) (c q : ChunkPos) → IsDistinct same_chunk xs → i < length xs → ((d : ChunkPos) → get_or xs i d ≡ c) → is_listed (remove xs i) q ≡ (is_listed xs q && not (same_chunk c q))
unfolding IsDistinct
removed [] i c q s l e = absurd (omega arith)
removed (x ∷ xs) zero c q s l e =
    let is : x ≡ c = e x in
    elim (cases_Bool (same_chunk c q)) [
      | inl y ↦
          let f : same_chunk x q ≡ true = ap (λ z. same_chunk z q) is ∙ y in
          let g : is_listed xs q ≡ false = none_same x q xs s.0 f in rw (y, g) (never (same_chunk q x || false))
      | inr y ↦
          let f : same_chunk q x ≡ false = same_chunk-swap q x ∙ ap (λ z. same_chunk z q) is ∙ y in rw (f, y) (last (is_listed xs q))
    ]
  where
    never : (a : Bool) → false ≡ (a && false)
    never true = refl
    never false = refl

    last : (a : Bool) → a ≡ (a && true)
    last true = refl
    last false = refl
removed (x ∷ xs) (suc i) c q s l e =
    rw (removed xs i c q s.1 (omega arith) e) (split (same_chunk q x) (is_listed xs q) (same_chunk c q) both)
  where
    -- the first is not the one that leaves
    both : same_chunk q x ≡ true → same_chunk c q ≡ false
    both f = elim (cases_Bool (same_chunk c q)) [
      | inl y ↦
          let r : is_listed xs c ≡ true = ap (is_listed xs) (sym (e c)) ∙ recorded_at xs i c (omega arith) in
          let t : same_chunk x c ≡ true = ap (λ z. same_chunk z c) (sym (same_chunk-true q x f)) ∙ ap (λ z. same_chunk z c) (sym (same_chunk-true c q y)) ∙ same_chunk-self c in
          let z : true ≡ false = sym r ∙ none_same x c xs s.0 t in cc
      | inr y ↦ y
    ]

    split : (a b d : Bool) → (a ≡ true → d ≡ false) → (a || (b && not d)) ≡ ((a || b) && not d)
    split true b d h = let f : d ≡ false = h refl in rw f refl
    split false b d h = refl

-- one less
pub recorded_remove : (xs : List ChunkPos) (i : ℕ) (c q : ChunkPos) → IsStrictlySortedBy chunk_cmp xs → i < length xs → ((d : ChunkPos) → get_or xs i d ≡ c) → is_listed (remove xs i) q ≡ (is_listed xs q && not (same_chunk c q))
recorded_remove xs i c q s l e = removed xs i c q (differ_from_sorted (λ (z : ChunkPos). z) chunk_cmp chunk_cmp_total same_chunk same_chunk-true xs s) l e

pub order_insert : (xs : List ChunkPos) (i : ℕ) (c : ChunkPos) → IsStrictlySortedBy chunk_cmp xs → i ≤ length xs → IsPartitionPoint (λ q. chunk_cmp q c ≡ Less) (λ q. chunk_cmp q c ≡ Greater) xs i → IsStrictlySortedBy chunk_cmp (insert xs i c)
order_insert xs i c s l p = sorted_insert (λ (z : ChunkPos). z) chunk_cmp chunk_cmp_total xs i c s l p

pub order_remove : (xs : List ChunkPos) (i : ℕ) → IsStrictlySortedBy chunk_cmp xs → IsStrictlySortedBy chunk_cmp (remove xs i)
order_remove xs i s = sorted_remove (λ (z : ChunkPos). z) chunk_cmp chunk_cmp_total xs i s
