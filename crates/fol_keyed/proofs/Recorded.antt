-- Which chunks a list has.
use Rattle.std.proofs.Common.{◌≡◌, ℕ, ◌||◌, Bool, true, false, ◌+◌, ◌<◌, length, get_or, take, List, [], ◌∷◌, refl, sym, ◌∙◌, ap, inl, inr, zero, suc, arith, ◌++◌}
use Rattle.std.specs.Prelude.{Contains}
use Rattle.std.proofs.lemmas.Bool.{cases_Bool}
use Rattle.std.proofs.lemmas.List.{take_more}
use Rattle.std.proofs.lemmas.List.Folds.{list_any-append}
use Rattle.fol_keyed.proofs.Places.{same_chunk-true, same_chunk-self}
use Rattle.fol_keyed.specs.Members.{is_listed}
use Rattle.fol_model.specs.declared.places.ChunkPos.{ChunkPos}
use Rattle.fol_model.specs.Geometry.{same_chunk}

-- two chunks are one or not, whichever comes first
pub same_chunk-swap : (a b : ChunkPos) → same_chunk a b ≡ same_chunk b a
same_chunk-swap a b =
    elim (cases_Bool (same_chunk a b)) [
      | inl e ↦ let s : a ≡ b = same_chunk-true a b e in e ∙ sym (ap (λ z. same_chunk b z) s ∙ same_chunk-self b)
      | inr e ↦ elim (cases_Bool (same_chunk b a)) [
        | inl k ↦ let s : b ≡ a = same_chunk-true b a k in let w : true ≡ false = sym (ap (λ z. same_chunk a z) s ∙ same_chunk-self a) ∙ e in cc
        | inr k ↦ e ∙ sym k
      ]
    ]

-- the list of one chunk
pub single-is : (c q : ChunkPos) → is_listed (c ∷ []) q ≡ true → q ≡ c
single-is c q h = go (same_chunk q c) refl
  where
    go : (b : Bool) → same_chunk q c ≡ b → q ≡ c
    go true e = same_chunk-true q c e
    go false e = let z : false ≡ true = rw e at h in cc

pub single-self : (c q : ChunkPos) → c ≡ q → is_listed (c ∷ []) q ≡ true
single-self c q e = let f : same_chunk q c ≡ true = ap (λ z. same_chunk q z) e ∙ same_chunk-self q in rw f refl

-- a chunk of the list by its index
pub recorded_at : (chunks : List ChunkPos) (i : ℕ) (d : ChunkPos) → i < length chunks → is_listed chunks (get_or chunks i d) ≡ true
recorded_at [] i d l = absurd (omega arith)
recorded_at (x ∷ xs) zero d l = rw (same_chunk-self x) refl
recorded_at (x ∷ xs) (suc i) d l = or_second (same_chunk (get_or xs i d) x) (recorded_at xs i d (omega arith))
  where
    or_second : (a : Bool) {b : Bool} → b ≡ true → (a || b) ≡ true
    or_second true e = refl
    or_second false e = e

-- one that stands in the list
pub recorded_in : (xs : List ChunkPos) (x : ChunkPos) → Contains xs x → is_listed xs x ≡ true
recorded_in xs x (i, l, e) = ap (is_listed xs) (sym e) ∙ recorded_at xs i x l

pub recorded_index : (chunks : List ChunkPos) (c d : ChunkPos) → is_listed chunks c ≡ true → (i : ℕ) × (i < length chunks) × (get_or chunks i d ≡ c)
recorded_index [] c d h = (let z : false ≡ true = h in cc)
recorded_index (x ∷ xs) c d h =
    elim (cases_Bool (same_chunk c x)) [
      | inl e ↦ (0, omega arith, sym (same_chunk-true c x e))
      | inr e ↦
          let r : (i : ℕ) × (i < length xs) × (get_or xs i d ≡ c) = recorded_index xs c d (rw e at h) in
          (suc r.0, (let l : r.0 < length xs = r.1 in omega arith), r.2)
    ]

-- a chunk at the end of a list, and one in front of it
pub recorded_last : (xs : List ChunkPos) (c : ChunkPos) → is_listed (xs ++ c ∷ []) c ≡ true
recorded_last [] c = rw (same_chunk-self c) refl
recorded_last (x ∷ xs) c = or_second (same_chunk c x) (recorded_last xs c)
  where
    or_second : (a : Bool) {b : Bool} → b ≡ true → (a || b) ≡ true
    or_second true e = refl
    or_second false e = e

pub recorded_front : (xs ys : List ChunkPos) (c : ChunkPos) → is_listed xs c ≡ true → is_listed (xs ++ ys) c ≡ true
recorded_front [] ys c h = (let z : false ≡ true = h in cc)
recorded_front (x ∷ xs) ys c h = elim (cases_Bool (same_chunk c x)) [
  | inl e ↦ rw e refl
  | inr e ↦ let r : is_listed xs c ≡ true = rw e at h in rw e (recorded_front xs ys c r)
]

-- one chunk more
pub recorded_more : (chunks : List ChunkPos) (i : ℕ) (d q : ChunkPos) → i < length chunks → is_listed (take (i + 1) chunks) q ≡ (is_listed (take i chunks) q || same_chunk (get_or chunks i d) q)
recorded_more chunks i d q l =
    rw (take_more chunks i d l, list_any-append (same_chunk q) (take i chunks) (get_or chunks i d ∷ [])) (last (is_listed (take i chunks) q) (same_chunk q (get_or chunks i d)) (same_chunk (get_or chunks i d) q) (same_chunk-swap q (get_or chunks i d)))
  where
    last : (a b c : Bool) → b ≡ c → (a || (b || false)) ≡ (a || c)
    last true b c e = refl
    last false true c e = e
    last false false c e = e
