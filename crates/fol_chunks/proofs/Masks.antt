-- Chunks that are marked as bits.
use Rattle.std.proofs.Common.{◌≡◌, ◌≢◌, ℕ, ◌+◌, ◌*◌, ◌/◌, ◌%◌, ◌<◌, Bool, true, false, ◌||◌, List, length, get_or, replicate, refl, sym, ◌∙◌, inl, inr, arith, w64, eq-eqb}
use Rattle.std.specs.Prelude.{ℤ, pos, ◌+ℤ◌, ◌&&◌, ◌^◌, nat_eq, bit_and, bit_or}
use Rattle.std.specs.Int.{bit_at}
use Rattle.std.proofs.lemmas.Bool.{cases_Bool, and_parts, eqb-true}
use Rattle.std.proofs.Math.Bool.{or-false}
use Rattle.std.proofs.lemmas.Int.{ints}
use Rattle.std.proofs.lemmas.List.{get_or-replicate, get_or-set_same, get_or-set_other}
use Rattle.std.proofs.lemmas.Nat.Bits.{shr_and_one, bit_at-zero, bit_at_set_same, bit_at_set_other}
use Rattle.std.proofs.Math.ListN.{set}
use Rattle.fol_model.specs.declared.places.ChunkPos.{ChunkPos}
use Rattle.fol_model.specs.Geometry.{same_chunk}
use Rattle.fol_keyed.proofs.Places.{same_chunk-true, same_chunk-self}
use Rattle.fol_chunks.specs.Masks.{is_near, offset, is_marked}
use Rattle.fol_chunks.proofs.Strides.{from_to_parts}

-- the number of one of 64 numbers is below 64
pub offset_below : (first x : ℤ) → is_near first x ≡ true → offset first x < 64
offset_below first x h = let p = from_to_parts first (first +ℤ pos 63) x h in omega (arith, ints, p.0, p.1)

-- and tells it from the others
offset_tells : (first x y : ℤ) → is_near first x ≡ true → is_near first y ≡ true → offset first x ≡ offset first y → x ≡ y
offset_tells first x y h g e =
    let p = from_to_parts first (first +ℤ pos 63) x h in
    let q = from_to_parts first (first +ℤ pos 63) y g in
    omega (arith, ints, p.0, p.1, q.0, q.1, e)

same_place : (a b : ChunkPos) → a.x ≡ b.x → a.z ≡ b.z → a ≡ b
same_place a b p q = λ i. record { x = p i; z = q i }

-- no bit is set
pub none_marked : (corner c : ChunkPos) → is_marked corner (replicate {A = ℕ} 64 0) c ≡ false
none_marked corner c =
    elim (cases_Bool (is_near corner.x c.x && is_near corner.z c.z)) [
      | inl t ↦
          let p = and_parts (is_near corner.x c.x) (is_near corner.z c.z) t in
          let row : get_or (replicate {A = ℕ} 64 0) (offset corner.z c.z) 0 ≡ 0 = get_or-replicate 64 (offset corner.z c.z) 0 0 (offset_below corner.z c.z p.1) in
          rw (t, row, bit_at-zero (offset corner.x c.x)) refl
      | inr e ↦ rw e refl
    ]

-- the rows with one more bit
abbrev with_bit : List ℕ → ℕ → ℕ → List ℕ
with_bit rows row column = set rows row (bit_or (get_or rows row 0) (1 * 2 ^ column % 2 ^ 64))

-- it is set
bit_there : (rows : List ℕ) (row column : ℕ) → row < length rows → column < 64 → bit_at (get_or (with_bit rows row column) row 0) column ≡ 1
bit_there rows row column l b = rw (get_or-set_same rows row (bit_or (get_or rows row 0) (1 * 2 ^ column % 2 ^ 64)) 0 l) (bit_at_set_same w64 (get_or rows row 0) column b)

-- and each other is as it was
bit_elsewhere : (rows : List ℕ) (row column i j : ℕ) → row < length rows → column < 64 → (i ≡ row → j ≡ column → ⊥) → bit_at (get_or (with_bit rows row column) i 0) j ≡ bit_at (get_or rows i 0) j
bit_elsewhere rows row column i j l b n =
    elim (cases_Bool (nat_eq i row)) [
      | inl t ↦
          let same : i ≡ row = eqb-true i row t in
          let other : j ≢ column = n same in
          rw (same, get_or-set_same rows row (bit_or (get_or rows row 0) (1 * 2 ^ column % 2 ^ 64)) 0 l) (bit_at_set_other w64 (get_or rows row 0) column b j other)
      | inr e ↦
          let other : i ≢ row = λ s. let w : nat_eq i row ≡ true = eq-eqb i row s in let v : true ≡ false = sym w ∙ e in cc in
          rw (get_or-set_other rows row i (bit_or (get_or rows row 0) (1 * 2 ^ column % 2 ^ 64)) 0 other) refl
    ]

-- a chunk is marked
module _ (corner c : ChunkPos) (rows : List ℕ) (near_x : is_near corner.x c.x ≡ true) (near_z : is_near corner.z c.z ≡ true) (below : offset corner.z c.z < length rows) where
  marked_itself : (q : ChunkPos) → q ≡ c → is_marked corner (with_bit rows (offset corner.z c.z) (offset corner.x c.x)) q ≡ true
  marked_itself q e = rw (e, near_x, near_z, bit_there rows (offset corner.z c.z) (offset corner.x c.x) below (offset_below corner.x c.x near_x)) refl

  marked_others : (q : ChunkPos) → same_chunk q c ≡ false → is_marked corner (with_bit rows (offset corner.z c.z) (offset corner.x c.x)) q ≡ is_marked corner rows q
  marked_others q other =
      elim (cases_Bool (is_near corner.x q.x && is_near corner.z q.z)) [
        | inl t ↦
            let p = and_parts (is_near corner.x q.x) (is_near corner.z q.z) t in
            let kept = bit_elsewhere rows (offset corner.z c.z) (offset corner.x c.x) (offset corner.z q.z) (offset corner.x q.x) below (offset_below corner.x c.x near_x) (λ r k.
            let same : q ≡ c = same_place q c (offset_tells corner.x q.x c.x p.0 near_x k) (offset_tells corner.z q.z c.z p.1 near_z r) in
            let w : same_chunk q c ≡ true = rw same (same_chunk-self c) in
            let v : true ≡ false = sym w ∙ other in
            cc) in
            rw (t, kept) refl
        | inr e ↦ rw e refl
      ]

  pub one_marked : (q : ChunkPos) → is_marked corner (with_bit rows (offset corner.z c.z) (offset corner.x c.x)) q ≡ (is_marked corner rows q || same_chunk q c)
  one_marked q =
      elim (cases_Bool (same_chunk q c)) [
        | inl t ↦ marked_itself q (same_chunk-true q c t) ∙ rw t (sym (or_true (is_marked corner rows q)))
        | inr e ↦ marked_others q e ∙ rw e (sym (or-false (is_marked corner rows q)))
      ]
    where
      or_true : (b : Bool) → (b || true) ≡ true
      or_true true = refl
      or_true false = refl

-- the same where the row and the column are known by other names
pub one_marked_at : (corner c : ChunkPos) (rows : List ℕ) (row column : ℕ) → is_near corner.x c.x ≡ true → is_near corner.z c.z ≡ true → row < length rows → row ≡ offset corner.z c.z → column ≡ offset corner.x c.x
    → (q : ChunkPos) → is_marked corner (with_bit rows row column) q ≡ (is_marked corner rows q || same_chunk q c)
one_marked_at corner c rows row column x z below r k q = rw (r, k) (one_marked corner c rows x z (rw r at below) q)

-- the test of the bit
pub bit_tested : (corner c : ChunkPos) (rows : List ℕ) (row column : ℕ) → is_near corner.x c.x ≡ true → is_near corner.z c.z ≡ true → row ≡ offset corner.z c.z → column ≡ offset corner.x c.x
    → nat_eq (bit_and (get_or rows row 0 / 2 ^ column) 1) 1 ≡ is_marked corner rows c
bit_tested corner c rows row column x z r k = rw (x, z, shr_and_one (get_or rows row 0) column, r, k) refl

pub far_column : (corner c : ChunkPos) (rows : List ℕ) → is_near corner.x c.x ≡ false → false ≡ is_marked corner rows c
far_column corner c rows h = rw h refl

pub far_row : (corner c : ChunkPos) (rows : List ℕ) → is_near corner.z c.z ≡ false → false ≡ is_marked corner rows c
far_row corner c rows h = elim (cases_Bool (is_near corner.x c.x)) [ inl t ↦ rw (t, h) refl | inr e ↦ rw e refl ]
