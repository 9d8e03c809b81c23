-- The limits of chunks, blocks and numbers, as ranges of whole numbers.
use Rattle.std.proofs.Common.{◌≡◌, ℕ, ◌≤◌, ℤ, pos, negsuc, ◌≤ℤ◌, true, ◌&&◌, nat_abs, arith, inl, inr}
use borrow.Author.Differences.{ints}
use Rattle.std.specs.Prelude.{int_le, nat_le}
use Rattle.std.specs.Int.{int_div_euclid}
use Rattle.std.proofs.lemmas.Bool.{cases_Bool, and_parts, and_from, le-leb, leb-true}
use Rattle.fol_model.specs.declared.places.ChunkPos.{ChunkPos}
use Rattle.fol_model.specs.declared.places.BlockPos.{BlockPos}
use Rattle.fol_model.specs.Geometry.{is_chunk, is_block, chunk_of}

pub record InChunk (c : ChunkPos) : Type 0 where
  pub x_low : negsuc 999999 ≤ℤ c.x
  pub x_high : c.x ≤ℤ pos 1000000
  pub z_low : negsuc 999999 ≤ℤ c.z
  pub z_high : c.z ≤ℤ pos 1000000

pub record InBlock (b : BlockPos) : Type 0 where
  pub x_low : negsuc 15999999 ≤ℤ b.x
  pub x_high : b.x ≤ℤ pos 16000015
  pub y_low : pos 0 ≤ℤ b.y
  pub y_high : b.y ≤ℤ pos 255
  pub z_low : negsuc 15999999 ≤ℤ b.z
  pub z_high : b.z ≤ℤ pos 16000015

near_size : (z : ℤ) → negsuc 999999 ≤ℤ z → z ≤ℤ pos 1000000 → nat_abs z ≤ 1000000
near_size (pos n) l h = omega (arith, ints)
near_size (negsuc n) l h = omega (arith, ints)

size_near : (z : ℤ) → nat_abs z ≤ 1000000 → (negsuc 999999 ≤ℤ z) × (z ≤ℤ pos 1000000)
size_near (pos n) h = (omega (arith, ints), omega (arith, ints))
size_near (negsuc n) h = (omega (arith, ints), omega (arith, ints))

pub in_chunk : (c : ChunkPos) → InChunk c → is_chunk c ≡ true
unfolding is_chunk
in_chunk c r = and_from (nat_le (nat_abs c.x) 1000000) (nat_le (nat_abs c.z) 1000000)
    (le-leb (nat_abs c.x) 1000000 (near_size c.x r.x_low r.x_high)) (le-leb (nat_abs c.z) 1000000 (near_size c.z r.z_low r.z_high))

pub chunk_in : (c : ChunkPos) → is_chunk c ≡ true → InChunk c
unfolding is_chunk
chunk_in c h =
    let p = and_parts (nat_le (nat_abs c.x) 1000000) (nat_le (nat_abs c.z) 1000000) h in
    let x = size_near c.x (leb-true (nat_abs c.x) 1000000 p.0) in
    let z = size_near c.z (leb-true (nat_abs c.z) 1000000 p.1) in
    record { x_low = x.0; x_high = x.1; z_low = z.0; z_high = z.1 }

quotient_near : (z : ℤ) → negsuc 15999999 ≤ℤ z → z ≤ℤ pos 16000015 → nat_abs (int_div_euclid z (pos 16)) ≤ 1000000
quotient_near (pos n) l h = let k : n ≤ 16000015 = omega (arith, ints) in omega arith
quotient_near (negsuc n) l h = let k : n ≤ 15999999 = omega (arith, ints) in omega arith

near_quotient : (z : ℤ) → nat_abs (int_div_euclid z (pos 16)) ≤ 1000000 → (negsuc 15999999 ≤ℤ z) × (z ≤ℤ pos 16000015)
near_quotient (pos n) h = let k : n ≤ 16000015 = omega arith in (omega (arith, ints), omega (arith, ints))
near_quotient (negsuc n) h = let k : n ≤ 15999999 = omega arith in (omega (arith, ints), omega (arith, ints))

at_most : (a b : ℤ) → a ≤ℤ b → int_le a b ≡ true
at_most a b h = elim (cases_Bool (int_le a b)) [ inl e ↦ e | inr e ↦ absurd (omega (arith, ints)) ]

is_at_most : (a b : ℤ) → int_le a b ≡ true → a ≤ℤ b
is_at_most a b h = omega (arith, ints)

pub in_block : (b : BlockPos) → InBlock b → is_block b ≡ true
unfolding is_block is_chunk chunk_of
in_block b r = and_from (is_chunk (chunk_of b)) (int_le (pos 0) b.y && int_le b.y (pos 255))
    (and_from (nat_le (nat_abs (int_div_euclid b.x (pos 16))) 1000000) (nat_le (nat_abs (int_div_euclid b.z (pos 16))) 1000000)
    (le-leb _ 1000000 (quotient_near b.x r.x_low r.x_high)) (le-leb _ 1000000 (quotient_near b.z r.z_low r.z_high)))
    (and_from (int_le (pos 0) b.y) (int_le b.y (pos 255)) (at_most (pos 0) b.y r.y_low) (at_most b.y (pos 255) r.y_high))

pub block_in : (b : BlockPos) → is_block b ≡ true → InBlock b
unfolding is_block is_chunk chunk_of
block_in b h =
    let p = and_parts (is_chunk (chunk_of b)) (int_le (pos 0) b.y && int_le b.y (pos 255)) h in
    let q = and_parts (nat_le (nat_abs (int_div_euclid b.x (pos 16))) 1000000) (nat_le (nat_abs (int_div_euclid b.z (pos 16))) 1000000) p.0 in
    let y = and_parts (int_le (pos 0) b.y) (int_le b.y (pos 255)) p.1 in
    let x = near_quotient b.x (leb-true (nat_abs (int_div_euclid b.x (pos 16))) 1000000 q.0) in
    let z = near_quotient b.z (leb-true (nat_abs (int_div_euclid b.z (pos 16))) 1000000 q.1) in
    record { x_low = x.0; x_high = x.1; y_low = is_at_most (pos 0) b.y y.0; y_high = is_at_most b.y (pos 255) y.1; z_low = z.0; z_high = z.1 }

-- a natural number within its range
pub in_range : (low n high : ℕ) → low ≤ n → n ≤ high → (nat_le low n && nat_le n high) ≡ true
in_range low n high l h = and_from (nat_le low n) (nat_le n high) (le-leb low n l) (le-leb n high h)

pub range_in : (low n high : ℕ) → (nat_le low n && nat_le n high) ≡ true → (low ≤ n) × (n ≤ high)
range_in low n high h = let p = and_parts (nat_le low n) (nat_le n high) h in (leb-true low n p.0, leb-true n high p.1)
