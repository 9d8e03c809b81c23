-- What a quotient rounded down says of its dividend, and the limits of the places around a chunk and of the blocks in it.
use Rattle.std.proofs.Common.{◌≡◌, ℕ, ◌+◌, ◌-◌, ◌^◌, ◌≤◌, ◌<◌, arith, true, div-le_self, div-add-mod', mod-lt}
use Rattle.std.specs.Prelude.{ℤ, pos, negsuc, neg_ℤ, ◌+ℤ◌, nat_abs, nat_le}
use Rattle.std.proofs.lemmas.Bool.{and_parts, and_from, leb-true, le-leb}
use Rattle.std.specs.Int.{int_div_euclid}
use borrow.Author.Differences.{ints}
use Rattle.fol_model.specs.declared.places.ChunkPos.{ChunkPos}
use Rattle.fol_model.specs.declared.places.SectionPos.{SectionPos}
use Rattle.fol_model.specs.declared.grids.Grid.{Grid}
use Rattle.fol_model.specs.GridNumbers.{IsGrid}
use Rattle.fol_model.specs.Geometry.{distance, section_of, is_section, is_chunk}

pub abs_div : (x : ℤ) (n : ℕ) → nat_abs (int_div_euclid x (pos n)) ≤ nat_abs x
abs_div (pos a) n = div-le_self a n
abs_div (negsuc a) n = omega (arith, div-le_self a n)

-- what lies within the create radius of a chunk's section is within the limits
pub around_in_limits : (grid : Grid) (c : ChunkPos) (s : SectionPos) → IsGrid grid → is_chunk c ≡ true → distance (section_of grid c) s ≤ grid.create → is_section s ≡ true
unfolding is_chunk is_section section_of distance
around_in_limits grid c s ok l h =
    let parts = and_parts (nat_le (nat_abs c.x) 1000000) (nat_le (nat_abs c.z) 1000000) l in
    let a : nat_abs c.x ≤ 1000000 = leb-true _ _ parts.0 in
    let b : nat_abs c.z ≤ 1000000 = leb-true _ _ parts.1 in
    let d = abs_div c.x (2 ^ grid.shift) in
    let e = abs_div c.z (2 ^ grid.shift) in
    let x : nat_abs s.x ≤ 1000008 = omega (arith, ints, ok.create_high) in
    let z : nat_abs s.z ≤ 1000008 = omega (arith, ints, ok.create_high) in
    and_from (nat_le (nat_abs s.x) 1000008) (nat_le (nat_abs s.z) 1000008) (le-leb _ _ x) (le-leb _ _ z)

-- the x or z of a block in a chunk within the limits, by its place among the blocks
pub block_range : (x : ℤ) → nat_abs (int_div_euclid x (pos 16)) ≤ 1000000 → (i : ℕ) × (x ≡ neg_ℤ (pos 16000000) +ℤ pos i) × (i < 32000016)
block_range (pos a) h = let d = div-add-mod' a 16 in let s : 0 < 16 = omega arith in let m = mod-lt a s in (a + 16000000, omega (arith, ints), omega arith)
block_range (negsuc a) h = let d = div-add-mod' a 16 in let s : 0 < 16 = omega arith in let m = mod-lt a s in
    let l : a < 16000000 = omega arith in (15999999 - a, omega (arith, ints), omega arith)

-- and back
pub range_block : (x : ℤ) (i : ℕ) → x ≡ neg_ℤ (pos 16000000) +ℤ pos i → i < 32000016 → nat_abs (int_div_euclid x (pos 16)) ≤ 1000000
range_block (pos a) i e l = let d = div-add-mod' a 16 in let m : a < 16000016 = omega (arith, ints) in omega arith
range_block (negsuc a) i e l = let d = div-add-mod' a 16 in let m : a < 16000000 = omega (arith, ints) in omega arith
