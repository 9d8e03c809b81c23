-- The list of all blocks is in order and has each block within the limits.
use Rattle.std.proofs.Common.{◌≡◌, ℕ, ◌<◌, ◌≤◌, refl, ◌∙◌, ap, arith, Bool, true, ◌&&◌, List, length}
use Rattle.std.specs.Prelude.{ℤ, pos, neg_ℤ, ◌+ℤ◌, negsuc, ◌<ℤ◌, nat_abs, nat_le, int_le, map, flat_map, filter}
use Rattle.std.specs.List.{AllByRecursion, count_by, list_any}
use Rattle.std.specs.List.Sorted.{IsStrictlySortedBy}
use Rattle.std.specs.Int.{int_div_euclid}
use Rattle.std.specs.Ordering.{eq_by_cmp}
use Rattle.std.specs.declared.cmp.Ordering.TheVariants.{Less}
use Rattle.std.proofs.Math.Path.{fun_ext}
use Rattle.std.proofs.lemmas.Bool.{and_parts, and_from, leb-true, le-leb}
use borrow.Author.Differences.{ints}
use Rattle.fol_model.specs.declared.places.BlockPos.{BlockPos}
use Rattle.fol_model.specs.Geometry.{same_block, is_block, is_chunk, chunk_of}
use Rattle.fol_model.specs.Universe.{from, all_blocks, block_cmp}
use Rattle.fol_laws.specs.Orders.{Lists}
use Rattle.fol_laws.proofs.Listed as listed
use Rattle.fol_laws.proofs.Listed.{Tells}
use Rattle.fol_laws.proofs.SortedRows.{all_in_rows, all_mapped, in_row, in_rows, plane_sorted, rows_sorted, in_row_gives, in_rows_gives}
use Rattle.fol_laws.proofs.FloorDivision.{block_range, range_block}
use Rattle.fol_laws.proofs.OrderSteps.{less, equal_self}
use Rattle.fol_laws.proofs.Tests.{same_answer}
use Rattle.fol_model.proofs.PlaceKeys.{block_cmp_total, block_cmp_tells, same_block-self, same_block-true}

pub blocks_tell : Tells block_cmp
blocks_tell = record { order = block_cmp_total; same = block_cmp_tells }

less_x : (x a y b z d : ℤ) → x <ℤ a → block_cmp (record { x = x; y = y; z = z }) (record { x = a; y = b; z = d }) ≡ Less
unfolding block_cmp
less_x x a y b z d h = let e = less x a h in rw e refl

less_y : (x y b z d : ℤ) → y <ℤ b → block_cmp (record { x = x; y = y; z = z }) (record { x = x; y = b; z = d }) ≡ Less
unfolding block_cmp
less_y x y b z d h = let e = equal_self x in let f = less y b h in rw (e, f) refl

less_z : (x y z d : ℤ) → z <ℤ d → block_cmp (record { x = x; y = y; z = z }) (record { x = x; y = y; z = d }) ≡ Less
unfolding block_cmp
less_z x y z d h = let e = equal_self x in let f = equal_self y in let g = less z d h in rw (e, f, g) refl

-- the blocks of one x
plane : ℤ → List BlockPos
plane x = flat_map (λ y. map (λ z. record { x = x; y = y; z = z }) (from (neg_ℤ (pos 16000000)) 32000016)) (from (pos 0) 256)

in_plane : (P : BlockPos → Type 0) (x : ℤ) → ((y z : ℤ) → P (record { x = x; y = y; z = z })) → AllByRecursion P (plane x)
unfolding plane
in_plane P x h = all_in_rows P (λ y. map (λ z. record { x = x; y = y; z = z }) (from (neg_ℤ (pos 16000000)) 32000016)) (from (pos 0) 256)
    (λ y. all_mapped P (λ z. record { x = x; y = y; z = z }) (from (neg_ℤ (pos 16000000)) 32000016) (λ z. h y z))

in_order : (x : ℤ) → IsStrictlySortedBy block_cmp (plane x)
unfolding plane
in_order x = plane_sorted block_cmp (λ y z. record { x = x; y = y; z = z }) (λ y z d l. less_z x y z d l) (λ y b z d l. less_y x y b z d l) _ _ _ _

pub blocks_sorted : IsStrictlySortedBy block_cmp all_blocks
unfolding all_blocks plane
blocks_sorted = rows_sorted block_cmp plane in_order (λ x a l. in_plane _ x (λ y z. in_plane _ a (λ b d. less_x x a y b z d l))) (neg_ℤ (pos 16000000)) 32000016

height : (y : ℤ) → int_le (pos 0) y ≡ true → int_le y (pos 255) ≡ true → (j : ℕ) × (y ≡ pos 0 +ℤ pos j) × (j < 256)
height (pos n) l h = (n, omega (arith, ints), let k : n ≤ 255 = leb-true _ _ h in omega arith)
height (negsuc n) l h = absurd (cc)

risen : (y : ℤ) (j : ℕ) → y ≡ pos 0 +ℤ pos j → int_le (pos 0) y ≡ true
risen (pos n) j e = le-leb _ _ (omega arith)
risen (negsuc n) j e = absurd (omega (arith, ints))

below_top : (y : ℤ) (j : ℕ) → y ≡ pos 0 +ℤ pos j → j < 256 → int_le y (pos 255) ≡ true
below_top (pos n) j e l = le-leb _ _ (omega (arith, ints))
below_top (negsuc n) j e l = refl

in_all : (b : BlockPos) → is_block b ≡ true → list_any (eq_by_cmp block_cmp b) all_blocks ≡ true
unfolding all_blocks is_block is_chunk chunk_of
in_all b l =
    let p = and_parts (is_chunk (chunk_of b)) (int_le (pos 0) b.y && int_le b.y (pos 255)) l in
    let q = and_parts (int_le (pos 0) b.y) (int_le b.y (pos 255)) p.1 in
    let c = and_parts (nat_le (nat_abs (chunk_of b).x) 1000000) (nat_le (nat_abs (chunk_of b).z) 1000000) p.0 in
    let i = block_range b.x (leb-true _ _ c.0) in
    let j = height b.y q.0 q.1 in
    let k = block_range b.z (leb-true _ _ c.1) in
    let t = eq_by_cmp block_cmp b in
    in_rows t _ (neg_ℤ (pos 16000000)) b.x 32000016 i.0 i.1 i.2
    (in_rows t _ (pos 0) b.y 256 j.0 j.1 j.2
    (in_row t (λ z. record { x = b.x; y = b.y; z = z }) (neg_ℤ (pos 16000000)) b.z 32000016 k.0 k.1 k.2 (listed.own block_cmp blocks_tell b)))

within : (x y z : ℤ) → nat_abs (int_div_euclid x (pos 16)) ≤ 1000000 → nat_abs (int_div_euclid z (pos 16)) ≤ 1000000 → int_le (pos 0) y ≡ true → int_le y (pos 255) ≡ true
    → is_block (record { x = x; y = y; z = z }) ≡ true
unfolding is_block is_chunk chunk_of
within x y z a b l h = and_from _ _ (and_from _ _ (le-leb _ _ a) (le-leb _ _ b)) (and_from _ _ l h)

-- each block of the list is within the limits
only_blocks : (p : BlockPos → Bool) → list_any p all_blocks ≡ true → (b : BlockPos) × (is_block b ≡ true) × (p b ≡ true)
unfolding all_blocks
only_blocks p h =
    let x = in_rows_gives p _ (neg_ℤ (pos 16000000)) 32000016 h in
    let y = in_rows_gives p _ (pos 0) 256 x.2 in
    let z = in_row_gives p _ (neg_ℤ (pos 16000000)) 32000016 y.2 in
    let i = x.1 in let j = y.1 in let k = z.1 in
    let low : int_le (pos 0) y.0 ≡ true = risen y.0 j.0 j.2 in
    let high : int_le y.0 (pos 255) ≡ true = below_top y.0 j.0 j.2 j.1 in (
      record { x = x.0; y = y.0; z = z.0 },
      within x.0 y.0 z.0 (range_block x.0 i.0 i.2 i.1) (range_block z.0 k.0 k.2 k.1) low high,
      z.2,
    )

-- the order ties just what is one block
tied : (a b : BlockPos) → eq_by_cmp block_cmp a b ≡ same_block a b
tied a b = same_answer (eq_by_cmp block_cmp a b) (same_block a b)
    (λ h. let e = listed.same_by block_cmp blocks_tell a b h in rw e (same_block-self b))
    (λ h. let e = same_block-true a b h in rw e (listed.own block_cmp blocks_tell b))

listed_by : (a : BlockPos) (xs : List BlockPos) → list_any (eq_by_cmp block_cmp a) xs ≡ list_any (same_block a) xs
listed_by a xs = ap (λ (p : BlockPos → Bool). list_any p xs) (fun_ext (tied a))

-- a list in order whose members are the blocks that pass is what the test keeps of all blocks
pub block_rows_are : (p : BlockPos → Bool) (xs : List BlockPos) → IsStrictlySortedBy block_cmp xs → ((s : BlockPos) → list_any (same_block s) xs ≡ p s) → ((s : BlockPos) → p s ≡ true → is_block s ≡ true)
    → (xs ≡ filter p all_blocks) × (length xs ≡ count_by p all_blocks)
block_rows_are p xs a h l = listed.rows_are block_cmp blocks_tell all_blocks blocks_sorted p xs a (λ s. listed_by s xs ∙ h s) (λ s k. in_all s (l s k))

pub blocks_listed : Lists block_cmp is_block all_blocks
blocks_listed = record {
  order = blocks_sorted;
  members = λ a. same_answer (list_any (eq_by_cmp block_cmp a) all_blocks) (is_block a)
      (λ h. let s = only_blocks (eq_by_cmp block_cmp a) h in let e = listed.same_by block_cmp blocks_tell a s.0 s.2 in rw e s.1)
      (λ l. in_all a l);
}
