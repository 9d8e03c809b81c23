-- The tests whether two places are one, and the orders of places: each is total, and ties just what is one place.
use Rattle.std.proofs.Common.{◌≡◌, refl, true, ◌&&◌}
use Rattle.std.specs.Prelude.{ℤ}
use Rattle.std.specs.Ordering.{int_eq, int_cmp, ordering_then}
use Rattle.std.specs.Cmp.{IsTotalOrder, int_ranks}
use Rattle.std.specs.declared.cmp.Ordering.{Ordering}
use Rattle.std.specs.declared.cmp.Ordering.TheVariants.{Less, Equal, Greater}
use Rattle.std.proofs.lemmas.Bool.{and_parts, and_from}
use Rattle.std.proofs.lemmas.Bool.Decides.{Decides-int_eq}
use Rattle.std.proofs.lemmas.Cmp.{int_cmp_total, on_total, then_total}
use Rattle.fol_model.specs.declared.places.ChunkPos.{ChunkPos}
use Rattle.fol_model.specs.declared.places.SectionPos.{SectionPos}
use Rattle.fol_model.specs.declared.places.BlockPos.{BlockPos}
use Rattle.fol_model.specs.Geometry.{same_chunk, same_section, same_block}
use Rattle.fol_model.specs.Universe.{chunk_cmp, section_cmp, block_cmp}

pub same_block-true : (a b : BlockPos) → same_block a b ≡ true → a ≡ b
unfolding same_block
same_block-true a b h =
    let p = and_parts (int_eq a.x b.x) (int_eq a.y b.y && int_eq a.z b.z) h in
    let q = and_parts (int_eq a.y b.y) (int_eq a.z b.z) p.1 in
    let x : a.x ≡ b.x = (Decides-int_eq a.x b.x).0 p.0 in
    let y : a.y ≡ b.y = (Decides-int_eq a.y b.y).0 q.0 in
    let z : a.z ≡ b.z = (Decides-int_eq a.z b.z).0 q.1 in
    λ i. record { x = x i; y = y i; z = z i }

pub same_block-self : (a : BlockPos) → same_block a a ≡ true
unfolding same_block
same_block-self a = and_from (int_eq a.x a.x) _ ((Decides-int_eq a.x a.x).1 refl) (and_from _ _ ((Decides-int_eq a.y a.y).1 refl) ((Decides-int_eq a.z a.z).1 refl))

pub same_chunk-true : (a b : ChunkPos) → same_chunk a b ≡ true → a ≡ b
unfolding same_chunk
same_chunk-true a b h =
    let parts = and_parts (int_eq a.x b.x) (int_eq a.z b.z) h in
    let x : a.x ≡ b.x = (Decides-int_eq a.x b.x).0 parts.0 in
    let z : a.z ≡ b.z = (Decides-int_eq a.z b.z).0 parts.1 in
    λ i. record { x = x i; z = z i }

pub same_chunk-self : (a : ChunkPos) → same_chunk a a ≡ true
unfolding same_chunk
same_chunk-self a = and_from _ _ ((Decides-int_eq a.x a.x).1 refl) ((Decides-int_eq a.z a.z).1 refl)

pub same_section-true : (a b : SectionPos) → same_section a b ≡ true → a ≡ b
unfolding same_section
same_section-true a b h =
    let parts = and_parts (int_eq a.x b.x) (int_eq a.z b.z) h in
    let x : a.x ≡ b.x = (Decides-int_eq a.x b.x).0 parts.0 in
    let z : a.z ≡ b.z = (Decides-int_eq a.z b.z).0 parts.1 in
    λ i. record { x = x i; z = z i }

pub same_section-self : (a : SectionPos) → same_section a a ≡ true
unfolding same_section
same_section-self a = and_from _ _ ((Decides-int_eq a.x a.x).1 refl) ((Decides-int_eq a.z a.z).1 refl)

int_same : (x y : ℤ) → int_cmp x y ≡ Equal → x ≡ y
int_same x y e = let h = int_ranks x y in rw e at h

then_same : (r s : Ordering) → ordering_then r s ≡ Equal → (r ≡ Equal) × (s ≡ Equal)
then_same Less s e = absurd (cc)
then_same Equal s e = (refl, e)
then_same Greater s e = absurd (cc)

pub block_cmp_total : IsTotalOrder block_cmp
unfolding block_cmp
block_cmp_total = then_total (on_total (λ (b : BlockPos). b.x) int_cmp_total) (then_total (on_total (λ (b : BlockPos). b.y) int_cmp_total) (on_total (λ (b : BlockPos). b.z) int_cmp_total))

pub block_cmp_tells : (a b : BlockPos) → block_cmp a b ≡ Equal → a ≡ b
unfolding block_cmp
block_cmp_tells a b e =
    let p = then_same (int_cmp a.x b.x) _ e in let q = then_same (int_cmp a.y b.y) _ p.1 in
    let x = int_same a.x b.x p.0 in let y = int_same a.y b.y q.0 in let z = int_same a.z b.z q.1 in
    λ i. record { x = x i; y = y i; z = z i }

pub chunk_cmp_total : IsTotalOrder chunk_cmp
unfolding chunk_cmp
chunk_cmp_total = then_total (on_total (λ (c : ChunkPos). c.z) int_cmp_total) (on_total (λ (c : ChunkPos). c.x) int_cmp_total)

pub chunk_cmp_tells : (a b : ChunkPos) → chunk_cmp a b ≡ Equal → a ≡ b
unfolding chunk_cmp
chunk_cmp_tells a b e =
    let p = then_same (int_cmp a.z b.z) _ e in let z = int_same a.z b.z p.0 in let x = int_same a.x b.x p.1 in
    λ i. record { x = x i; z = z i }

pub section_cmp_total : IsTotalOrder section_cmp
unfolding section_cmp
section_cmp_total = then_total (on_total (λ (s : SectionPos). s.z) int_cmp_total) (on_total (λ (s : SectionPos). s.x) int_cmp_total)

pub section_cmp_tells : (a b : SectionPos) → section_cmp a b ≡ Equal → a ≡ b
unfolding section_cmp
section_cmp_tells a b e =
    let p = then_same (int_cmp a.z b.z) _ e in let z = int_same a.z b.z p.0 in let x = int_same a.x b.x p.1 in
    λ i. record { x = x i; z = z i }
