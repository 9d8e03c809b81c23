-- The facts on places that a look-up by key needs, and the order of numbers.
use Rattle.std.proofs.Common.{◌≡◌, ℕ}
use Rattle.std.specs.Ordering.{nat_cmp}
use Rattle.std.specs.Cmp.{ranks}
use Rattle.std.specs.declared.cmp.Ordering.TheVariants.{Equal}
pub use Rattle.fol_model.proofs.PlaceKeys.{same_chunk-true, same_chunk-self, same_section-true, same_section-self, same_block-true, same_block-self, chunk_cmp_total, chunk_cmp_tells, section_cmp_total, section_cmp_tells, block_cmp_total, block_cmp_tells}

pub nat_cmp_tells : (a b : ℕ) → nat_cmp a b ≡ Equal → a ≡ b
nat_cmp_tells a b e = let h = ranks a b in rw e at h
