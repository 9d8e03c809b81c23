-- The tests whether two places are one.
pub use Rattle.fol_model.proofs.PlaceKeys.{same_chunk-true, same_chunk-self, same_section-true, same_section-self, same_block-true, same_block-self}
