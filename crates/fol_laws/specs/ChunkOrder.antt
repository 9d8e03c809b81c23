-- The order of the list of all chunks.
unfoldable pub use Rattle.fol_model.specs.Universe.{chunk_cmp}
