-- The order of chunks.
unfoldable pub use Rattle.fol_model.specs.Universe.{chunk_cmp}
