-- The order of chunks.
pub use Rattle.fol_keyed.specs.Order.{chunk_cmp}
