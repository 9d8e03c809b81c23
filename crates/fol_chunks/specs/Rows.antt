-- The lists that hold the blocks and the entities.
use Rattle.std.specs.Prelude.{◌<◌, nat_eq, List, All, if◌then◌else◌, ◌&&◌}
use Rattle.std.specs.List.{IsDistinct}
use Rattle.std.specs.Ordering.{nat_cmp}
use Rattle.std.specs.declared.cmp.Ordering.{Ordering}
use Rattle.fol_model.specs.declared.openings.BlockAt.{BlockAt}
use Rattle.fol_model.specs.declared.entities.Entity.{Entity}
use Rattle.fol_model.specs.Geometry.{chunk_of, same_block}
use Rattle.fol_model.specs.ActionStep.{Recorded}
use Rattle.fol_model.specs.FlatTick.{ahead}
pub use Rattle.fol_blocks.specs.Order.{by_place}

abbrev pub by_id : Entity → Entity → Ordering
by_id a b = nat_cmp a.id b.id

-- blocks of which no two have one place, none with number 0, and entities of which no two have one id
pub record IsContents (blocks : List BlockAt) (entities : List Entity) : Type 0 where
  pub blocks_differ : IsDistinct (λ a b. same_block a.at b.at) blocks
  pub blocks_full : All (λ x. 0 < x.id) blocks
  pub entities_differ : IsDistinct (λ a b. nat_eq a.id b.id) entities

-- an entity goes ahead where it is and stays in chunks that pass
abbrev pub stepped : Recorded → Entity → Entity
stepped rec e = if (rec (chunk_of e.at) && rec (chunk_of (ahead e.vx e.vz e.at))) then record e { at = ahead e.vx e.vz e.at } else e
