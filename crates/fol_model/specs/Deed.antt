-- An action without pointers: what stands round it, from the outside in, and what it does.
use Rattle.std.specs.Prelude.{ℕ, List}
use Rattle.fol_model.specs.declared.places.ChunkPos.{ChunkPos}
use Rattle.fol_model.specs.declared.places.BlockPos.{BlockPos}
use Rattle.fol_model.specs.declared.entities.Entity.{Entity}

pub data Plain : Type 0 where
  set : BlockPos → ℕ → Plain
  copy : BlockPos → BlockPos → Plain
  load : ChunkPos → Plain
  unload : ChunkPos → Plain
  send : ℕ → BlockPos → Plain
  arrive : Entity → Plain

pub data Wrap : Type 0 where
  post : ChunkPos → ℕ → Wrap
  every : ℕ → ℕ → Wrap

pub record Deed : Type 0 where
  pub wraps : List Wrap
  pub plain : Plain
