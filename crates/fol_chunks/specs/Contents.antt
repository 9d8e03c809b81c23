-- What a `Chunks` stands for: a flat map of blocks and a flat list of entities.
use Rattle.std.specs.Prelude.{ℕ, ◌+◌, Bool, not, ◌||◌, nat_eq, if◌then◌else◌, List, length, count_by, None, IsTrue}
use Rattle.std.specs.Option.{option_or, is_none}
use Rattle.fol_model.specs.declared.places.ChunkPos.{ChunkPos}
use Rattle.fol_model.specs.declared.places.BlockPos.{BlockPos}
use Rattle.fol_model.specs.declared.openings.BlockAt.{BlockAt}
use Rattle.fol_model.specs.declared.entities.Entity.{Entity}
use Rattle.fol_model.specs.Geometry.{chunk_of}
use Rattle.fol_model.specs.ActionStep.{Standing, Flat, Recorded}
pub use Rattle.fol_keyed.specs.Options.{option_filter}
pub use Rattle.fol_keyed.specs.Members.{is_listed}
use Rattle.fol_model.specs.World.{block_in, standing_in}

-- what contracts see
pub record Contents : Type 0 where
  pub blocks : List BlockAt
  pub entities : List Entity
  -- how many more blocks or entities it can take without taking memory
  pub spare : ℕ

-- the map of blocks and the standing entities that it stands for
abbrev pub flat_of : Contents → Flat
flat_of v = record { blocks = block_in v.blocks; standing = standing_in v.entities }

-- nothing at all
abbrev pub nothing : Flat
nothing = record { blocks = λ b. 0; standing = λ id. None }

-- how many blocks and entities there are
abbrev pub size_of : Contents → ℕ
size_of v = length v.blocks + length v.entities

-- what lies in chunks that pass
abbrev pub within : Recorded → Flat → Flat
within rec f = record { blocks = λ b. if rec (chunk_of b) then f.blocks b else 0; standing = λ id. option_filter (λ s. rec (chunk_of s.at)) (f.standing id) }

-- what lies in chunks that do not pass
abbrev pub outside : Recorded → Flat → Flat
outside rec f = within (λ c. not (rec c)) f

-- what is in one or the other
abbrev pub joined : Flat → Flat → Flat
joined f g = record { blocks = λ b. if nat_eq (f.blocks b) 0 then g.blocks b else f.blocks b; standing = λ id. option_or (f.standing id) (g.standing id) }

-- no block has a number in both, and no entity stands in both
pub record Apart (f g : Flat) : Type 0 where
  pub blocks : (b : BlockPos) → IsTrue (nat_eq (f.blocks b) 0 || nat_eq (g.blocks b) 0)
  pub standing : (id : ℕ) → IsTrue (is_none (f.standing id) || is_none (g.standing id))

-- the chunk is one of the recorded chunks
abbrev pub is_recorded : List ChunkPos → ChunkPos → Bool
is_recorded chunks c = is_listed chunks c

-- how many blocks and entities lie in chunks that pass
abbrev pub size_within : Recorded → Contents → ℕ
size_within rec v = count_by (λ (b : BlockAt). rec (chunk_of b.at)) v.blocks + count_by (λ (e : Entity). rec (chunk_of e.at)) v.entities

abbrev pub entity_of : ℕ → Standing → Entity
entity_of id s = record { id = id; at = s.at; vx = s.vx; vz = s.vz }
