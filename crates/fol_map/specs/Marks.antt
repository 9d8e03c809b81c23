-- The mark of each row, as an element of the picture.
use Rattle.std.specs.Prelude.{ℕ, ◌%◌, List, [], ◌++◌, codes, decimal}
use Rattle.std.specs.Fmt.{signed_decimal}
use Rattle.fol_model.specs.declared.places.ChunkPos.{ChunkPos}
use Rattle.fol_model.specs.declared.places.SectionPos.{SectionPos}
use Rattle.fol_model.specs.declared.places.BlockPos.{BlockPos}
use Rattle.fol_model.specs.declared.entities.Place.{Place}
use Rattle.fol_model.specs.declared.entities.Place.TheVariants.{At, Transit}
use Rattle.fol_model.specs.declared.closings.OwnerRow.{OwnerRow}
use Rattle.fol_model.specs.declared.closings.TaskRow.{TaskRow}
use Rattle.fol_model.specs.declared.closings.EntityRow.{EntityRow}
use Rattle.fol_map.specs.Places.{block_middle, chunk_middle, chunk_point, chunk_side, section_point}
use Rattle.fol_map.specs.declared.layouts.Layout.{Layout}
use Rattle.fol_map.specs.declared.places.Point.{Point}

-- two numbers with a space between
abbrev pub point_text : Point → List ℕ
point_text p = decimal p.x ++ codes " " ++ decimal p.y

-- ---- the square of a section, in the colour of its region

unfoldable pub section_shape : ℕ → Point → List ℕ
section_shape colour p = codes "<path class='s r" ++ decimal colour ++ codes "' d='M" ++ point_text p ++ codes "h512v512h-512z'>"

unfoldable pub section_title : SectionPos → ℕ → List ℕ
section_title s region = codes "<title>section " ++ signed_decimal s.x ++ codes " " ++ signed_decimal s.z ++ codes ", region " ++ decimal region ++ codes "</title></path>\n"

abbrev pub section_mark : Layout → OwnerRow → List ℕ
section_mark l r = section_shape (r.region % 12) (section_point l r.at) ++ section_title r.at r.region

-- ---- the square of a chunk

unfoldable pub chunk_shape : ℕ → Point → List ℕ
chunk_shape side p = codes "<path class='c' d='M" ++ point_text p ++ codes "h" ++ decimal side ++ codes "v" ++ decimal side ++ codes "h-" ++ decimal side ++ codes "z'>"

unfoldable pub chunk_title : ChunkPos → List ℕ
chunk_title c = codes "<title>chunk " ++ signed_decimal c.x ++ codes " " ++ signed_decimal c.z ++ codes "</title></path>\n"

abbrev pub chunk_mark : Layout → ChunkPos → List ℕ
chunk_mark l c = chunk_shape (chunk_side l.grid) (chunk_point l c) ++ chunk_title c

-- ---- the mark of a queued task, in the middle of its chunk

unfoldable pub task_shape : Point → List ℕ
task_shape p = codes "<path class='t' d='M" ++ point_text p ++ codes "m0-72l72 72-72 72-72-72z'>"

unfoldable pub task_title : ℕ → ChunkPos → ℕ → List ℕ
task_title number c rest = codes "<title>task " ++ decimal number ++ codes " on chunk " ++ signed_decimal c.x ++ codes " " ++ signed_decimal c.z ++ codes ", in " ++ decimal rest ++ codes " ticks</title></path>\n"

abbrev pub task_mark : Layout → TaskRow → List ℕ
task_mark l r = task_shape (chunk_middle l r.task.chunk) ++ task_title r.task.number r.task.chunk r.rest

-- ---- the dot of an entity, in the middle of its block

unfoldable pub dot_shape : Point → List ℕ
dot_shape p = codes "<circle class='e' cx='" ++ decimal p.x ++ codes "' cy='" ++ decimal p.y ++ codes "' r='48'>"

unfoldable pub dot_title : ℕ → BlockPos → List ℕ
dot_title id b = codes "<title>entity " ++ decimal id ++ codes " at " ++ signed_decimal b.x ++ codes " " ++ signed_decimal b.y ++ codes " " ++ signed_decimal b.z ++ codes "</title></circle>\n"

-- one that is on its way has none
abbrev pub place_mark : Layout → ℕ → Place → List ℕ
place_mark l id (At b) = dot_shape (block_middle l b) ++ dot_title id b
place_mark l id (Transit number) = []

abbrev pub entity_mark : Layout → EntityRow → List ℕ
entity_mark l r = place_mark l r.id r.place
