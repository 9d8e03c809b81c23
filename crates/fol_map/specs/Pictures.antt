-- The picture of a closing.
use Rattle.std.specs.Prelude.{◌≡◌, ℕ, ◌+◌, ◌*◌, ◌/◌, max, List, ◌++◌, flat_map, codes, decimal}
use Rattle.fol_model.specs.declared.closings.Closing.{Closing}
use Rattle.fol_map.specs.Layouts.{IsLayout, width}
use Rattle.fol_map.specs.Marks.{chunk_mark, entity_mark, section_mark, task_mark}
use Rattle.fol_map.specs.Legends.{axis_marks, legend, region_line_count}
use Rattle.fol_map.specs.declared.layouts.Layout.{Layout}
use Rattle.fol_map.specs.declared.axes.Axis.TheVariants.{Columns, Rows}
use Rattle.fol_map.specs.declared.pictures.TheConstants.{STYLE}

-- the size of a page; eight units are a pixel
unfoldable pub size_text : ℕ → ℕ → List ℕ
size_text wide high =
    codes "<svg xmlns='http://www.w3.org/2000/svg' viewBox='0 0 " ++ decimal wide ++ codes " " ++ decimal high
    ++ codes "' width='" ++ decimal (wide / 8) ++ codes "' height='" ++ decimal (high / 8) ++ codes "'>\n"

-- the ground of the page
unfoldable pub ground : ℕ → ℕ → List ℕ
ground wide high = codes "<path class='p' d='M0 0h" ++ decimal wide ++ codes "v" ++ decimal high ++ codes "h-" ++ decimal wide ++ codes "z'/>\n"

-- how the marks look
unfoldable pub style : List ℕ
style = STYLE.now

-- the size, how the marks look, and the ground
abbrev pub head : ℕ → ℕ → List ℕ
head wide high = size_text wide high ++ style ++ ground wide high

-- where the legend begins
abbrev pub below : Layout → ℕ
below l = 768 + 512 * width l.rows

abbrev pub wide : Layout → ℕ
wide l = max 6144 (1152 + 512 * width l.columns)

abbrev pub high : Closing → Layout → ℕ
high c l = below l + 224 * (region_line_count c.regions + 5) + 192

-- one mark for each section with an owner
abbrev pub sections_text : Closing → Layout → List ℕ
sections_text c l = flat_map (section_mark l) c.owners

-- one mark for each loaded chunk, each queued task and each entity that stands at a block
abbrev pub inside_text : Closing → Layout → List ℕ
inside_text c l = flat_map (chunk_mark l) l.chunks ++ flat_map (task_mark l) c.tasks ++ flat_map (entity_mark l) c.entities

-- the numbers at the sides, and the legend
abbrev pub round_text : Closing → Layout → List ℕ
round_text c l =
    axis_marks Columns 768 (512 * width l.rows) l.columns
    ++ axis_marks Rows 512 (512 * width l.columns) l.rows
    ++ legend (below l) l c

abbrev pub picture_text : Closing → Layout → List ℕ
picture_text c l = head (wide l) (high c l) ++ sections_text c l ++ inside_text c l ++ round_text c l ++ codes "</svg>\n"

-- the bytes are the picture of the closing
pub record IsPicture (c : Closing) (bytes : List ℕ) : Type 0 where
  pub layout : Layout
  pub is_layout : IsLayout c layout
  pub text : bytes ≡ picture_text c layout
