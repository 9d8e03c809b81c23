-- The numbers of columns and rows, what is left out between them, and the legend.
use Rattle.std.specs.Prelude.{ℕ, ◌+◌, ◌*◌, ◌-◌, ◌%◌, ◌^◌, ℤ, ◌-ℤ◌, Bool, false, true, unsigned_abs, nat_le, min, if◌then◌else◌, List, [], ◌∷◌, ◌++◌, length, take, count_by, codes, decimal}
use Rattle.std.specs.Fmt.{signed_decimal}
use Rattle.fol_model.specs.declared.entities.Place.{Place}
use Rattle.fol_model.specs.declared.entities.Place.TheVariants.{At, Transit}
use Rattle.fol_model.specs.declared.closings.RegionRow.{RegionRow}
use Rattle.fol_model.specs.declared.closings.Closing.{Closing}
use Rattle.fol_model.specs.ReportWords.{state_word}
use Rattle.fol_map.specs.Layouts.{step}
use Rattle.fol_map.specs.declared.layouts.Layout.{Layout}
use Rattle.fol_map.specs.declared.axes.Axis.{Axis}
use Rattle.fol_map.specs.declared.axes.Axis.TheVariants.{Columns, Rows}

-- ---- the sides of the picture

unfoldable pub column_number : ℕ → ℤ → List ℕ
column_number at n = codes "<text class='n' x='" ++ decimal (at + 256) ++ codes "' y='416'>" ++ signed_decimal n ++ codes "</text>\n"

unfoldable pub row_number : ℕ → ℤ → List ℕ
row_number at n = codes "<text class='z' x='688' y='" ++ decimal (at + 296) ++ codes "'>" ++ signed_decimal n ++ codes "</text>\n"

-- the number of a column or row that begins here
abbrev pub number_mark : Axis → ℕ → ℤ → List ℕ
number_mark Columns at n = column_number at n
number_mark Rows at n = row_number at n

unfoldable pub column_cut : ℕ → ℕ → ℕ → List ℕ
column_cut at across n = codes "<path class='g' d='M" ++ decimal (at + 768) ++ codes " 512v" ++ decimal across ++ codes "'/>" ++ codes "<text class='n o' x='" ++ decimal (at + 768) ++ codes "' y='416'>" ++ decimal n ++ codes "</text>\n"

unfoldable pub row_cut : ℕ → ℕ → ℕ → List ℕ
row_cut at across n = codes "<path class='g' d='M768 " ++ decimal (at + 768) ++ codes "h" ++ decimal across ++ codes "'/>" ++ codes "<text class='z o' x='688' y='" ++ decimal (at + 808) ++ codes "'>" ++ decimal n ++ codes "</text>\n"

-- a line across the picture behind the column or row that begins here, with how many are left out
abbrev pub cut_mark : Axis → ℕ → ℕ → ℕ → List ℕ
cut_mark Columns at across n = column_cut at across n
cut_mark Rows at across n = row_cut at across n

-- what stands behind a column or row, before one so far from it
abbrev pub gap_mark : Axis → ℕ → ℕ → ℕ → List ℕ
gap_mark axis at across apart = if nat_le apart 4 then [] else cut_mark axis at across (apart - 1)

-- what stands between a column or row and those behind it
abbrev pub between : Axis → ℕ → ℕ → ℤ → List ℤ → List ℕ
between axis at across a [] = []
between axis at across a (b ∷ more) = gap_mark axis at across (unsigned_abs (a -ℤ b))

-- how far behind a column or row the next one begins
unfoldable pub ahead : ℤ → List ℤ → ℕ
ahead a [] = 0
ahead a (b ∷ more) = 512 * step a b

-- the number of a column or row, and what stands between it and those behind it
unfoldable pub place_marks : Axis → ℕ → ℕ → ℤ → List ℤ → List ℕ
place_marks axis at across a more = number_mark axis at a ++ between axis at across a more

-- the numbers of the columns or rows, from here on, and the lines between those that are far apart
abbrev pub axis_marks : Axis → ℕ → ℕ → List ℤ → List ℕ
axis_marks axis at across [] = []
axis_marks axis at across (a ∷ more) = place_marks axis at across a more ++ axis_marks axis (at + ahead a more) across more

-- ---- the legend: lines of 224 units

unfoldable pub swatch : ℕ → ℕ → List ℕ
swatch y colour = codes "<path class='r" ++ decimal colour ++ codes "' d='M768 " ++ decimal y ++ codes "h192v176h-192z'/>"

unfoldable pub region_name : ℕ → ℕ → List ℕ
region_name y id = codes "<text class='l' x='1056' y='" ++ decimal y ++ codes "'>" ++ codes "region " ++ decimal id ++ codes ": "

unfoldable pub region_sizes : RegionRow → List ℕ
region_sizes r = codes ", tick " ++ decimal r.tick ++ codes ", owed " ++ decimal r.owed ++ codes ", sections " ++ decimal r.sections ++ codes ", chunks " ++ decimal r.chunks ++ codes "</text>\n"

unfoldable pub region_line : ℕ → RegionRow → List ℕ
region_line y r = swatch y (r.id % 12) ++ region_name (y + 136) r.id ++ state_word r.state ++ region_sizes r

abbrev pub region_lines : ℕ → List RegionRow → List ℕ
region_lines y [] = []
region_lines y (r ∷ rs) = region_line y r ++ region_lines (y + 224) rs

unfoldable pub left_line : ℕ → ℕ → List ℕ
left_line y n = codes "<text class='l' x='1056' y='" ++ decimal (y + 136) ++ codes "'>" ++ codes "... and " ++ decimal n ++ codes " more regions</text>\n"

-- how many regions the legend does not name
abbrev pub more_line : ℕ → ℕ → List ℕ
more_line y n = if nat_le n 0 then [] else left_line y n

-- the first twelve regions, and how many more there are
abbrev pub regions_legend : ℕ → List RegionRow → List ℕ
regions_legend y rs = region_lines y (take 12 rs) ++ more_line (y + 224 * 12) (length rs - 12)

abbrev pub is_away : Place → Bool
is_away (At b) = false
is_away (Transit number) = true

unfoldable pub chunks_line : ℕ → ℕ → List ℕ
chunks_line y n = codes "<path class='c' d='M768 " ++ decimal y ++ codes "h192v176h-192z'/>" ++ codes "<text class='l' x='1056' y='" ++ decimal (y + 136) ++ codes "'>a loaded chunk: " ++ decimal n ++ codes "</text>\n"

unfoldable pub tasks_line : ℕ → ℕ → List ℕ
tasks_line y n = codes "<path class='t' d='M864 " ++ decimal y ++ codes "m0 16l72 72-72 72-72-72z'/>" ++ codes "<text class='l' x='1056' y='" ++ decimal (y + 136) ++ codes "'>a queued task, on its chunk: " ++ decimal n ++ codes "</text>\n"

unfoldable pub entities_line : ℕ → ℕ → ℕ → List ℕ
entities_line y n away = codes "<circle class='e' cx='864' cy='" ++ decimal (y + 88) ++ codes "' r='48'/>" ++ codes "<text class='l' x='1056' y='" ++ decimal (y + 136) ++ codes "'>an entity, at its block: " ++ decimal n ++ codes ", of these on their way and not drawn: " ++ decimal away ++ codes "</text>\n"

unfoldable pub cuts_line : ℕ → List ℕ
cuts_line y = codes "<path class='g' d='M864 " ++ decimal y ++ codes "v176'/><text class='l' x='1056' y='" ++ decimal (y + 136) ++ codes "'>" ++ codes "columns or rows of sections left out, with their number</text>\n"

unfoldable pub scale_line : ℕ → ℕ → List ℕ
scale_line y side = codes "<path class='b' d='M768 " ++ decimal y ++ codes "m0 40v96m0-48h512m0-48v96'/>" ++ codes "<text class='l' x='1344' y='" ++ decimal (y + 136) ++ codes "'>a section: " ++ decimal side ++ codes " by " ++ decimal side ++ codes " chunks of 16 by 16 blocks</text>\n"

-- what each mark means, how many there are, and the scale
abbrev pub marks_legend : ℕ → Layout → Closing → List ℕ
marks_legend y l c =
    chunks_line y (length l.chunks)
    ++ tasks_line (y + 224) (length c.tasks)
    ++ entities_line (y + 448) (length c.entities) (count_by (λ r. is_away r.place) c.entities)
    ++ cuts_line (y + 672)
    ++ scale_line (y + 896) (2 ^ l.grid.shift)

-- how many lines the regions have
abbrev pub region_line_count : List RegionRow → ℕ
region_line_count rs = min (length rs) 13

abbrev pub legend : ℕ → Layout → Closing → List ℕ
legend y l c = regions_legend y c.regions ++ marks_legend (y + 224 * region_line_count c.regions) l c
