-- No place has a number far from 0.
use Rattle.std.specs.Prelude.{pos, negsuc, ◌≤ℤ◌, List}
use Rattle.std.specs.List.{AllByRecursion}
use Rattle.fol_model.specs.declared.words.Field.{Field}
use Rattle.fol_model.specs.declared.words.Field.TheVariants as fields

abbrev pub IsNear : Field → Type 0
IsNear fields.Action = Unit {0}
IsNear (fields.Number low high) = (negsuc 9999999998 ≤ℤ low) × (low ≤ℤ high) × (high ≤ℤ pos 9999999999)

abbrev pub InLimits : List Field → Type 0
InLimits ps = AllByRecursion IsNear ps
