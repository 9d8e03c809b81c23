-- The rows of owners stand in order.
use Rattle.std.proofs.Common.{◌≡◌, List, [], ◌∷◌, map}
use Rattle.std.specs.Prelude.{filter}
use Rattle.std.specs.List.{AllByRecursion}
use Rattle.std.specs.List.Sorted.{IsStrictlySortedBy}
use Rattle.std.specs.declared.cmp.Ordering.TheVariants.{Less}
use Rattle.std.proofs.lemmas.List.Kept.{IsStrictlySortedBy-filter}
use Rattle.fol_model.specs.declared.places.SectionPos.{SectionPos}
use Rattle.fol_model.specs.declared.closings.OwnerRow.{OwnerRow}
use Rattle.fol_model.specs.GridState.{is_present}
use Rattle.fol_model.specs.Outputs.{owner_rows}
use Rattle.fol_model.specs.Universe.{all_sections, section_cmp}
use Rattle.fol_model.specs.World.{World}
use Rattle.fol_laws.proofs.SectionOrder.{sections_sorted}
use Rattle.fol_view.specs.Rows.{AreInOrder}

module _ (w : World) where
  abbrev row : SectionPos → OwnerRow
  row s = record { at = s; region = w.grid.owner s }

  before : (s : SectionPos) (ss : List SectionPos) → AllByRecursion (λ q. section_cmp s q ≡ Less) ss → AllByRecursion (λ (r : OwnerRow). section_cmp s r.at ≡ Less) (map row ss)
  before s [] h = tt
  before s (q ∷ ss) h = (h.0, before s ss h.1)

  rows_sorted : (ss : List SectionPos) → IsStrictlySortedBy section_cmp ss → AreInOrder (map row ss)
  unfolding IsStrictlySortedBy
  rows_sorted [] h = tt
  rows_sorted (s ∷ ss) h = (before s ss h.0, rows_sorted ss h.1)

  pub in_order : AreInOrder (owner_rows w)
  unfolding owner_rows
  in_order = rows_sorted (filter (is_present w.grid) all_sections) (IsStrictlySortedBy-filter section_cmp (is_present w.grid) all_sections sections_sorted)
