-- What is known of the regions near a section.
use Rattle.std.specs.Prelude.{◌≡◌, ℕ, ◌≤◌, Some, length}
use Rattle.fol_model.specs.declared.places.SectionPos.{SectionPos}
use Rattle.fol_region_tables.specs.Book.{Book}
use Rattle.fol_regions.specs.Near.{near_ids}
use Rattle.fol_regions.specs.declared.nearby.Nearby.{Nearby}

-- what was found near a section is so in these tables, where it was not forgotten
pub record StillStands (nearby : Nearby) (b : Book) (reach : ℕ) : Type 0 where
  pub near : (home : SectionPos) → nearby.home ≡ Some home → nearby.regions ≡ near_ids b home reach
  pub few : (home : SectionPos) → nearby.home ≡ Some home → length nearby.regions ≤ 625
