-- What was found near a section stands until an owner changes.
use Rattle.std.proofs.Common.{◌≡◌, ℕ, sym, ◌∙◌, None}
use Rattle.std.specs.Prelude.{filter}
use Rattle.fol_model.specs.declared.places.SectionPos.{SectionPos}
use Rattle.fol_model.specs.Universe.{numbers_below}
use Rattle.fol_region_tables.specs.Book.{Book, owner_of}
use Rattle.fol_regions.specs.declared.nearby.Nearby.{Nearby}
use Rattle.fol_regions.specs.Near.{is_close}
use Rattle.fol_regions.specs.Nearby.{StillStands}

-- where it was forgotten, nothing has to stand
pub forgotten_stands : (n : Nearby) (b : Book) (reach : ℕ) → n.home ≡ None → StillStands n b reach
forgotten_stands n b reach e = record { near = λ home is. absurd cc; few = λ home is. absurd cc }

-- it stands in tables with the same owners and ids
pub owners_stand : (n : Nearby) (b d : Book) (reach : ℕ) → owner_of d ≡ owner_of b → d.next ≡ b.next → StillStands n b reach → StillStands n d reach
owners_stand n b d reach owner next stands = record {
  near = λ home is. stands.near home is ∙ sym (λ i. filter (is_close (owner i) home reach) (numbers_below (next i)));
  few = stands.few;
}
