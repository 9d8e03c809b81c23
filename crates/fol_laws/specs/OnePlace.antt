-- Where each entity is.
use Rattle.std.specs.Prelude.{ℕ, ◌≡◌, ◌+◌, Bool, true, false, if◌then◌else◌, Option, Some, None}
use Rattle.fol_model.specs.declared.openings.Opening.{Opening}
use Rattle.fol_model.specs.declared.entities.Place.{Place}
use Rattle.fol_model.specs.declared.entities.Place.TheVariants.{At, Transit}
use Rattle.fol_model.specs.Counting.{count_below, some_below, least}
use Rattle.fol_model.specs.ActionStep.{Standing}
use Rattle.fol_model.specs.Outputs.{brings}
use Rattle.fol_model.specs.World.{World, standing_in}
use Rattle.fol_laws.specs.Points.{AtEveryPoint}

-- 1 where an entity stands
abbrev pub one : Option Standing → ℕ
one None = 0
one (Some b) = 1

-- the arrivals of an entity that are queued or taken
abbrev pub transits : World → ℕ → ℕ
transits w id = count_below (λ n. brings id (w.jobs n)) w.next_job

-- each entity of the opening stands at one block or has one arrival, and no other entity does
abbrev pub OnePlace : Opening → World → Type 0
OnePlace o w = (id : ℕ) → one (w.flat.standing id) + transits w id ≡ one (standing_in o.entities id)

abbrev pub EachHasOnePlace : Type 0
EachHasOnePlace = AtEveryPoint OnePlace

-- where an entity is, by where it stands, whether it has an arrival, and the number of that
abbrev pub place_at : Option Standing → Bool → ℕ → Option Place
place_at (Some b) found n = Some (At b.at)
place_at None found n = if found then Some (Transit n) else None

abbrev pub place_of : World → ℕ → Option Place
place_of w id = place_at (w.flat.standing id) (some_below (λ n. brings id (w.jobs n)) w.next_job) (least (λ n. brings id (w.jobs n)) w.next_job)

-- the place of an entity says where it is: it stands at the block, or that number is its arrival
pub record PlacesOk (o : Opening) (w : World) : Type 0 where
  pub none : (id : ℕ) → standing_in o.entities id ≡ None → place_of w id ≡ None
  pub some : (id : ℕ) (b : Standing) → standing_in o.entities id ≡ Some b → (p : Place) × (place_of w id ≡ Some p)
  pub stands : (id : ℕ) (b : Standing) → w.flat.standing id ≡ Some b → (place_of w id ≡ Some (At b.at)) × ((n : ℕ) → brings id (w.jobs n) ≡ false)
  pub arrives : (id n : ℕ) → brings id (w.jobs n) ≡ true → (place_of w id ≡ Some (Transit n)) × (w.flat.standing id ≡ None)

abbrev pub PlacesTellWhere : Type 0
PlacesTellWhere = AtEveryPoint PlacesOk
