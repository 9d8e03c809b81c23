-- Where entities stand in the body of a tick.
use Rattle.std.specs.Prelude.{ℕ, ◌≡◌, Bool, true, nat_eq, if◌then◌else◌, List, Option, None, All}
use Rattle.std.specs.Option.{option_map, is_some}
use Rattle.std.specs.List.{find}
use Rattle.std.specs.List.Sorted.{IsStrictlySortedBy}
use Rattle.std.specs.Ordering.{nat_cmp}
use Rattle.std.specs.declared.cmp.Ordering.{Ordering}
use Rattle.fol_model.specs.declared.places.BlockPos.{BlockPos}
use Rattle.fol_model.specs.declared.openings.Opening.{Opening}
use Rattle.fol_model.specs.ActionStep.{Standing}
use Rattle.fol_model.specs.World.{standing_in}
use Rattle.fol_chunks.specs.Contents.{flat_of}
use Rattle.fol_data.specs.declared.tick.Tick.{Tick}
use Rattle.fol_follow.specs.declared.entries.EntityAt.{EntityAt}

-- the entity is one of the opening
abbrev pub is_known : Opening → ℕ → Bool
is_known o id = is_some (standing_in o.entities id)

abbrev pub by_id : EntityAt → EntityAt → Ordering
by_id a b = nat_cmp a.id b.id

-- where the entity stands, by this list
abbrev pub place_in : List EntityAt → ℕ → Option BlockPos
place_in here id = option_map (λ (e : EntityAt). e.at) (find (λ (e : EntityAt). nat_eq e.id id) here)

-- entities of the opening, by id
pub record AreKnown (o : Opening) (here : List EntityAt) : Type 0 where
  pub order : IsStrictlySortedBy by_id here
  pub known : All (λ (e : EntityAt). is_known o e.id ≡ true) here

-- the opening's entities that stand in the tick's body, by id
pub record AreHere (o : Opening) (tick : Tick) (here : List EntityAt) : Type 0 where
  pub order : IsStrictlySortedBy by_id here
  pub each : (id : ℕ) → place_in here id ≡ (if is_known o id then option_map (λ (s : Standing). s.at) ((flat_of tick.body.chunks).standing id) else None)
