-- An entity that was sent and comes back.
use Rattle.std.specs.Prelude.{◌≡◌, Option, Some, IsNone}
use Rattle.fol_model.specs.declared.places.BlockPos.{BlockPos}
use Rattle.fol_model.specs.declared.entities.Entity.{Entity}
use Rattle.fol_model.specs.declared.actions.Action.{Action}
use Rattle.fol_model.specs.declared.actions.Action.TheVariants.{Arrive}
use Rattle.fol_model.specs.ActionStep.{Flat, at_id}

-- an entity that is sent stands at this block again
abbrev pub returned : Flat → Action → Option BlockPos → Flat
returned f (Arrive e) (Some b) = record f { standing = at_id f.standing e.id (Some (record { at = b; vx = e.vx; vz = e.vz })) }
returned f _ _ = f

-- the entity stands nowhere
abbrev pub StandsNowhere : Flat → Action → Type 0
StandsNowhere f a = (e : Entity) → a ≡ Arrive e → IsNone (f.standing e.id)
