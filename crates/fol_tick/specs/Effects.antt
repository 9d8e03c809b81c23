-- What one action does.
use Rattle.std.specs.Prelude.{◌≡◌, List, [], ◌∷◌, map, if◌then◌else◌}
use Rattle.std.specs.Option.{option_to_list}
use Rattle.fol_model.specs.ActionStep.{Flat, Recorded, act, outcome_of, plain_wishes}
use Rattle.fol_model.specs.declared.actions.Action.{Action}
use Rattle.fol_model.specs.declared.tasks.Outcome.{Outcome}
use Rattle.fol_model.specs.declared.tasks.Outcome.TheVariants.{Done}
use Rattle.fol_tick.specs.Calls.{HostCall, action_called, outcome_told, is_hosted}
use Rattle.fol_tick.specs.declared.step.Effect.{Effect}

-- the action acted on the one world and left the other, with this effect
pub record Acts (rec : Recorded) (given : Outcome) (a : Action) (before after : Flat) (e : Effect) : Type 0 where
  pub flat : after ≡ act rec before a
  pub outcome : e.outcome ≡ outcome_of rec before given a
  pub wish : option_to_list e.wish ≡ plain_wishes rec before a

-- the outcome that the call for an action gives
abbrev pub outcome_given : List HostCall → Outcome
outcome_given [] = Done
outcome_given (x ∷ xs) = outcome_told x

-- the call that an action asks for
abbrev pub IsCallOf : Action → List HostCall → Type 0
IsCallOf a calls = map action_called calls ≡ (if is_hosted a then a ∷ [] else [])
