-- The tasks that a task asks for whatever the world is like, and what is taken for them before it runs.
use Rattle.std.specs.Prelude.{◌≡◌, ◌-◌, List, Option, Some, None, nat_le, reverse, if◌then◌else◌}
use Rattle.std.specs.List.{flat_map}
use Rattle.std.specs.Option.{option_to_list}
use Rattle.fol_model.specs.Deed.{Deed}
use Rattle.fol_model.specs.Nesting.{action_of}
use Rattle.fol_model.specs.ActionStep.{plain_of}
use Rattle.fol_model.specs.declared.places.ChunkPos.{ChunkPos}
use Rattle.fol_model.specs.declared.actions.Action.{Action}
use Rattle.fol_model.specs.declared.actions.Action.TheVariants.{Post, Every}
use Rattle.fol_model.specs.declared.tasks.Task.{Task}
use Rattle.fol_model.specs.declared.tasks.Wish.{Wish}
use Rattle.fol_tick.specs.declared.prepared.Prepared.{Prepared}
use Rattle.fol_tick.specs.declared.prepared.Stock.{Stock}

-- the task that a `Post` asks for
abbrev pub posted_by : Action → Option Wish
posted_by (Post c d inner) = Some (record { chunk = c; delay = d; action = action_of inner; back = None })
posted_by _ = None

-- the task again, where it runs once more
abbrev pub repeated_by : ChunkPos → Action → Option Wish
repeated_by c (Every period left inner) = if nat_le 2 left then Some (record { chunk = c; delay = period; action = Every period (left - 1) inner; back = None }) else None
repeated_by c _ = None

-- the action of the task that a `Post` asks for
abbrev pub own_in : Action → Option Action
own_in (Post c d inner) = Some (action_of inner)
own_in _ = None

-- the action inside one that runs once more
abbrev pub again_in : Action → Option Deed
again_in (Every period left inner) = if nat_le 2 left then Some inner else None
again_in _ = None

abbrev pub prepared_of : Task → Prepared
prepared_of t = record { own = own_in (plain_of t.action); again = again_in t.action }

-- what is taken for tasks, that of the last task first
pub record IsStockOf (ts : List Task) (s : Stock) : Type 0 where
  pub own : s.own.items ≡ reverse (flat_map (λ t. option_to_list (own_in (plain_of t.action))) ts)
  pub again : s.again.items ≡ reverse (flat_map (λ t. option_to_list (again_in t.action)) ts)
