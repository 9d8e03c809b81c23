-- How many tasks a task may ask for.
use Rattle.std.specs.Prelude.{ℕ, ◌+◌, length}
use Rattle.std.specs.Option.{option_to_list}
use Rattle.fol_model.specs.ActionStep.{plain_of}
use Rattle.fol_model.specs.declared.actions.Action.{Action}
use Rattle.fol_model.specs.declared.actions.Action.TheVariants.{Post, Send}
use Rattle.fol_model.specs.declared.tasks.Task.{Task}
use Rattle.fol_tick.specs.Prepared.{again_in}

-- whatever the world is like, a plain action asks for no more
abbrev pub most_posted : Action → ℕ
most_posted (Post c d inner) = 1
most_posted (Send id to) = 1
most_posted _ = 0

-- what its plain action asks for, and itself where it runs once more
abbrev pub most_asked : Task → ℕ
most_asked t = most_posted (plain_of t.action) + length (option_to_list (again_in t.action))
