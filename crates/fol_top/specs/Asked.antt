-- What a request of the program stands for.
use Rattle.std.specs.Prelude.{◌≤◌}
use Rattle.fol_top.specs.declared.command.Request.{Request}
use Rattle.fol_top.specs.declared.command.Request.TheVariants.{Run, Check, Make}
use Rattle.fol_top.specs.Command as words

abbrev pub asked : Request → words.Request
asked (Run names workers form) = words.run (record { world = names.world.now; script = names.script.now }) workers form
asked (Check names report) = words.check (record { world = names.world.now; script = names.script.now }) report.now
asked (Make clusters) = words.make clusters

-- from 1 to 64 workers, and from 1 to 500 clusters
abbrev pub IsWithin : Request → Type 0
IsWithin (Run names workers form) = (1 ≤ workers) × (workers ≤ 64)
IsWithin (Check names report) = Unit {0}
IsWithin (Make clusters) = (1 ≤ clusters) × (clusters ≤ 500)
