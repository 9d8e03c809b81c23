use Rattle.std.proofs.Common.{◌≡◌, ◌≤◌, vec_len, vec_capacity}
use Rattle.fol_regions.specs.Table.{grid_state}
use Rattle.fol_store.specs.Stock.{bag_of}
use Rattle.fol_world.specs.Agenda.{Covers}
use Rattle.fol_world.proofs.agenda.tidy.Given as goal

abbrev pub invariant-loop-id : goal.invariant-loop-id
invariant-loop-id l =
    Covers l.agenda.items (grid_state l.regions) (bag_of l.store)
    × (vec_len l.agenda ≤ vec_len l.initial.agenda)
    × (vec_capacity l.agenda ≡ vec_capacity l.initial.agenda)

abbrev pub decreases-loop-id : goal.decreases-loop-id
decreases-loop-id l = vec_len l.agenda
