use Rattle.fol_sections.specs.Places.{number_at}
use Rattle.fol_world.proofs.tables.grow_tickets.Goals as goal

pub returns-clause-same : goal.returns-clause-same
unfolding number_at
returns-clause-same c a b = c.reserve.ensures.entries.2 (a, b)
