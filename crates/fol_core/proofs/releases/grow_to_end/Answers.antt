use Rattle.std.proofs.Common.{refl}
use Rattle.fol_core.proofs.releases.grow_to_end.Goals as goal

pub returns-clause-same : goal.returns-clause-same
returns-clause-same c = record {
  grid = refl;
  regions = c.reserve-2.ensures.state;
  store = c.grow_store.ensures.same;
  tickets = c.grow_tickets.ensures.same;
  agenda = c.reserve-3.ensures.items;
  agenda_len = c.reserve-3.ensures.len;
  agenda_capacity = c.reserve-3.ensures.capacity;
  course = refl;
}
