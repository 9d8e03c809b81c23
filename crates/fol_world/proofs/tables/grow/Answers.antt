use Rattle.std.proofs.Common.{refl}
use Rattle.fol_sections.specs.Places.{number_at}
use Rattle.fol_world.proofs.tables.grow.Goals as goal

pub returns-clause-same : goal.returns-clause-same
unfolding number_at
returns-clause-same c = record {
  grid = refl;
  regions = c.reserve.ensures.state;
  store = record { flat = c.reserve-2.ensures.contents; jobs = c.reserve-2.ensures.tasks; bags = c.reserve-2.ensures.bags; next = c.reserve-2.ensures.next };
  tickets = λ a b. c.reserve-3.ensures.entries.2 (a, b);
  agenda = c.reserve-4.ensures.items;
  agenda_len = c.reserve-4.ensures.len;
  agenda_capacity = c.reserve-4.ensures.capacity;
  course = refl;
}

pub returns-in_err-reserve-4-clause-same : goal.returns-in_err-reserve-4-clause-same
unfolding number_at
returns-in_err-reserve-4-clause-same c = record {
  grid = refl;
  regions = c.reserve.ensures.state;
  store = record { flat = c.reserve-2.ensures.contents; jobs = c.reserve-2.ensures.tasks; bags = c.reserve-2.ensures.bags; next = c.reserve-2.ensures.next };
  tickets = λ a b. c.reserve-3.ensures.entries.2 (a, b);
  agenda = c.reserve-4.ensures.items;
  agenda_len = c.reserve-4.ensures.len;
  agenda_capacity = c.reserve-4.ensures.capacity;
  course = refl;
}
