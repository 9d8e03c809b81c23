use Rattle.fol_tick_laws.proofs.tests.what_a_tick_loads_waits_for_its_end.Goals as goal

pub end-requires : goal.end-requires
end-requires g c = c.load-2.ensures c.begin-tick.result c.begin-tick.ensures.opened
