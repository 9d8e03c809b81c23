use Rattle.fol_tick_laws.proofs.tests.a_region_beside_a_tick_waits_for_its_end.Goals as goal

pub end-requires : goal.end-requires
end-requires g c = c.ask.ensures.kept c.begin-tick.result (c.load.ensures c.begin-tick.result c.begin-tick.ensures.opened)
