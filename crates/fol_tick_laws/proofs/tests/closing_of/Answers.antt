use Rattle.fol_tick_laws.proofs.tests.closing_of.Goals as goal

pub closing-requires : goal.closing-requires
closing-requires g c = record { none = c.busy.invariant.1 }
