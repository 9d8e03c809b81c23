use Rattle.fol_core.specs.Meaning.{world_of}
use Rattle.fol_tick_laws.proofs.OpenTicks.{by_its_own}
use Rattle.fol_tick_laws.proofs.Unprepared.{alone_prepared, none_learnt}
use Rattle.fol_bench.proofs.early.World.make_and_take_back.Goals as goal

pub prepare-tick-requires-clause-ready : goal.prepare-tick-requires-clause-ready
prepare-tick-requires-clause-ready g c = rw (← c.self.view_is) at c.requires

pub withdraw-is_ready-requires-clause-prepared : goal.withdraw-is_ready-requires-clause-prepared
withdraw-is_ready-requires-clause-prepared g c =
    let region = c.prepare-tick.ensures.tick.region in
    rw region (alone_prepared c.self.inside.core c.prepare-tick.new.self 1 c.self.invariant.1 c.prepare-tick.ensures.prepared.prepared).prepared

pub withdraw-is_ready-requires-clause-tick : goal.withdraw-is_ready-requires-clause-tick
withdraw-is_ready-requires-clause-tick g c =
    let is = c.prepare-tick.ensures.tick in
    let made = c.prepare-tick.ensures.prepared in
    rw (made.opening, made.history) (by_its_own (world_of c.self.inside.core) _ 0 1 c.prepare-tick.result is)

pub invariant_of-self : goal.invariant_of-self
invariant_of-self g c =
    let region = c.prepare-tick.ensures.tick.region in
    let made = c.prepare-tick.ensures.prepared in
    let back = rw region at c.withdraw-is_ready.ensures.withdrawn in (
      rw (back.opening, made.opening) c.self.invariant.0,
      none_learnt c.self.inside.core c.prepare-tick.new.self c.withdraw-is_ready.new.self 1 c.self.invariant.1 made.prepared back.prepared,
    )
