use Rattle.std.proofs.Common.{refl, arith}
use Rattle.fol_regions.specs.Table.{grid_state}
use Rattle.fol_store.specs.Stock.{bag_of}
use Rattle.fol_world.specs.Agenda.{GrowsBy}
use Rattle.fol_world.proofs.QuietBags.{owing_here, times_covers, times_have}
use Rattle.fol_world.proofs.QuietTicks.{passes_ticks}
use Rattle.fol_world.proofs.quiet.pass_ticks.Goals as goal

pub tick-before-requires : goal.tick-before-requires
tick-before-requires c = owing_here (grid_state c.args.tables.now.regions) (bag_of c.args.tables.now.store) c.args.id c.requires.bags c.requires.quiet.each.owing

pub pass-requires-clause-here : goal.pass-requires-clause-here
pass-requires-clause-here c = owing_here (grid_state c.args.tables.now.regions) (bag_of c.args.tables.now.store) c.args.id c.requires.bags c.requires.quiet.each.owing

pub tidy-requires-clause-bags : goal.tidy-requires-clause-bags
tidy-requires-clause-bags c = times_have (grid_state c.args.tables.now.regions) c.args.id c.args.ticks c.args.tables.now.store c.pass.new.self c.pass.ensures.passes c.requires.bags

pub tidy-requires-clause-covers : goal.tidy-requires-clause-covers
tidy-requires-clause-covers c = times_covers c.args.tables.now.agenda.items (grid_state c.args.tables.now.regions) c.args.id c.args.ticks c.args.tables.now.store c.pass.new.self c.pass.ensures.passes c.requires.agenda.covers

pub returns-clause-passed : goal.returns-clause-passed
returns-clause-passed c =
    let stack : GrowsBy 0 c.args.tables.now.agenda c.tidy.new.agenda = record { len = omega (arith, c.tidy.ensures.len); capacity = c.tidy.ensures.capacity } in
    passes_ticks c.args.id c.args.tables.now _ c.requires.quiet.each refl c.tidy.ensures.agenda stack refl refl refl c.args.ticks c.args.tables.now.store c.requires.agenda c.pass.ensures.passes
