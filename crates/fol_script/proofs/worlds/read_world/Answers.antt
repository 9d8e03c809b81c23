use Rattle.std.proofs.Common.{sym, subst}
use Rattle.fol_model.specs.declared.openings.Opening.{Opening}
use Rattle.fol_model.specs.Texts.{IsWorldText}
use Rattle.fol_text_laws.proofs.WorldLaws.{world_gives_opening}
use Rattle.fol_script.specs.Kept.{entries_in}
use Rattle.fol_script.specs.WorldMaps.{stored_blocks, values_of}
use Rattle.fol_script.proofs.ReadWorld.{no_version, no_grid, opened}
use Rattle.fol_script.proofs.worlds.read_world.Goals as goal

pub make_opening-requires : goal.make_opening-requires
make_opening-requires c =
    let b = c.in_ok-before.before in
    let o : Opening = record { version = c.in-Some.version; grid = c.in-Some-grid.grid; blocks = stored_blocks (entries_in b.blocks); entities = values_of (entries_in b.entities) } in
    world_gives_opening c.args.bytes.now o (opened c.args.bytes.now b c.in_ok-before.line c.in-Some.version c.in-Some-grid.grid c.in_ok-before.ensures c.in-Some.is c.in-Some-grid.is)

pub returns-in-None : goal.returns-in-None
returns-in-None c = no_version c.args.bytes.now c.in_ok-before.before c.in_ok-before.line c.in_ok-before.ensures c.in-None.is

pub returns-in-None-grid : goal.returns-in-None-grid
returns-in-None-grid c = no_grid c.args.bytes.now c.in_ok-before.before c.in_ok-before.line c.in-Some.version c.in_ok-before.ensures c.in-Some.is c.in-None-grid.is

pub returns-in_ok-make_opening-in-Some-grid : goal.returns-in_ok-make_opening-in-Some-grid
returns-in_ok-make_opening-in-Some-grid c =
    subst (IsWorldText c.args.bytes.now) (sym c.in_ok-make_opening-in-Some-grid.ensures)
    (opened c.args.bytes.now c.in_ok-before.before c.in_ok-before.line c.in-Some.version c.in-Some-grid.grid c.in_ok-before.ensures c.in-Some.is c.in-Some-grid.is)
