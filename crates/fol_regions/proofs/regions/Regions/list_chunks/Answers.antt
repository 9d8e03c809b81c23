use Rattle.std.proofs.Common.{◌∙◌}
use Rattle.fol_regions.specs.Released.{grid_of}
use Rattle.fol_regions.specs.Table.{grid_state}
use Rattle.fol_regions.proofs.ChunkCounts.{row_rising, counted_rows, listed_rows}
use Rattle.fol_regions.proofs.regions.Regions.list_chunks.Goals as goal

pub list_chunks-requires-clause-rising : goal.list_chunks-requires-clause-rising
list_chunks-requires-clause-rising c = rw c.sections.ensures (row_rising c.self.inside.tables c.args.id c.keeps_lists.ensures c.requires.given.above)

pub list_chunks-requires-clause-room : goal.list_chunks-requires-clause-room
unfolding grid_state grid_of
list_chunks-requires-clause-room c =
    let room = rw (← c.self.view_is) at c.requires.room in
    let rows = counted_rows c.self.inside.sections c.self.inside.tables c.args.id c.keeps_lists.ensures c.requires.given.above in
    rw (c.sections.ensures, rows) room

pub returns-clause-chunks : goal.returns-clause-chunks
unfolding grid_state grid_of
returns-clause-chunks c =
    let rows = listed_rows c.self.inside.sections c.self.inside.tables c.args.id c.keeps_lists.ensures c.requires.given.above in
    rw (← c.self.view_is) (c.list_chunks.ensures.chunks ∙ rw c.sections.ensures rows)
