use Rattle.std.proofs.Common.{◌≡◌, ◌∙◌, ap, arith, length}
use Rattle.fol_region_tables.specs.Book.{rows_of}
use Rattle.fol_regions.specs.Released.{grid_of}
use Rattle.fol_regions.specs.Table.{grid_state}
use Rattle.fol_region_tables.proofs.BookFacts.{row_most}
use Rattle.fol_regions.proofs.ChunkCounts.{row_rising, counted_rows}
use Rattle.fol_regions.proofs.ReleaseFacts.{owned_few}
use Rattle.fol_regions.proofs.regions.Regions.chunk_count.Goals as goal

pub count_chunks-requires : goal.count_chunks-requires
count_chunks-requires c =
    let up = row_rising c.self.inside.tables c.args.id c.keeps_lists.ensures c.requires.given.above in
    let most = row_most c.self.inside.tables c.args.id c.keeps_lists.ensures c.requires.given.above (owned_few c.self.inside.sections c.self.inside.tables c.self.invariant.0.rules) in
    record { rising = rw c.sections.ensures up; few = rw c.sections.ensures most }

pub returns-clause-value : goal.returns-clause-value
unfolding grid_state grid_of
returns-clause-value c =
    let rows = counted_rows c.self.inside.sections c.self.inside.tables c.args.id c.keeps_lists.ensures c.requires.given.above in
    rw (← c.self.view_is) (c.count_chunks.ensures.value ∙ rw c.sections.ensures rows)

pub returns-clause-few : goal.returns-clause-few
returns-clause-few c =
    let most = row_most c.self.inside.tables c.args.id c.keeps_lists.ensures c.requires.given.above (owned_few c.self.inside.sections c.self.inside.tables c.self.invariant.0.rules) in
    let e : length c.sections.result.now ≡ length (rows_of c.self.inside.tables c.args.id) = ap length c.sections.ensures in
    omega (arith, c.count_chunks.ensures.few, e, most)
