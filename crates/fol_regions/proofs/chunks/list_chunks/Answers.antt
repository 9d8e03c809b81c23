use Rattle.std.proofs.Common.{◌≡◌, ◌∙◌, ap, arith, length, ◌++◌}
use Rattle.std.specs.Prelude.{filter, flat_map, pos}
use Rattle.fol_model.specs.declared.places.ChunkPos.{ChunkPos}
use Rattle.fol_model.specs.declared.places.SectionPos.{SectionPos}
use Rattle.fol_model.specs.Universe.{all_chunks}
use Rattle.fol_sections.specs.Table.{is_loaded_chunk_of}
use Rattle.std.proofs.Common.{List}
use Rattle.fol_regions.proofs.ChunkCounts.{counted_sum, listed_all, listed_whole}
use Rattle.fol_regions.proofs.chunks.list_chunks.Goals as goal

abbrev origin : SectionPos
origin = record { x = pos 0; z = pos 0 }

pub chunks_among-requires : goal.chunks_among-requires
chunks_among-requires c = omega (arith, ap length c.requires.empty, counted_sum c.args.sections.now c.args.row.now origin c.requires.rising, c.requires.room)

pub returns-clause-chunks : goal.returns-clause-chunks
returns-clause-chunks c =
    let listed : SectionPos → List ChunkPos = λ q. filter (is_loaded_chunk_of c.args.sections.now q) all_chunks in
    let whole = listed_whole c.args.sections.now c.args.row.now origin c.requires.rising in
    let items : c.chunks_among.new.out.items ≡ flat_map listed c.args.row.now = c.chunks_among.ensures.chunks ∙ ap (λ xs. xs ++ flat_map listed c.args.row.now) c.requires.empty in
    listed_all c.args.sections.now c.args.row.now c.chunks_among.new.out.items _ (rw items whole) c.put_in_order.ensures.moved c.put_in_order.ensures.sorted
