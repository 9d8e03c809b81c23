use Rattle.std.proofs.Common.{◌≡◌, ◌∙◌, filter}
use Rattle.fol_model.specs.Universe.{all_chunks}
use Rattle.fol_model.specs.Outputs.{is_chunk_of}
use Rattle.fol_regions.specs.Table.{grid_state}
use Rattle.fol_store.specs.Stock.{bag_of}
use Rattle.fol_world.proofs.ChunkLists.{kept_sorted, kept_within}
use Rattle.fol_world.proofs.GatheredBags.{gathered_all}
use Rattle.fol_world.proofs.begins.settle.Goals as goal

pub gather-requires-clause-order : goal.gather-requires-clause-order
gather-requires-clause-order c =
    let e : c.deref.result.now ≡ filter (is_chunk_of (grid_state c.args.regions.now) c.args.id) all_chunks = c.deref.ensures.value ∙ c.in_ok-chunks.ensures in
    rw e (kept_sorted (is_chunk_of (grid_state c.args.regions.now) c.args.id))

pub gather-requires-clause-places : goal.gather-requires-clause-places
gather-requires-clause-places c =
    let e : c.deref.result.now ≡ filter (is_chunk_of (grid_state c.args.regions.now) c.args.id) all_chunks = c.deref.ensures.value ∙ c.in_ok-chunks.ensures in
    rw e (kept_within (is_chunk_of (grid_state c.args.regions.now) c.args.id))

pub returns-clause-bags : goal.returns-clause-bags
returns-clause-bags c =
    gathered_all c.gather.result (grid_state c.args.regions.now) c.args.id c.deref.result.now (bag_of c.args.store.now) (bag_of c.gather.new.self) (c.deref.ensures.value ∙ c.in_ok-chunks.ensures)
    c.requires.at_home c.gather.ensures.whole c.gather.ensures.err c.gather.ensures.others
