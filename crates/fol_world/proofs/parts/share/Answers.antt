use Rattle.std.proofs.Common.{◌≡◌, ◌∙◌, ap, not, filter}
use Rattle.fol_model.specs.Outputs.{is_chunk_of}
use Rattle.fol_regions.specs.Table.{grid_state}
use Rattle.fol_chunks.specs.Contents.{is_recorded}
use Rattle.fol_store.specs.Stock.{bag_of}
use Rattle.fol_world.proofs.ChunkLists.{kept_listed, kept_sorted, loaded_within}
use Rattle.fol_world.proofs.PartedBags.{part_gathered}
use Rattle.fol_world.proofs.parts.share.Goals as goal

pub hand_over-requires-clause-order : goal.hand_over-requires-clause-order
hand_over-requires-clause-order c = let e = c.in-Ok.ensures in rw e (kept_sorted (is_chunk_of (grid_state c.args.regions.now) c.args.id))

pub returns-in-Ok-clause-left : goal.returns-in-Ok-clause-left
returns-in-Ok-clause-left c w =
    let g = grid_state c.args.regions.now in
    let l = c.hand_over.ensures.left w in
    let same : is_recorded c.in-Ok.chunks.items ≡ is_chunk_of g c.args.id = ap is_recorded c.in-Ok.ensures ∙ kept_listed (is_chunk_of g c.args.id) (loaded_within g c.args.id c.keeps_rules.ensures) in
    (l.0, l.1 ∙ ap (λ p. filter (λ q. not (p q)) (bag_of c.args.store.now c.args.region).chunks) same)

pub returns-in-Ok-clause-own : goal.returns-in-Ok-clause-own
returns-in-Ok-clause-own c =
    let g = grid_state c.args.regions.now in
    part_gathered g c.args.id _ _ (bag_of c.args.store.now c.args.id) (bag_of c.hand_over.new.self c.args.id) c.in-Ok.chunks.items c.requires.fresh.fresh c.hand_over.ensures.own c.hand_over.ensures.chunks c.in-Ok.ensures
