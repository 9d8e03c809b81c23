use Rattle.std.proofs.Common.{◌∙◌, refl, sym}
use Rattle.fol_blocks.specs.Kept.{blocks_of}
use Rattle.fol_model.specs.ActionStep.{Flat}
use Rattle.fol_model.specs.World.{block_in, standing_in}
use Rattle.fol_chunks.specs.Contents.{is_recorded}
use Rattle.fol_chunks.proofs.Flats.{flat_is}
use Rattle.fol_chunks.proofs.Often.{often_moved}
use Rattle.fol_chunks.proofs.held.Held.step_entities.Goals as goal

pub returns-clause-moved : goal.returns-clause-moved
returns-clause-moved c =
    let old : Flat = record { blocks = block_in (blocks_of c.self.inside.blocks); standing = standing_in c.self.inside.entities.members } in
    rw (← c.self.view_is) (flat_is _ _ refl c.step.ensures.moved ∙ sym (often_moved (is_recorded c.args.chunks.now) c.args.ticks old))
