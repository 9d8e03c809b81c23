use Rattle.std.proofs.Common.{refl, rules, None}
use Rattle.fol_model.specs.FlatTick.{moved}
use Rattle.fol_chunks.specs.Boxed.{contents_in}
use Rattle.fol_chunks.specs.Contents.{flat_of, is_recorded}
use Rattle.fol_chunks.proofs.Often.{iterate_stays}
use Rattle.fol_chunks.proofs.chunks.Chunks.step_entities.Goals.{in-Some, in-None}
use Rattle.fol_chunks.proofs.chunks.Chunks.step_entities.Goals as goal

pub returns-clause-moved : goal.returns-clause-moved
returns-clause-moved c =
    elim c.match-self.branch [
      | in-Some w ↦ search rules
      | in-None w ↦
          let stays = iterate_stays (moved (is_recorded c.args.chunks.now)) c.args.ticks (flat_of (contents_in None)) refl in
          rw (w.self-inside-is, ← c.self.view_is, w.in-None.is) stays
    ]
