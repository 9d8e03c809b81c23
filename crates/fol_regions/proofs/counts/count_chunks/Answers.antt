use Rattle.std.proofs.Common.{◌∙◌}
use Rattle.std.specs.Prelude.{pos}
use Rattle.fol_regions.proofs.ChunkCounts.{counted_sum}
use Rattle.fol_regions.proofs.counts.count_chunks.Goals as goal

pub returns-clause-value : goal.returns-clause-value
returns-clause-value c = c.loaded_among.ensures.value ∙ counted_sum c.args.sections.now c.args.row.now (record { x = pos 0; z = pos 0 }) c.requires.rising
