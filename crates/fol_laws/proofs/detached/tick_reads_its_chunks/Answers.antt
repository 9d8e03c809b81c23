use Rattle.fol_laws.proofs.DetachedLaws.{tick_reads_its_chunks}
use Rattle.fol_laws.proofs.detached.tick_reads_its_chunks.Goals as goal

pub returns : goal.returns
returns c = tick_reads_its_chunks
