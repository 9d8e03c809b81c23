use Rattle.fol_end_laws.proofs.KeptQueues.{queue_kept}
use Rattle.fol_end_laws.proofs.queue_is_kept.Goals as goal

pub returns : goal.returns
returns c = queue_kept
