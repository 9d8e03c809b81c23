use Rattle.std.proofs.Common.{vec_len}
use Rattle.fol_pool.proofs.team.+team.Given as goal

abbrev pub decreases-team : goal.decreases-team
decreases-team g l = vec_len l.workers
