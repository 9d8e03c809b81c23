-- Threads may share the bell.
use denote.Param.Send.{IsSync, sendable}
use denote.Param.SendFields.{declared_sync}
use Rattle.std.proofs.Crossing.{crosses}
use Rattle.fol_pool.specs.contracts.bell.Bell as bell

pub Bell-sync : IsSync bell.the_row
Bell-sync = declared_sync bell.the_type (search (sendable, crosses) depth 14, tt)
