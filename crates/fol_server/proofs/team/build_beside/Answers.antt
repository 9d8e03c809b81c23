use Rattle.std.proofs.Crossing.{crosses}
use denote.Param.Send.{sendable}
use Rattle.fol_inbox.proofs.Crossing.{Sender-send}
use Rattle.fol_server.proofs.Crossing.{Server-sync}
use Rattle.fol_server.proofs.team.build_beside.Goals as goal

pub join_mut-requires-send-F : goal.join_mut-requires-send-F
join_mut-requires-send-F g c κs within = search (sendable, crosses, Server-sync, Sender-send) depth 20
