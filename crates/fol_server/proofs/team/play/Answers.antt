use Rattle.std.proofs.Crossing.{crosses, sync}
use denote.Param.Send.{sendable}
use Rattle.fol_server.proofs.Crossing.{Server-sync, Worker-send}
use Rattle.fol_server.proofs.team.play.Goals as goal

pub join_mut-requires-send-F : goal.join_mut-requires-send-F
join_mut-requires-send-F g c κs within = search (sendable, crosses, sync, Server-sync, Worker-send) depth 20
