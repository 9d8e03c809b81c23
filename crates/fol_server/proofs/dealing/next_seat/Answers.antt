use Rattle.std.proofs.Common.{◌+◌, ◌-◌, arith}
use Rattle.fol_live.specs.Lives.{live_id}
use Rattle.fol_server.specs.Dealt.{IsNewSeat}
use Rattle.fol_server.proofs.Dealt.{next}
use Rattle.fol_server.proofs.dealing.next_seat.Goals as goal

pub returns-clause-left : goal.returns-clause-left
returns-clause-left c =
    let n = next (IsNewSeat (live_id c.args.live.now)) c.args.number (6 - c.args.number) (6 - (c.args.number + 1)) c.args.seats.now.items c.remove.result c.remove.new.self.items
    (omega (arith, c.requires.low)) c.requires.left c.remove.ensures.value c.remove.ensures.items in
    n.left
