use Rattle.std.proofs.Common.{◌≡◌, ◌<◌, Some, None, get_or, length, arith}
use Rattle.std.specs.Prelude.{◌-◌}
use Rattle.fol_check.proofs.Places.{has_asked, read_at}
use Rattle.fol_check.proofs.replay.Replay.asks.Goals as goal

pub returns-in-Some : goal.returns-in-Some
returns-in-Some c =
    let low : c.args.worker - 1 < length c.args.self.now.workers.items = omega arith in
    let read = c.in-Some.is in
    let at : get_or c.args.self.now.workers.items (c.args.worker - 1) None ≡ c.index.result.now = read_at c.args.self.now.workers.items (c.args.worker - 1) c.index.result.now None low c.index.ensures in
    let there : get_or c.args.self.now.workers.items (c.args.worker - 1) None ≡ Some c.in-Some.held = cc in
    has_asked c.args.self.now c.args.worker c.args.ask c.in-Some.held c.asks_for.result (omega arith) (omega arith) there c.asks_for.ensures
