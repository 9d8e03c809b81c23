use Rattle.fol_report_laws.specs.Laws.{events}
use Rattle.fol_check.specs.Playing.{PlaysAll}
use Rattle.fol_check.proofs.Wholly.{played_whole}
use Rattle.fol_check.proofs.whole.replay_events.Goals as goal

pub returns-in-Ok-Some : goal.returns-in-Ok-Some
returns-in-Ok-Some c =
    let start = c.in_ok-replay.ensures in
    rw (start.opening, start.script) at (rw c.in-Ok-Some.field-0-is at c.in-Ok-Some.ensures)

pub returns-in_ok-close-in-Ok-None : goal.returns-in_ok-close-in-Ok-None
returns-in_ok-close-in-Ok-None c =
    let start = c.in_ok-replay.ensures in
    let plays : PlaysAll c.in_ok-replay.replay c.play.new.self (events c.args.history) = rw c.in-Ok-None.field-0-is at c.in-Ok-None.ensures in
    let all = rw (start.opening, start.script) at plays.all in
    played_whole c.play.new.self c.args.opening c.args.script (events c.args.history) plays.count all c.in_ok-close-in-Ok-None.field-0 c.in_ok-close-in-Ok-None.ensures
