use Rattle.fol_check.proofs.Closing.{legal_when_finished, no_fault}
use Rattle.fol_check.proofs.replay.Replay.close.Goals as goal

pub unreachable-requires : goal.unreachable-requires
unreachable-requires c = no_fault c.args.self c.requires.stands c.requires.finished (rw c.in-Err-Ticking.field-0-is at c.in-Err-Ticking.ensures.fault).0

pub returns-in-Ok : goal.returns-in-Ok
returns-in-Ok c = record { legal = legal_when_finished c.args.self c.requires.stands c.requires.finished; outputs = c.in-Ok.ensures.rows }
