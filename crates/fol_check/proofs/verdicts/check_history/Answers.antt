use Rattle.fol_check.proofs.Deciding.{compared, stopped}
use Rattle.fol_check.proofs.verdicts.check_history.Goals as goal

pub returns-in-Whole : goal.returns-in-Whole
returns-in-Whole c = compared c.args.opening c.args.script c.args.bytes.now c.args.history c.requires.told c.in-Whole.closing c.compare.result (rw c.in-Whole.is at c.in_ok-closing.ensures) c.compare.ensures

pub returns-in-Stops : goal.returns-in-Stops
returns-in-Stops c = stopped c.args.opening c.args.script c.args.bytes.now c.args.history c.requires.told c.in-Stops.place (rw c.in-Stops.is at c.in_ok-closing.ensures)
