use Rattle.std.proofs.Common.{arith}
use Rattle.fol_script.proofs.ScriptBefore.{run_taken, end_taken}
use Rattle.fol_script.proofs.script_lines.take_row.Goals as goal

pub returns-else-before-n-gt10000 : goal.returns-else-before-n-gt10000
returns-else-before-n-gt10000 c = run_taken c.args.key c.args.cells.now c.args.before.now c.size_at-n.result c.in-Run.is c.size_at-n.ensures.size c.requires.order (omega (arith, c.if-before-n-gt10000.false))

pub returns-in-End : goal.returns-in-End
returns-in-End c = end_taken c.args.key c.args.cells.now c.args.before.now c.in-End.is c.requires.order
