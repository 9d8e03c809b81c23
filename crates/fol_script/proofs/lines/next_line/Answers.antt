use Rattle.std.proofs.Common.{◌+◌}
use Rattle.fol_script.proofs.Cuts.{first_line, rest_of, last_line}
use Rattle.fol_script.proofs.lines.next_line.Goals as goal

pub returns-then-n-text-clause-lines : goal.returns-then-n-text-clause-lines
returns-then-n-text-clause-lines c = let e = first_line c.args.text.now c.line_len-n.result c.requires c.line_len-n.ensures.place in rw (rest_of c.args.text.now (c.line_len-n.result + 1)) e

pub returns-else-n-text-clause-lines : goal.returns-else-n-text-clause-lines
returns-else-n-text-clause-lines c = let e = first_line c.args.text.now c.line_len-n.result c.requires c.line_len-n.ensures.place in last_line c.args.text.now c.line_len-n.result c.if-n-text.false e
