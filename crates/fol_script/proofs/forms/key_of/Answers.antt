use Rattle.std.proofs.Common.{sym}
use Rattle.fol_script.proofs.Letters.{is_likely, is_no_key}
use Rattle.fol_script.proofs.forms.key_of.Goals as goal

pub returns-then-eq : goal.returns-then-eq
returns-then-eq c = is_likely c.args.word.now c.spelling.result.now c.likely_key-key.result c.likely_key-key.ensures c.spelling.ensures (sym c.if-eq.ensures)

pub returns-else-eq : goal.returns-else-eq
returns-else-eq c = is_no_key c.args.word.now c.spelling.result.now c.likely_key-key.result c.likely_key-key.ensures c.spelling.ensures (sym c.if-eq.ensures)
