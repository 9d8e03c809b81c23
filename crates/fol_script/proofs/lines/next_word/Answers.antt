use Rattle.std.proofs.Common.{arith}
use Rattle.std.proofs.lemmas.Grind.{common_steps}
use Rattle.fol_script.proofs.Cuts.{first_word, one_word}
use Rattle.fol_script.proofs.lines.next_word.Goals as goal

pub returns-then-n-text-clause-words : goal.returns-then-n-text-clause-words
returns-then-n-text-clause-words c = let e = first_word c.args.text.now c.word_len-n.result c.if-n-text.true c.word_len-n.ensures.place in grind (arith, common_steps, e)

pub returns-else-n-text-clause-words : goal.returns-else-n-text-clause-words
returns-else-n-text-clause-words c = one_word c.args.text.now (omega (arith, c.word_len-n.ensures.place, c.if-n-text.false))
