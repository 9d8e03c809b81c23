use Rattle.fol_script.proofs.CutShares.{cut_behind}
use Rattle.fol_script.proofs.shares.share_len.Goals as goal

pub returns-in-Some-clause-lines : goal.returns-in-Some-clause-lines
returns-in-Some-clause-lines c = cut_behind c.args.text.now c.args.size c.in-Some.n c.in-Some.ensures
