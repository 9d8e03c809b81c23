use Rattle.fol_pool.proofs.script.close.Goals as goal

pub close-requires-clause-all : goal.close-requires-clause-all
close-requires-clause-all c = rw c.push_reserved.ensures.items c.requires.all
