use Rattle.fol_server.proofs.ending.close_book.Goals as goal

pub close-requires-clause-all : goal.close-requires-clause-all
close-requires-clause-all c = rw c.in-Ok.ensures.items c.requires.all
