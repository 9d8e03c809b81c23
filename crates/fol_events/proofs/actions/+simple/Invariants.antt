use Rattle.fol_events.proofs.actions.+simple.Given as goal

abbrev pub decreases-simple : goal.decreases-simple
decreases-simple l = l.posts
