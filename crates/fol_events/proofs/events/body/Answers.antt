use Rattle.std.proofs.Common.{sym, subst}
use Rattle.fol_events.specs.declared.heads.Head.{Head}
use Rattle.fol_events.specs.Bodies.{NoBody}
use Rattle.fol_events.proofs.events.body.Goals as goal

pub returns-in-Post-clause-none : goal.returns-in-Post-clause-none
returns-in-Post-clause-none c e = subst (λ (h : Head). NoBody h c.args.words.now) (sym c.in-Post.is) (c.post.ensures.none e)
