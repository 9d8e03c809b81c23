use Rattle.fol_store.proofs.Stepping.{target_own, draws_own}
use Rattle.fol_store.proofs.store.Store.draw.Goals as goal

pub draw_rest-requires-clause-target : goal.draw_rest-requires-clause-target
draw_rest-requires-clause-target c = target_own c.args.id c.args.chunks.now c.args.self.now c.draw_home.new.self c.requires.target c.draw_home.ensures.draws

pub returns-in-Ok-clause-draws : goal.returns-in-Ok-clause-draws
returns-in-Ok-clause-draws c = draws_own c.args.id c.args.chunks.now c.args.self.now c.draw_home.new.self c.draw_rest.new.self c.requires.target c.draw_home.ensures.draws c.draw_rest.ensures.draws
