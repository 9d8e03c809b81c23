use Rattle.std.proofs.Common.{◌∙◌, ap}
use Rattle.fol_bags.specs.Places.{PlaceRows, place_at}
use Rattle.fol_store.proofs.Stepping.{draws_trans}
use Rattle.fol_store.proofs.store.Store.draw_bag.Goals as goal

pub returns-clause-draws : goal.returns-clause-draws
returns-clause-draws c = draws_trans c.args.id c.args.chunks.now _ _ _ c.pull.ensures.draws (c.release.ensures.draws c.args.id c.args.chunks.now)

pub returns-clause-home : goal.returns-clause-home
returns-clause-home c = ap (λ (p : PlaceRows). (place_at p c.args.c).bag) c.release.ensures.places ∙ c.in_ok-pull.ensures.home
