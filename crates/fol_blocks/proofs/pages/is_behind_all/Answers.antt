use Rattle.std.proofs.lemmas.Bool.{eqb-true}
use Rattle.fol_blocks.proofs.Spots.{behind_full}
use Rattle.fol_blocks.proofs.pages.is_behind_all.Goals as goal

pub returns-then-spot-pages-2-clause-end : goal.returns-then-spot-pages-2-clause-end
returns-then-spot-pages-2-clause-end c = λ t. behind_full c.args.pages.now c.args.spot c.requires.sizes c.requires.spot c.if-spot-pages-2.true (eqb-true c.args.spot.index 256 t)
