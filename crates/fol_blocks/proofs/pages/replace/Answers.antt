use Rattle.std.proofs.Common.{ap}
use Rattle.std.specs.Prelude.{slice_set}
use Rattle.fol_blocks.proofs.OnPages.{replaced_on}
use Rattle.fol_blocks.proofs.pages.replace.Goals as goal

pub returns-clause-blocks : goal.returns-clause-blocks
returns-clause-blocks c =
    replaced_on c.args.pages.now.items c.args.spot.page c.args.spot.index c.index_mut-page.result.now _ c.args.block c.requires.spot.0 (c.requires.spot.1 c.index_mut-page.result.now)
    (ap (λ p. slice_set p.items c.args.spot.index c.args.block) c.index_mut-page.ensures.value)
