use Rattle.std.proofs.Common.{◌∙◌, ap}
use Rattle.std.specs.List.{remove}
use Rattle.fol_blocks.proofs.OnPages.{removed_on}
use Rattle.fol_blocks.proofs.pages.take_within.Goals as goal

pub returns-clause-blocks : goal.returns-clause-blocks
returns-clause-blocks c =
    removed_on c.args.pages.now.items c.args.spot.page c.args.spot.index c.index_mut-page.result.now c.remove.new.self c.requires.spot.0 (c.requires.spot.1 c.index_mut-page.result.now)
    (c.remove.ensures.items ∙ ap (λ p. remove p.items c.args.spot.index) c.index_mut-page.ensures.value)
