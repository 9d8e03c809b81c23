use Rattle.std.proofs.Common.{◌≡◌, ◌∙◌, ap, arith, get_or, length}
use Rattle.fol_blocks.specs.Pages.{blocks_on}
use Rattle.fol_blocks.proofs.OnPages.{dropped_on}
use Rattle.fol_blocks.proofs.pages.take_out.Goals as goal

pub returns-then-len-eq1-clause-blocks : goal.returns-then-len-eq1-clause-blocks
returns-then-len-eq1-clause-blocks c =
    let one : length (get_or c.args.pages.now.items c.args.spot.page c.index.result.now).items ≡ 1 = omega (arith, ap (λ p. length p.items) c.index.ensures, c.index.result.now.ok) in
    ap blocks_on c.remove.ensures.items ∙ dropped_on c.args.pages.now.items c.args.spot.page c.args.spot.index c.index.result.now c.requires.spot.0 one (c.requires.spot.1 c.index.result.now)
