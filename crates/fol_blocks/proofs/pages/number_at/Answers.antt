use Rattle.std.proofs.Common.{sym, ◌∙◌, ap, get_or}
use Rattle.fol_model.specs.declared.openings.BlockAt.{BlockAt}
use Rattle.fol_blocks.specs.Pages.{blocks_on, place_of}
use Rattle.fol_blocks.proofs.OnPages.{on_page}
use Rattle.fol_blocks.proofs.Weighing.{absent, number_here, number_none}
use Rattle.fol_blocks.proofs.pages.number_at.Goals as goal

pub returns-in-Ok : goal.returns-in-Ok
returns-in-Ok c =
    ap (λ (x : BlockAt). x.id)
    (c.index.ensures
    ∙ ap (λ p. get_or p.items c.in-Ok.spot.index c.index.result.now) c.index-pages-spot.is
    ∙ sym (on_page c.args.pages.now c.in-Ok.spot.page c.in-Ok.spot.index c.index-pages-spot.result c.index.result.now c.in-Ok.ensures.0.0 (c.in-Ok.ensures.0.1 c.index-pages-spot.result)))
    ∙ sym (number_here (blocks_on c.args.pages.now) (place_of c.args.pages.now c.in-Ok.spot) c.args.at c.index.result.now c.requires.order c.in-Ok.ensures.1)

pub returns-in-Err : goal.returns-in-Err
returns-in-Err c = number_none (blocks_on c.args.pages.now) c.args.at (absent (blocks_on c.args.pages.now) (place_of c.args.pages.now c.in-Err.field-0) c.args.at c.in-Err.ensures.1)
