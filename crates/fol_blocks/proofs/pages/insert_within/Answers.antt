use Rattle.std.proofs.Common.{◌∙◌, ap, arith}
use Rattle.std.specs.List.{insert}
use Rattle.fol_blocks.proofs.OnPages.{inserted_on, kept_on}
use Rattle.fol_blocks.proofs.pages.insert_within.Goals as goal

pub returns-in-Ok-clause-ok : goal.returns-in-Ok-clause-ok
returns-in-Ok-clause-ok c =
    inserted_on c.args.pages.now.items c.args.spot.page c.args.spot.index c.index_mut-page.result.now c.insert.new.self c.args.block (omega arith) (c.requires.index c.index_mut-page.result.now)
    (c.in-Ok.ensures.items ∙ ap (λ p. insert p.items c.args.spot.index c.args.block) c.index_mut-page.ensures.value)

pub returns-in-Err-clause-err : goal.returns-in-Err-clause-err
returns-in-Err-clause-err c =
    kept_on c.args.pages.now.items c.args.spot.page c.args.spot.index c.index_mut-page.result.now c.insert.new.self (omega arith) (c.in-Err.ensures.items ∙ ap (λ p. p.items) c.index_mut-page.ensures.value)
