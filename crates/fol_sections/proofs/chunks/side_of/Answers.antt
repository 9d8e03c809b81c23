use Rattle.fol_sections.proofs.Products.{row_few}
use Rattle.fol_sections.proofs.chunks.side_of.Goals as goal

pub returns-clause-few : goal.returns-clause-few
returns-clause-few c = row_few c.args.shift c.requires
