use Rattle.fol_sections.proofs.Products.{area_is}
use Rattle.fol_sections.proofs.chunks.area_of.Goals as goal

pub returns : goal.returns
returns c = area_is c.args.shift c.requires
