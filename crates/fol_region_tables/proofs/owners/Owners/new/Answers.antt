use Rattle.fol_region_tables.proofs.PageOwners.{nobody_owns}
use Rattle.fol_region_tables.proofs.owners.Owners.new.Goals as goal

pub returns : goal.returns
returns c = nobody_owns c.new.result.entries c.new.ensures
