use Rattle.fol_laws.proofs.RegionLaws.{add_keeps_ticking_sections}
use Rattle.fol_laws.proofs.regions.add_keeps_ticking_sections.Goals as goal

pub returns : goal.returns
returns c = add_keeps_ticking_sections
