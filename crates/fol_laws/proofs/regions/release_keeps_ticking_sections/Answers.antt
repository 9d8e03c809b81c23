use Rattle.fol_laws.proofs.RegionLaws.{release_keeps_ticking_sections}
use Rattle.fol_laws.proofs.regions.release_keeps_ticking_sections.Goals as goal

pub returns : goal.returns
returns c = release_keeps_ticking_sections
