use Rattle.fol_laws.proofs.RegionLaws.{release_splits_by_paths}
use Rattle.fol_laws.proofs.regions.release_splits_by_paths.Goals as goal

pub returns : goal.returns
returns c = release_splits_by_paths
