-- Where the entities are.
use Rattle.fol_laws.specs.OnePlace.{EachHasOnePlace, PlacesTellWhere}
use Rattle.fol_model.specs.Run.{world}
use Rattle.fol_laws.proofs.WholeRuns.{good_run}
use Rattle.fol_laws.proofs.PlaceOfEntity.{places_ok}

pub each_has_one_place : EachHasOnePlace
each_has_one_place o es rest ok run = (good_run o es rest ok run).place

pub places_tell_where : PlacesTellWhere
places_tell_where o es rest ok run = let g = good_run o es rest ok run in places_ok o (world o es) g.sound g.place
