use Rattle.std.proofs.Common.{◌∙◌, refl, ap}
use Rattle.fol_bags.specs.Places.{PlaceRows, place_at}
use Rattle.fol_store.proofs.Handing.{both, through}
use Rattle.fol_store.proofs.store.Store.hand_out_last.Goals as goal

pub deliver-requires-clause-takes : goal.deliver-requires-clause-takes
deliver-requires-clause-takes c = c.in-Some.ensures.found c.in-Some.id refl

pub deliver_more-requires : goal.deliver_more-requires
deliver_more-requires c = record { home = ap (λ (rows : PlaceRows). (place_at rows c.last_chunk-c.result).bag) c.deliver.ensures.places ∙ (c.in-Some.ensures.found c.in-Some.id refl).home }

pub returns-in-Some-clause-same : goal.returns-in-Some-clause-same
returns-in-Some-clause-same c = through _ _ _ c.bag_with_room.ensures.same (both _ _ _ c.deliver.ensures.same c.deliver_more.ensures.same)

pub returns-in-None-clause-same : goal.returns-in-None-clause-same
returns-in-None-clause-same c = through _ _ _ c.bag_with_room.ensures.same c.set_aside.ensures.same
