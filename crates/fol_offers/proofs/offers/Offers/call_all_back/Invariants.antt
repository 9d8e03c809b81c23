use Rattle.std.proofs.Common.{take}
use Rattle.fol_tick_laws.specs.Touching.{lists}
use Rattle.fol_offers.specs.Shown.{CallsBack}
use Rattle.fol_offers.proofs.offers.Offers.call_all_back.Given as goal

abbrev pub invariant-loop-region : goal.invariant-loop-region
invariant-loop-region l = CallsBack l.fn.self l.self l.by (lists (take l.region-index l.regions))
