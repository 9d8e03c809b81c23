use Rattle.std.proofs.Common.{◌≡◌, ◌<◌, length, sym, ◌∙◌, ap, Some}
use Rattle.fol_data.specs.declared.region_data.RegionData.{RegionData}
use Rattle.fol_bags.specs.Slots.{spot_in}
use Rattle.fol_bags.specs.Things.{things, no_data}
use Rattle.fol_bags.proofs.OpenBags.{get_or-any}
use Rattle.fol_bags.proofs.Empty.{things_empty}
use Rattle.fol_bags.proofs.spots.is_bare.Goals as goal

pub returns-in-Some : goal.returns-in-Some
returns-in-Some c = λ t i k e.
    let f : Some c.in-Some.i ≡ Some i = sym c.in-Some.is ∙ e in
    let g : c.in-Some.i ≡ i = cc in
    let l : c.in-Some.i < length c.args.spots.now = c.requires c.in-Some.i c.in-Some.is in
    let at : c.index-spots-i.result ≡ spot_in c.args.spots.now i = c.index-spots-i.is ∙ get_or-any c.args.spots.now c.in-Some.i _ no_data l ∙ ap (spot_in c.args.spots.now) g in
    ap (λ (r : RegionData). things r k) (sym at) ∙ things_empty c.index-spots-i.result (c.is_empty.ensures.empty.0 t).0 (c.is_empty.ensures.nothing t) k
