use Rattle.std.proofs.Common.{rules, ◌≡◌, ℕ, ◌<◌, ap, length, length-set, subst, sym, ◌∙◌, arith, None}
use Rattle.std.proofs.lemmas.List.{get_or_default}
use Rattle.fol_offers.specs.Places.{region_at, slot_in}
use Rattle.fol_offers.proofs.FreeSlots.{free_again, free_room}
use Rattle.fol_offers.proofs.Matching.{clear_matched, slot_below, slot_set}
use Rattle.fol_offers.proofs.places.Places.clear.Goals as goal

pub push_reserved-requires : goal.push_reserved-requires
push_reserved-requires c =
    let xs = c.self.inside.regions.items in
    let some : 0 < region_at xs c.args.slot = subst (λ v. 0 < region_at v c.args.slot) (sym c.self.view_is) c.requires in
    let inside : c.args.slot < length xs = search rules in
    let room = free_room xs c.self.inside.free.items c.self.invariant.1 c.args.slot inside some in
    let all = c.self.invariant.2 in omega (arith, room, all)

pub invariant_of-self : goal.invariant_of-self
invariant_of-self c =
    let xs = c.self.inside.regions.items in
    let some : 0 < region_at xs c.args.slot = subst (λ v. 0 < region_at v c.args.slot) (sym c.self.view_is) c.requires in
    let inside : c.args.slot < length xs = search rules in
    let slots = c.self.inside.slots.items in
    let region : ℕ = c.index-region.result.now in
    let is : region_at xs c.args.slot ≡ region = get_or_default xs c.args.slot 0 _ inside ∙ sym c.index-region.ensures in
    let listed = slot_below slots region c.args.slot (ap (slot_in slots) (sym is) ∙ c.self.invariant.0.all c.args.slot some) in (
      clear_matched xs slots _ c.self.invariant.0 region c.args.slot inside is (slot_set slots region None listed),
      rw c.push_reserved.ensures.items (free_again xs c.self.inside.free.items c.self.invariant.1 c.args.slot inside some),
      (let long = length-set xs c.args.slot 0 in let all = c.self.invariant.2 in let same = c.push_reserved.ensures.capacity in omega (arith, long, all, same)),
    )
