use Rattle.std.proofs.Common.{rules, ◌≡◌, ◌<◌, ◌-◌, [], ◌∷◌, ◌++◌, length, ap, ◌∙◌, Some, length-set, arith}
use Rattle.std.specs.Prelude.{option_to_list, slice_get, vec_len}
use Rattle.fol_offers.proofs.FreeSlots.{free_taken, last_at}
use Rattle.fol_offers.proofs.Matching.{put_matched, same_matched, slot_set}
use Rattle.fol_offers.proofs.places.Places.put.Goals as goal

pub invariant_of-self : goal.invariant_of-self
invariant_of-self c = (
  same_matched _ _ _ c.self.invariant.0 c.make_room.ensures.same,
  c.self.invariant.1,
  c.self.invariant.2,
)

pub invariant_of-self-2 : goal.invariant_of-self-2
invariant_of-self-2 c =
    let xs = c.self.inside.regions.items in
    let free = c.self.inside.free.items in
    let slot = c.in-Some.slot in
    let rest = c.pop.new.self.items in
    let there : slice_get free (length free - 1) ≡ Some slot = search rules in
    let last = last_at free slot there in
    let len : length free ≡ vec_len c.self.inside.free = search rules in
    let popped : c.pop.result ≡ Some slot = c.pop.ensures.value 0 (rw len at last.0) ∙ ap (λ x. Some x) (rw len at last.1) in
    let is : free ≡ rest ++ slot ∷ [] = c.pop.ensures.items ∙ ap (λ o. rest ++ option_to_list o) popped in
    let inside : slot < length xs = search rules in
    let longer = c.make_room.new.slots.items in
    let matched = same_matched xs c.self.inside.slots.items longer c.self.invariant.0 c.make_room.ensures.same in (
      put_matched xs longer _ matched c.args.region slot c.requires.id inside (search rules) (search rules) (slot_set longer c.args.region (Some slot) c.in_ok-make_room.ensures.room),
      free_taken xs free c.self.invariant.1 slot rest c.args.region is c.requires.id,
      (let long = length-set xs slot c.args.region in let room = c.self.invariant.2 in let same = c.pop.ensures.capacity in omega (arith, long, room, same)),
    )
