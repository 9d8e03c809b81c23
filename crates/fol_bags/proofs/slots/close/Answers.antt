use Rattle.std.proofs.Common.{◌≡◌, refl, sym, ◌∙◌, false, subst}
use Rattle.fol_queues.proofs.Numbers.{nat_self}
use Rattle.fol_bags.specs.declared.slot.Slot.{Slot}
use Rattle.fol_bags.specs.Slots.{slot_in, no_slot}
use Rattle.fol_bags.proofs.slots.close.Goals as goal

pub release-requires-clause-list : goal.release-requires-clause-list
release-requires-clause-list c =
    let shut : slot_in c.shut.new.bags.items c.args.id ≡ record no_slot { body = (slot_in c.args.bags.now.items c.args.id).body } = c.shut.ensures.sets.slots c.args.id ∙ rw (nat_self c.args.id) refl in
    let P : Slot → Type 0 = λ b. b.taken ≡ false → b.list ≡ b.chunks in
    subst P (sym shut) (λ o. refl)
