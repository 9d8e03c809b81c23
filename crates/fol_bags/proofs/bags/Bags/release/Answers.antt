use Rattle.std.proofs.Common.{◌≡◌, ◌<◌, length, false, sym, subst, ap, ◌∙◌}
use Rattle.std.proofs.lemmas.List.{get_or-set_same}
use Rattle.fol_bags.specs.declared.slot.Slot.{Slot}
use Rattle.fol_bags.specs.Slots.{slot_in, no_slot}
use Rattle.fol_bags.specs.Things.{things}
use Rattle.fol_bags.proofs.OpenBags.{get_or-any}
use Rattle.fol_bags.proofs.bags.Bags.release.Goals as goal

pub take_over-over-requires : goal.take_over-over-requires
take_over-over-requires c =
    let l : c.args.id < length c.self.inside.kept.items = rw (← c.self.view_is) at c.requires.there in
    let was : c.index_mut.result.now ≡ slot_in c.self.inside.kept.items c.args.id = c.index_mut.ensures.value ∙ get_or-any c.self.inside.kept.items c.args.id _ no_slot l in
    let P : Slot → Type 0 = λ b. b.taken ≡ false → b.list ≡ b.chunks in
    subst P (sym was) (rw (← c.self.view_is) at c.requires.list)

pub returns-clause-things : goal.returns-clause-things
returns-clause-things c = λ k.
    let l : c.args.id < length c.self.inside.kept.items = rw (← c.self.view_is) at c.requires.there in
    let was : c.index_mut.result.now ≡ slot_in c.self.inside.kept.items c.args.id = c.index_mut.ensures.value ∙ get_or-any c.self.inside.kept.items c.args.id _ no_slot l in
    rw (← c.self.view_is) (ap (λ (b : Slot). things b.body k) (get_or-set_same c.self.inside.kept.items c.args.id c.take_over-over.new.self no_slot l) ∙ c.take_over-over.ensures.things k ∙ ap (λ (b : Slot). things b.body k) was)
