use Rattle.std.proofs.Common.{refl, arith}
use Rattle.fol_region_tables.specs.Book.{Book, IsBook, owner_of}
use Rattle.fol_region_tables.proofs.PartingSteps.{but_from, next_unused}
use Rattle.fol_region_tables.proofs.PartedBooks.{slot_listed, gone_book, gone_dead, gone_pairs, gone_states}
use Rattle.fol_region_tables.proofs.SplitSteps.{splitting_none, splitting_more, still_owned, part_fits, slots_for_part, split_book, split_is}
use Rattle.fol_region_tables.proofs.NewOwners.{none_new}
use Rattle.fol_region_tables.proofs.tables.Tables.split.Goals as goal

pub clear-requires : goal.clear-requires
clear-requires c =
    let live = rw (← c.self.view_is) at c.requires.region in
    slot_listed _ c.args.id _ c.self.invariant live c.find-slot.ensures

pub loop-i-init : goal.loop-i-init
unfolding owner_of
loop-i-init c =
    let live = rw (← c.self.view_is) at c.requires.region in
    let first = rw (← c.self.view_is) at c.requires.first in
    let last = rw (← c.self.view_is) at c.requires.last in
    let parts = rw (← c.self.view_is) at c.requires.parts in
    let b : Book = record { owned = c.self.inside.owners.pages; free = c.self.inside.owners.free; slots = c.self.inside.slots; rows = c.self.inside.rows; ahead = c.self.inside.ahead; behind = c.self.inside.behind; next = c.self.inside.next } in
    let n : Book = record { owned = c.self.inside.owners.pages; free = c.self.inside.owners.free; slots = c.self.inside.slots; rows = c.clear.new.self; ahead = c.self.inside.ahead; behind = c.self.inside.behind; next = c.self.inside.next } in
    let d : Book = record { owned = c.self.inside.owners.pages; free = c.self.inside.owners.free; slots = c.remove.new.self; rows = c.clear.new.self; ahead = c.self.inside.ahead; behind = c.self.inside.behind; next = c.self.inside.next } in
    let rows = rw c.find-slot.ensures at c.clear.ensures in
    let but = but_from b c.args.id (c.self.invariant.given c.args.id live).0 c.self.invariant in
    rw (← c.self.view_is)
    (splitting_none b c.args.id c.self.invariant live c.args.parts.now parts d
    (gone_book b n d c.args.id but live first last (λ s. refl) refl rows refl refl refl (λ s. refl) c.remove.ensures.slots c.remove.ensures.room refl refl refl refl)
    (λ s. refl)
    (gone_states b d c.args.id c.remove.ensures.states)
    (gone_pairs b n d c.args.id but live first last (λ s. refl) refl rows refl refl refl (λ s. refl) c.remove.ensures.slots c.remove.ensures.room refl refl refl refl)
    (gone_dead b n d c.args.id but live first last (λ s. refl) refl rows refl refl refl (λ s. refl) c.remove.ensures.slots c.remove.ensures.room refl refl refl refl)
    refl (record { free = omega arith; ahead = omega arith; behind = omega arith; ahead_room = refl; behind_room = refl }))

pub give_all-requires : goal.give_all-requires
unfolding owner_of
give_all-requires c = record {
  room = none_new _ _ _ (λ q e.
      let h : IsBook c.args.self.now = rw c.self.view_is at c.self.invariant in
      let in_part = rw c.part-part.ensures at e in
      let own = still_owned c.args.self.now c.args.id h c.requires.region c.args.parts.now c.requires.parts _ c.loop-i.i c.loop-i.invariant (omega arith) q in_part in
      omega (arith, own, (h.given c.args.id c.requires.region).0));
}

pub insert-slot-requires-clause-none : goal.insert-slot-requires-clause-none
insert-slot-requires-clause-none c = next_unused _ c.args.id c.loop-i.invariant.but

pub insert-slot-requires-clause-some_free : goal.insert-slot-requires-clause-some_free
insert-slot-requires-clause-some_free c =
    let h : IsBook c.args.self.now = rw c.self.view_is at c.self.invariant in
    slots_for_part c.args.self.now c.args.id h c.requires.region c.args.parts.now c.requires.parts _ c.loop-i.i c.loop-i.invariant c.requires.few (omega arith) c.keeps_slots.ensures.own c.keeps_slots.ensures.within

pub put-requires-clause-room : goal.put-requires-clause-room
put-requires-clause-room c =
    let h : IsBook c.args.self.now = rw c.self.view_is at c.self.invariant in
    rw c.part-part.ensures
    (part_fits c.args.self.now c.args.id h c.requires.region c.args.parts.now c.requires.parts _ c.loop-i.i c.insert-slot.result c.loop-i.invariant c.requires.few (omega arith) c.insert-slot.ensures.within c.insert-slot.ensures.fresh)

pub loop-i-preserved : goal.loop-i-preserved
unfolding owner_of
loop-i-preserved c =
    let h : IsBook c.args.self.now = rw c.self.view_is at c.self.invariant in
    let entry = rw c.part-part.ensures at c.give_all.ensures.owner in
    let rows = rw c.part-part.ensures at c.put.ensures in
    let room = c.give_all.ensures.room 0 (none_new _ _ _ (λ q e.
    let in_part = rw c.part-part.ensures at e in
    let own = still_owned c.args.self.now c.args.id h c.requires.region c.args.parts.now c.requires.parts _ c.loop-i.i c.loop-i.invariant (omega arith) q in_part in
    omega (arith, own, (h.given c.args.id c.requires.region).0))) in
    splitting_more c.args.self.now c.args.id h c.requires.region c.args.parts.now c.requires.parts c.loop-i.i c.insert-slot.result (omega arith) _ _ c.loop-i.invariant
    entry c.insert-slot.ensures.slots c.insert-slot.ensures.states c.insert-slot.ensures.room c.insert-slot.ensures.within c.insert-slot.ensures.fresh rows refl refl refl (omega (arith, room))

pub invariant_of-self : goal.invariant_of-self
invariant_of-self c =
    let h : IsBook c.args.self.now = rw c.self.view_is at c.self.invariant in
    split_book c.args.self.now c.args.id h c.requires.region c.args.parts.now c.requires.parts _ c.loop-i.i c.loop-i.invariant (omega arith)

pub returns : goal.returns
returns c =
    let h : IsBook c.args.self.now = rw c.self.view_is at c.self.invariant in
    split_is c.args.self.now c.args.id h c.requires.region c.args.parts.now c.requires.parts _ c.loop-i.i c.loop-i.invariant (omega arith)
