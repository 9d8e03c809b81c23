use Rattle.std.proofs.Common.{arith, inl, inr}
use Rattle.std.proofs.lemmas.Bool.{cases_Bool}
use Rattle.fol_region_tables.specs.Book.{Book, owner_of, is_live}
use Rattle.fol_region_tables.proofs.BookFacts.{not_live, live_next}
use Rattle.fol_region_tables.proofs.MakeSteps.{regions_few, made_book, made_is}
use Rattle.fol_region_tables.proofs.Totals.{total_with}
use Rattle.fol_region_tables.proofs.NewOwners.{some_new}
use Rattle.fol_region_tables.proofs.tables.Tables.make.Goals as goal

pub insert-slot-requires-clause-none : goal.insert-slot-requires-clause-none
insert-slot-requires-clause-none c =
    let b : Book = record { owned = c.self.inside.owners.pages; free = c.self.inside.owners.free; slots = c.self.inside.slots; rows = c.self.inside.rows; ahead = c.self.inside.ahead; behind = c.self.inside.behind; next = c.self.inside.next } in
    not_live b b.next (elim (cases_Bool (is_live b b.next)) [ inl e ↦ absurd (omega (arith, live_next b c.self.invariant b.next e)) | inr e ↦ e ])

pub insert-slot-requires-clause-some_free : goal.insert-slot-requires-clause-some_free
insert-slot-requires-clause-some_free c =
    let b : Book = record { owned = c.self.inside.owners.pages; free = c.self.inside.owners.free; slots = c.self.inside.slots; rows = c.self.inside.rows; ahead = c.self.inside.ahead; behind = c.self.inside.behind; next = c.self.inside.next } in
    let few = rw (← c.self.view_is) at c.requires.few in
    omega (arith, regions_few b c.self.invariant c.keeps_slots.ensures.own c.keeps_slots.ensures.within, c.self.invariant.total, c.self.invariant.room, few, c.requires.some)

pub put-requires-clause-room : goal.put-requires-clause-room
put-requires-clause-room c =
    let b : Book = record { owned = c.self.inside.owners.pages; free = c.self.inside.owners.free; slots = c.self.inside.slots; rows = c.self.inside.rows; ahead = c.self.inside.ahead; behind = c.self.inside.behind; next = c.self.inside.next } in
    let few = rw (← c.self.view_is) at c.requires.few in
    omega (arith, total_with b.rows c.insert-slot.result c.args.sections.now (omega (arith, c.insert-slot.ensures.within, c.self.invariant.row_numbers)), c.self.invariant.total, few)

pub invariant_of-self : goal.invariant_of-self
unfolding owner_of
invariant_of-self c =
    let b : Book = record { owned = c.self.inside.owners.pages; free = c.self.inside.owners.free; slots = c.self.inside.slots; rows = c.self.inside.rows; ahead = c.self.inside.ahead; behind = c.self.inside.behind; next = c.self.inside.next } in
    let absent = rw (← c.self.view_is) at c.requires.absent in
    let put = c.put.ensures in
    rw put (made_book b c.self.invariant c.args.sections.now c.requires.some absent c.requires.row c.give_all.new.self.pages (c.give_all.new.self.free) c.give_all.ensures.owner c.insert-slot.new.self c.insert-slot.result c.insert-slot.ensures.within c.insert-slot.ensures.fresh c.insert-slot.ensures.slots c.insert-slot.ensures.room)

pub returns-clause-makes : goal.returns-clause-makes
unfolding owner_of
returns-clause-makes c =
    let b : Book = record { owned = c.self.inside.owners.pages; free = c.self.inside.owners.free; slots = c.self.inside.slots; rows = c.self.inside.rows; ahead = c.self.inside.ahead; behind = c.self.inside.behind; next = c.self.inside.next } in
    let absent = rw (← c.self.view_is) at c.requires.absent in
    let put = c.put.ensures in
    rw (put, ← c.self.view_is) (made_is b c.self.invariant c.args.sections.now c.requires.some absent c.requires.row c.give_all.new.self.pages (c.give_all.new.self.free) c.give_all.ensures.owner c.insert-slot.new.self c.insert-slot.result c.insert-slot.ensures.within c.insert-slot.ensures.fresh c.insert-slot.ensures.slots c.insert-slot.ensures.room
    c.args.state c.insert-slot.ensures.states (λ n lie. c.give_all.ensures.room n (some_new _ _ n lie)))

pub give_all-requires : goal.give_all-requires
give_all-requires c = record { room = some_new _ _ _ (rw (← c.self.view_is) at c.requires.room) }
