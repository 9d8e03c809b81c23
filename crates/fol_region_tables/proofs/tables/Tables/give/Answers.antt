use Rattle.std.proofs.Common.{◌∙◌, ap, arith}
use Rattle.fol_lists.specs.Numbered.{list_at, with_list}
use Rattle.fol_region_tables.specs.Rows.{united}
use Rattle.fol_model.specs.Geometry.{is_among}
use Rattle.fol_region_tables.specs.Book.{Book, owner_of, rows_of}
use Rattle.fol_region_tables.proofs.BookFacts.{live_slot}
use Rattle.fol_region_tables.proofs.Chosen.{row_chosen}
use Rattle.fol_region_tables.proofs.GiveSteps.{given_book, given_is}
use Rattle.fol_region_tables.proofs.MergeBook.{apart_given}
use Rattle.fol_region_tables.proofs.NewOwners.{some_new}
use Rattle.fol_region_tables.proofs.tables.Tables.give.Goals as goal

pub unite-requires-clause-number : goal.unite-requires-clause-number
unite-requires-clause-number c =
    let b : Book = record { owned = c.self.inside.owners.pages; free = c.self.inside.owners.free; slots = c.self.inside.slots; rows = c.self.inside.rows; ahead = c.self.inside.ahead; behind = c.self.inside.behind; next = c.self.inside.next } in
    let l = live_slot b c.args.id (rw (← c.self.view_is) at c.requires.region) in
    omega (arith, l, c.find-slot.ensures, c.self.invariant.row_numbers)

pub unite-requires-clause-row : goal.unite-requires-clause-row
unfolding rows_of
unite-requires-clause-row c =
    let b : Book = record { owned = c.self.inside.owners.pages; free = c.self.inside.owners.free; slots = c.self.inside.slots; rows = c.self.inside.rows; ahead = c.self.inside.ahead; behind = c.self.inside.behind; next = c.self.inside.next } in
    let live = rw (← c.self.view_is) at c.requires.region in
    let e = ap (list_at b.rows) c.find-slot.ensures ∙ c.self.invariant.rows c.args.id (c.self.invariant.given c.args.id live).0 in
    rw e (row_chosen _)

pub unite-requires-clause-sections : goal.unite-requires-clause-sections
unite-requires-clause-sections c = rw c.requires.row (row_chosen (is_among c.args.sections.now))

pub unite-requires-clause-apart : goal.unite-requires-clause-apart
unfolding rows_of owner_of
unite-requires-clause-apart c =
    let b : Book = record { owned = c.self.inside.owners.pages; free = c.self.inside.owners.free; slots = c.self.inside.slots; rows = c.self.inside.rows; ahead = c.self.inside.ahead; behind = c.self.inside.behind; next = c.self.inside.next } in
    let live = rw (← c.self.view_is) at c.requires.region in
    let absent = rw (← c.self.view_is) at c.requires.absent in
    let e = ap (list_at b.rows) c.find-slot.ensures in
    rw e (apart_given b c.self.invariant c.args.id (c.self.invariant.given c.args.id live).0 c.args.sections.now absent)

pub invariant_of-self : goal.invariant_of-self
unfolding rows_of owner_of
invariant_of-self c =
    let b : Book = record { owned = c.self.inside.owners.pages; free = c.self.inside.owners.free; slots = c.self.inside.slots; rows = c.self.inside.rows; ahead = c.self.inside.ahead; behind = c.self.inside.behind; next = c.self.inside.next } in
    let live = rw (← c.self.view_is) at c.requires.region in
    let absent = rw (← c.self.view_is) at c.requires.absent in
    let e = c.unite.ensures ∙ ap (λ k. with_list b.rows k (united (list_at b.rows k) c.args.sections.now)) c.find-slot.ensures in
    rw e (given_book b c.self.invariant c.args.id live c.args.sections.now c.give_all.new.self.pages (c.give_all.new.self.free) c.give_all.ensures.owner absent c.requires.row)

pub returns-clause-gives : goal.returns-clause-gives
unfolding rows_of owner_of
returns-clause-gives c =
    let b : Book = record { owned = c.self.inside.owners.pages; free = c.self.inside.owners.free; slots = c.self.inside.slots; rows = c.self.inside.rows; ahead = c.self.inside.ahead; behind = c.self.inside.behind; next = c.self.inside.next } in
    let live = rw (← c.self.view_is) at c.requires.region in
    let absent = rw (← c.self.view_is) at c.requires.absent in
    let e = c.unite.ensures ∙ ap (λ k. with_list b.rows k (united (list_at b.rows k) c.args.sections.now)) c.find-slot.ensures in
    rw (e, ← c.self.view_is) (given_is b c.self.invariant c.args.id live c.args.sections.now c.give_all.new.self.pages (c.give_all.new.self.free) c.give_all.ensures.owner absent c.requires.row (λ n lie. c.give_all.ensures.room n (some_new _ _ n lie)))

pub give_all-requires : goal.give_all-requires
give_all-requires c = record { room = some_new _ _ _ (rw (← c.self.view_is) at c.requires.room) }
