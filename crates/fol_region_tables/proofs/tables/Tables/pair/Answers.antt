use Rattle.std.proofs.Common.{◌∙◌, ap, arith, true}
use Rattle.fol_lists.specs.Numbered.{list_at, total, with_list}
use Rattle.fol_region_tables.specs.Links.{with_id}
use Rattle.fol_region_tables.specs.Slots.{slot_of}
use Rattle.fol_region_tables.specs.Book.{Book, ahead_of, behind_of, waits_of}
use Rattle.fol_region_tables.proofs.BookFacts.{live_slot}
use Rattle.fol_region_tables.proofs.PairSteps.{paired_book, paired_is, more_ahead, more_behind, with_few}
use Rattle.fol_region_tables.proofs.Totals.{total_with}
use Rattle.fol_region_tables.proofs.tables.Tables.pair.Goals as goal

pub insert-requires-2-clause-number : goal.insert-requires-2-clause-number
insert-requires-2-clause-number c =
    let b : Book = record { owned = c.self.inside.owners.pages; free = c.self.inside.owners.free; slots = c.self.inside.slots; rows = c.self.inside.rows; ahead = c.self.inside.ahead; behind = c.self.inside.behind; next = c.self.inside.next } in
    let l = live_slot b c.args.other (rw (← c.self.view_is) at c.requires.other) in
    omega (arith, l, c.find-to.ensures, c.self.invariant.behind_numbers)

pub invariant_of-self : goal.invariant_of-self
unfolding ahead_of behind_of
invariant_of-self c =
    let b : Book = record { owned = c.self.inside.owners.pages; free = c.self.inside.owners.free; slots = c.self.inside.slots; rows = c.self.inside.rows; ahead = c.self.inside.ahead; behind = c.self.inside.behind; next = c.self.inside.next } in
    let lu = rw (← c.self.view_is) at c.requires.region in
    let lt = rw (← c.self.view_is) at c.requires.other in
    let ea = c.insert.ensures ∙ ap (λ k. with_list b.ahead k (with_id c.args.other (list_at b.ahead k))) c.find-slot.ensures in
    let eb = c.insert-2.ensures ∙ ap (λ k. with_list b.behind k (with_id c.args.id (list_at b.behind k))) c.find-to.ensures in
    let room = rw (← c.self.view_is) at c.requires.room in
    rw (ea, eb) (paired_book b c.self.invariant c.args.id c.args.other lu lt true (with_id c.args.other (ahead_of b c.args.id)) (with_id c.args.id (behind_of b c.args.other)) (more_ahead b c.self.invariant c.args.id c.args.other lu lt) (more_behind b c.self.invariant c.args.id c.args.other lu lt)
    (omega (arith, total_with b.ahead (slot_of b.slots c.args.id) (with_id c.args.other (ahead_of b c.args.id)) (omega (arith, live_slot b c.args.id lu, c.self.invariant.ahead_numbers)), with_few c.args.other (ahead_of b c.args.id), room.0))
    (omega (arith, total_with b.behind (slot_of b.slots c.args.other) (with_id c.args.id (behind_of b c.args.other)) (omega (arith, live_slot b c.args.other lt, c.self.invariant.behind_numbers)), with_few c.args.id (behind_of b c.args.other), room.1)))

pub returns-clause-pair : goal.returns-clause-pair
unfolding ahead_of behind_of
returns-clause-pair c =
    let b : Book = record { owned = c.self.inside.owners.pages; free = c.self.inside.owners.free; slots = c.self.inside.slots; rows = c.self.inside.rows; ahead = c.self.inside.ahead; behind = c.self.inside.behind; next = c.self.inside.next } in
    let lu = rw (← c.self.view_is) at c.requires.region in
    let lt = rw (← c.self.view_is) at c.requires.other in
    let ea = c.insert.ensures ∙ ap (λ k. with_list b.ahead k (with_id c.args.other (list_at b.ahead k))) c.find-slot.ensures in
    let eb = c.insert-2.ensures ∙ ap (λ k. with_list b.behind k (with_id c.args.id (list_at b.behind k))) c.find-to.ensures in
    let room = rw (← c.self.view_is) at c.requires.room in
    rw (ea, eb, ← c.self.view_is) (paired_is b c.self.invariant c.args.id c.args.other lu lt true (with_id c.args.other (ahead_of b c.args.id)) (with_id c.args.id (behind_of b c.args.other)) (more_ahead b c.self.invariant c.args.id c.args.other lu lt) (more_behind b c.self.invariant c.args.id c.args.other lu lt)
    (omega (arith, total_with b.ahead (slot_of b.slots c.args.id) (with_id c.args.other (ahead_of b c.args.id)) (omega (arith, live_slot b c.args.id lu, c.self.invariant.ahead_numbers)), with_few c.args.other (ahead_of b c.args.id), room.0))
    (omega (arith, total_with b.behind (slot_of b.slots c.args.other) (with_id c.args.id (behind_of b c.args.other)) (omega (arith, live_slot b c.args.other lt, c.self.invariant.behind_numbers)), with_few c.args.id (behind_of b c.args.other), room.1)))

pub returns-clause-ahead : goal.returns-clause-ahead
unfolding ahead_of waits_of
returns-clause-ahead c =
    let b : Book = record { owned = c.self.inside.owners.pages; free = c.self.inside.owners.free; slots = c.self.inside.slots; rows = c.self.inside.rows; ahead = c.self.inside.ahead; behind = c.self.inside.behind; next = c.self.inside.next } in
    let lu = live_slot b c.args.id (rw (← c.self.view_is) at c.requires.region) in
    let ea = c.insert.ensures ∙ ap (λ k. with_list b.ahead k (with_id c.args.other (list_at b.ahead k))) c.find-slot.ensures in
    let few = total_with b.ahead (slot_of b.slots c.args.id) (with_id c.args.other (ahead_of b c.args.id)) (omega (arith, lu, c.self.invariant.ahead_numbers)) in
    rw (← c.self.view_is) (omega (arith, ap total ea, few, with_few c.args.other (ahead_of b c.args.id)), ap (λ v. v.room) ea)

pub returns-clause-behind : goal.returns-clause-behind
unfolding behind_of
returns-clause-behind c =
    let b : Book = record { owned = c.self.inside.owners.pages; free = c.self.inside.owners.free; slots = c.self.inside.slots; rows = c.self.inside.rows; ahead = c.self.inside.ahead; behind = c.self.inside.behind; next = c.self.inside.next } in
    let lt = live_slot b c.args.other (rw (← c.self.view_is) at c.requires.other) in
    let eb = c.insert-2.ensures ∙ ap (λ k. with_list b.behind k (with_id c.args.id (list_at b.behind k))) c.find-to.ensures in
    let few = total_with b.behind (slot_of b.slots c.args.other) (with_id c.args.id (behind_of b c.args.other)) (omega (arith, lt, c.self.invariant.behind_numbers)) in
    rw (← c.self.view_is) (omega (arith, ap total eb, few, with_few c.args.id (behind_of b c.args.other)), ap (λ v. v.room) eb)

pub insert-requires-clause-number : goal.insert-requires-clause-number
insert-requires-clause-number c =
    let b : Book = record { owned = c.self.inside.owners.pages; free = c.self.inside.owners.free; slots = c.self.inside.slots; rows = c.self.inside.rows; ahead = c.self.inside.ahead; behind = c.self.inside.behind; next = c.self.inside.next } in
    let l = live_slot b c.args.id (rw (← c.self.view_is) at c.requires.region) in
    omega (arith, l, c.find-slot.ensures, c.self.invariant.ahead_numbers)
