use Rattle.std.proofs.Common.{◌∙◌, ap, arith, false, not}
use Rattle.std.specs.Prelude.{nat_eq}
use Rattle.fol_lists.specs.Numbered.{list_at, total, with_list}
use Rattle.fol_region_tables.specs.Links.{without_id}
use Rattle.fol_region_tables.specs.Slots.{slot_of}
use Rattle.fol_region_tables.specs.Book.{Book, ahead_of, behind_of, waits_of}
use Rattle.fol_region_tables.proofs.BookFacts.{live_slot}
use Rattle.fol_region_tables.proofs.PairSteps.{paired_book, paired_is, less_ahead, less_behind, without_fewer, behind_has}
use Rattle.fol_region_tables.proofs.LinkSteps.{filter_le}
use Rattle.fol_region_tables.proofs.Totals.{total_with}
use Rattle.fol_region_tables.proofs.tables.Tables.part.Goals as goal

pub remove-requires-2 : goal.remove-requires-2
remove-requires-2 c =
    let b : Book = record { owned = c.self.inside.owners.pages; free = c.self.inside.owners.free; slots = c.self.inside.slots; rows = c.self.inside.rows; ahead = c.self.inside.ahead; behind = c.self.inside.behind; next = c.self.inside.next } in
    let l = live_slot b c.args.other (rw (← c.self.view_is) at c.requires.other) in
    omega (arith, l, c.find-to.ensures, c.self.invariant.behind_numbers)

pub invariant_of-self : goal.invariant_of-self
unfolding ahead_of behind_of
invariant_of-self c =
    let b : Book = record { owned = c.self.inside.owners.pages; free = c.self.inside.owners.free; slots = c.self.inside.slots; rows = c.self.inside.rows; ahead = c.self.inside.ahead; behind = c.self.inside.behind; next = c.self.inside.next } in
    let lu = rw (← c.self.view_is) at c.requires.region in
    let lt = rw (← c.self.view_is) at c.requires.other in
    let ea = c.remove.ensures ∙ ap (λ k. with_list b.ahead k (without_id c.args.other (list_at b.ahead k))) c.find-slot.ensures in
    let eb = c.remove-2.ensures ∙ ap (λ k. with_list b.behind k (without_id c.args.id (list_at b.behind k))) c.find-to.ensures in
    rw (ea, eb) (paired_book b c.self.invariant c.args.id c.args.other lu lt false (without_id c.args.other (ahead_of b c.args.id)) (without_id c.args.id (behind_of b c.args.other)) (less_ahead b c.self.invariant c.args.id c.args.other lu lt) (less_behind b c.self.invariant c.args.id c.args.other lu lt)
    (omega (arith, total_with b.ahead (slot_of b.slots c.args.id) (without_id c.args.other (ahead_of b c.args.id)) (omega (arith, live_slot b c.args.id lu, c.self.invariant.ahead_numbers)), filter_le (λ k. not (nat_eq c.args.other k)) (ahead_of b c.args.id), c.self.invariant.ahead_fits))
    (omega (arith, total_with b.behind (slot_of b.slots c.args.other) (without_id c.args.id (behind_of b c.args.other)) (omega (arith, live_slot b c.args.other lt, c.self.invariant.behind_numbers)), filter_le (λ k. not (nat_eq c.args.id k)) (behind_of b c.args.other), c.self.invariant.behind_fits)))

pub returns-clause-pair : goal.returns-clause-pair
unfolding ahead_of behind_of
returns-clause-pair c =
    let b : Book = record { owned = c.self.inside.owners.pages; free = c.self.inside.owners.free; slots = c.self.inside.slots; rows = c.self.inside.rows; ahead = c.self.inside.ahead; behind = c.self.inside.behind; next = c.self.inside.next } in
    let lu = rw (← c.self.view_is) at c.requires.region in
    let lt = rw (← c.self.view_is) at c.requires.other in
    let ea = c.remove.ensures ∙ ap (λ k. with_list b.ahead k (without_id c.args.other (list_at b.ahead k))) c.find-slot.ensures in
    let eb = c.remove-2.ensures ∙ ap (λ k. with_list b.behind k (without_id c.args.id (list_at b.behind k))) c.find-to.ensures in
    rw (ea, eb, ← c.self.view_is) (paired_is b c.self.invariant c.args.id c.args.other lu lt false (without_id c.args.other (ahead_of b c.args.id)) (without_id c.args.id (behind_of b c.args.other)) (less_ahead b c.self.invariant c.args.id c.args.other lu lt) (less_behind b c.self.invariant c.args.id c.args.other lu lt)
    (omega (arith, total_with b.ahead (slot_of b.slots c.args.id) (without_id c.args.other (ahead_of b c.args.id)) (omega (arith, live_slot b c.args.id lu, c.self.invariant.ahead_numbers)), filter_le (λ k. not (nat_eq c.args.other k)) (ahead_of b c.args.id), c.self.invariant.ahead_fits))
    (omega (arith, total_with b.behind (slot_of b.slots c.args.other) (without_id c.args.id (behind_of b c.args.other)) (omega (arith, live_slot b c.args.other lt, c.self.invariant.behind_numbers)), filter_le (λ k. not (nat_eq c.args.id k)) (behind_of b c.args.other), c.self.invariant.behind_fits)))

pub returns-clause-ahead : goal.returns-clause-ahead
unfolding ahead_of waits_of
returns-clause-ahead c =
    let b : Book = record { owned = c.self.inside.owners.pages; free = c.self.inside.owners.free; slots = c.self.inside.slots; rows = c.self.inside.rows; ahead = c.self.inside.ahead; behind = c.self.inside.behind; next = c.self.inside.next } in
    let lu = live_slot b c.args.id (rw (← c.self.view_is) at c.requires.region) in
    let ea = c.remove.ensures ∙ ap (λ k. with_list b.ahead k (without_id c.args.other (list_at b.ahead k))) c.find-slot.ensures in
    let few = total_with b.ahead (slot_of b.slots c.args.id) (without_id c.args.other (ahead_of b c.args.id)) (omega (arith, lu, c.self.invariant.ahead_numbers)) in
    let p = rw (← c.self.view_is) at c.requires.pair in
    rw (← c.self.view_is) (omega (arith, ap total ea, few, without_fewer c.args.other (ahead_of b c.args.id) p), ap (λ v. v.room) ea)

pub returns-clause-behind : goal.returns-clause-behind
unfolding behind_of
returns-clause-behind c =
    let b : Book = record { owned = c.self.inside.owners.pages; free = c.self.inside.owners.free; slots = c.self.inside.slots; rows = c.self.inside.rows; ahead = c.self.inside.ahead; behind = c.self.inside.behind; next = c.self.inside.next } in
    let lt = live_slot b c.args.other (rw (← c.self.view_is) at c.requires.other) in
    let eb = c.remove-2.ensures ∙ ap (λ k. with_list b.behind k (without_id c.args.id (list_at b.behind k))) c.find-to.ensures in
    let few = total_with b.behind (slot_of b.slots c.args.other) (without_id c.args.id (behind_of b c.args.other)) (omega (arith, lt, c.self.invariant.behind_numbers)) in
    let q = behind_has b c.self.invariant c.args.id c.args.other (rw (← c.self.view_is) at c.requires.pair) in
    rw (← c.self.view_is) (omega (arith, ap total eb, few, without_fewer c.args.id (behind_of b c.args.other) q), ap (λ v. v.room) eb)

pub remove-requires : goal.remove-requires
remove-requires c =
    let b : Book = record { owned = c.self.inside.owners.pages; free = c.self.inside.owners.free; slots = c.self.inside.slots; rows = c.self.inside.rows; ahead = c.self.inside.ahead; behind = c.self.inside.behind; next = c.self.inside.next } in
    let l = live_slot b c.args.id (rw (← c.self.view_is) at c.requires.region) in
    omega (arith, l, c.find-slot.ensures, c.self.invariant.ahead_numbers)
