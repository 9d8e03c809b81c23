use Rattle.std.proofs.Common.{◌≡◌, ◌∙◌, [], ◌++◌, ap, arith, length}
use Rattle.std.proofs.lemmas.List.{get_or-set_other, length-set}
use Rattle.fol_lists.specs.Numbered.{list_at, total, with_list}
use Rattle.fol_region_tables.specs.Rows.{united}
use Rattle.fol_region_tables.proofs.Totals.{total_with, two_le}
use Rattle.fol_region_tables.proofs.rows.Rows.join.Goals as goal

pub add-requires-clause-number : goal.add-requires-clause-number
add-requires-clause-number c =
    let number = rw (← c.self.view_is) at c.requires.number in
    omega (arith, number, ap (λ v. length v.lists) c.clear-2.ensures, length-set c.self.inside.lists.lists c.args.other [])

pub add-requires-clause-row : goal.add-requires-clause-row
add-requires-clause-row c =
    let number = rw (← c.self.view_is) at c.requires.number in
    let other = rw (← c.self.view_is) at c.requires.other in
    let row = list_at c.self.inside.lists c.args.n in
    let gone = list_at c.self.inside.lists c.args.other in
    let same : list_at c.clear-2.new.self c.args.n ≡ row = ap (λ v. list_at v c.args.n) c.clear-2.ensures ∙ get_or-set_other c.self.inside.lists.lists c.args.other c.args.n [] [] c.requires.lists in
    rw same (rw (← c.self.view_is) at c.requires.row)

pub add-requires-clause-sections : goal.add-requires-clause-sections
add-requires-clause-sections c =
    let number = rw (← c.self.view_is) at c.requires.number in
    let other = rw (← c.self.view_is) at c.requires.other in
    let row = list_at c.self.inside.lists c.args.n in
    let gone = list_at c.self.inside.lists c.args.other in
    let ok = c.extend_from_slice.ensures.succeeds
    (omega (arith, two_le c.self.inside.lists c.args.n c.args.other number other c.requires.lists, ap length c.get.ensures, ap length c.clear.ensures.items, c.clear.ensures.capacity, c.self.invariant.fits, c.self.invariant.moved)) in
    let items = rw ok at c.extend_from_slice.ensures.items in
    let waits : c.deref.result.now ≡ gone = c.deref.ensures.value ∙ items ∙ (λ i. c.clear.ensures.items i ++ c.get.ensures i) in
    rw waits (rw (← c.self.view_is) at c.requires.other_row)

pub add-requires-clause-apart : goal.add-requires-clause-apart
add-requires-clause-apart c =
    let number = rw (← c.self.view_is) at c.requires.number in
    let other = rw (← c.self.view_is) at c.requires.other in
    let row = list_at c.self.inside.lists c.args.n in
    let gone = list_at c.self.inside.lists c.args.other in
    let same : list_at c.clear-2.new.self c.args.n ≡ row = ap (λ v. list_at v c.args.n) c.clear-2.ensures ∙ get_or-set_other c.self.inside.lists.lists c.args.other c.args.n [] [] c.requires.lists in
    let ok = c.extend_from_slice.ensures.succeeds
    (omega (arith, two_le c.self.inside.lists c.args.n c.args.other number other c.requires.lists, ap length c.get.ensures, ap length c.clear.ensures.items, c.clear.ensures.capacity, c.self.invariant.fits, c.self.invariant.moved)) in
    let items = rw ok at c.extend_from_slice.ensures.items in
    let waits : c.deref.result.now ≡ gone = c.deref.ensures.value ∙ items ∙ (λ i. c.clear.ensures.items i ++ c.get.ensures i) in
    rw (same, waits) (rw (← c.self.view_is) at c.requires.apart)

pub add-requires-clause-room : goal.add-requires-clause-room
add-requires-clause-room c =
    let number = rw (← c.self.view_is) at c.requires.number in
    let other = rw (← c.self.view_is) at c.requires.other in
    let row = list_at c.self.inside.lists c.args.n in
    let gone = list_at c.self.inside.lists c.args.other in
    let ok = c.extend_from_slice.ensures.succeeds
    (omega (arith, two_le c.self.inside.lists c.args.n c.args.other number other c.requires.lists, ap length c.get.ensures, ap length c.clear.ensures.items, c.clear.ensures.capacity, c.self.invariant.fits, c.self.invariant.moved)) in
    let items = rw ok at c.extend_from_slice.ensures.items in
    let waits : c.deref.result.now ≡ gone = c.deref.ensures.value ∙ items ∙ (λ i. c.clear.ensures.items i ++ c.get.ensures i) in
    omega (arith, ap length waits, ap total c.clear-2.ensures, ap (λ v. v.room) c.clear-2.ensures, total_with c.self.inside.lists c.args.other [] other, c.self.invariant.fits, c.self.invariant.most)

pub invariant_of-self : goal.invariant_of-self
invariant_of-self c =
    let number = rw (← c.self.view_is) at c.requires.number in
    let other = rw (← c.self.view_is) at c.requires.other in
    let row = list_at c.self.inside.lists c.args.n in
    let gone = list_at c.self.inside.lists c.args.other in
    let ok = c.extend_from_slice.ensures.succeeds
    (omega (arith, two_le c.self.inside.lists c.args.n c.args.other number other c.requires.lists, ap length c.get.ensures, ap length c.clear.ensures.items, c.clear.ensures.capacity, c.self.invariant.fits, c.self.invariant.moved)) in
    let items = rw ok at c.extend_from_slice.ensures.items in
    let waits : c.deref.result.now ≡ gone = c.deref.ensures.value ∙ items ∙ (λ i. c.clear.ensures.items i ++ c.get.ensures i) in
    record {
      fits = omega (arith, c.add.ensures.total, ap length waits, ap total c.clear-2.ensures, total_with c.self.inside.lists c.args.other [] other, c.self.invariant.fits);
      most = omega (arith, ap (λ v. v.room) c.add.ensures.added, ap (λ v. v.room) c.clear-2.ensures, c.self.invariant.most);
      moved = omega (arith, c.extend_from_slice.ensures.capacity, c.clear.ensures.capacity, c.self.invariant.moved);
      made = omega (arith, c.add.ensures.made, c.self.invariant.made);
    }

pub returns : goal.returns
returns c =
    let number = rw (← c.self.view_is) at c.requires.number in
    let other = rw (← c.self.view_is) at c.requires.other in
    let row = list_at c.self.inside.lists c.args.n in
    let gone = list_at c.self.inside.lists c.args.other in
    let same : list_at c.clear-2.new.self c.args.n ≡ row = ap (λ v. list_at v c.args.n) c.clear-2.ensures ∙ get_or-set_other c.self.inside.lists.lists c.args.other c.args.n [] [] c.requires.lists in
    let ok = c.extend_from_slice.ensures.succeeds
    (omega (arith, two_le c.self.inside.lists c.args.n c.args.other number other c.requires.lists, ap length c.get.ensures, ap length c.clear.ensures.items, c.clear.ensures.capacity, c.self.invariant.fits, c.self.invariant.moved)) in
    let items = rw ok at c.extend_from_slice.ensures.items in
    let waits : c.deref.result.now ≡ gone = c.deref.ensures.value ∙ items ∙ (λ i. c.clear.ensures.items i ++ c.get.ensures i) in
    rw (← c.self.view_is)
    (c.add.ensures.added ∙ ap (λ xs. with_list c.clear-2.new.self c.args.n (united xs c.deref.result.now)) same ∙ ap (λ ys. with_list c.clear-2.new.self c.args.n (united row ys)) waits
    ∙ ap (λ v. with_list v c.args.n (united row gone)) c.clear-2.ensures)
