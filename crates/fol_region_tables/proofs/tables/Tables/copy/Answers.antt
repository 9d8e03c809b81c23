use Rattle.std.proofs.Common.{refl, sym, ◌∙◌, ap, arith}
use Rattle.fol_lists.specs.Numbered.{with_numbers}
use Rattle.fol_region_tables.specs.Book.{owner_of}
use Rattle.fol_region_tables.specs.Slots.{SlotTable}
use Rattle.fol_region_tables.proofs.CopySteps.{copied_alike, copied_book}
use Rattle.fol_region_tables.proofs.tables.Tables.copy.Goals as goal

pub invariant_of-result-2 : goal.invariant_of-result-2
unfolding owner_of
invariant_of-result-2 c =
    let numbers = c.room-numbers.ensures.room ∙ ap (λ (v : SlotTable). v.room) (sym c.slots.view_is) in
    copied_book _ _ c.self.invariant c.keeps_slots.ensures.within c.in_ok-copy.ensures.owner
    (ap (λ (v : SlotTable). v.regions) c.slots.view_is ∙ c.in_ok-slots.ensures.regions) (omega (arith, ap (λ (v : SlotTable). v.room) c.slots.view_is, c.in_ok-slots.ensures.room))
    (c.in_ok-copy-2.ensures ∙ ap (with_numbers c.self.inside.rows) numbers) (c.in_ok-copy-3.ensures ∙ ap (with_numbers c.self.inside.ahead) numbers) (c.in_ok-copy-4.ensures ∙ ap (with_numbers c.self.inside.behind) numbers) refl

pub returns-clause-same : goal.returns-clause-same
unfolding owner_of
returns-clause-same c =
    let numbers = c.room-numbers.ensures.room ∙ ap (λ (v : SlotTable). v.room) (sym c.slots.view_is) in
    rw (← c.self.view_is) (copied_alike _ _ c.self.invariant c.keeps_slots.ensures.within c.in_ok-copy.ensures.owner
    (ap (λ (v : SlotTable). v.regions) c.slots.view_is ∙ c.in_ok-slots.ensures.regions) (omega (arith, ap (λ (v : SlotTable). v.room) c.slots.view_is, c.in_ok-slots.ensures.room))
    (c.in_ok-copy-2.ensures ∙ ap (with_numbers c.self.inside.rows) numbers) (c.in_ok-copy-3.ensures ∙ ap (with_numbers c.self.inside.ahead) numbers) (c.in_ok-copy-4.ensures ∙ ap (with_numbers c.self.inside.behind) numbers) refl)
