use Rattle.std.proofs.Common.{◌+◌, sym, ◌∙◌, ap, arith, subst}
use Rattle.std.specs.Prelude.{filter}
use Rattle.std.specs.Ordering.{nat_cmp}
use Rattle.std.proofs.lemmas.List.Kept.{IsStrictlySortedBy-filter}
use Rattle.fol_model.specs.Geometry.{section_of, is_among}
use Rattle.fol_model.specs.Universe.{all_sections, numbers_below}
use Rattle.fol_laws.proofs.NumberOrder.{numbers_sorted}
use Rattle.fol_regions.specs.Added.{Waits}
use Rattle.fol_region_tables.specs.Book.{owner_of}
use Rattle.fol_regions.specs.Near.{is_close}
use Rattle.fol_pages.proofs.LyingIn.{lie_in-more}
use Rattle.fol_regions.proofs.AddedGrid as added
use Rattle.fol_region_tables.proofs.Chosen.{filter_like}
use Rattle.fol_regions.proofs.add.extend.Goals as goal

pub find-requires-clause-home : goal.find-requires-clause-home
find-requires-clause-home c =
    let e = c.section_of.ensures in
    rw e (added.home_limits c.args.grid.now c.args.tables.now c.keeps_lists.ensures c.requires.rules c.requires.numbers c.args.c c.requires.in_range)

pub grow-target-requires-clause-near : goal.grow-target-requires-clause-near
grow-target-requires-clause-near c =
    let listed = c.ids.ensures ∙ c.find.ensures.near ∙ (λ i. filter (is_close (owner_of c.args.tables.now) (c.section_of.ensures i) (c.reach.ensures i)) (numbers_below c.args.tables.now.next)) in
    added.near_live c.args.grid.now c.args.tables.now c.keeps_lists.ensures c.requires.rules c.requires.numbers c.args.c c.requires.in_range c.ids.result.now listed

pub grow-target-requires-clause-rising : goal.grow-target-requires-clause-rising
grow-target-requires-clause-rising c =
    let listed = c.ids.ensures ∙ c.find.ensures.near ∙ (λ i. filter (is_close (owner_of c.args.tables.now) (c.section_of.ensures i) (c.reach.ensures i)) (numbers_below c.args.tables.now.next)) in
    rw listed (IsStrictlySortedBy-filter nat_cmp (is_close (owner_of c.args.tables.now) (section_of c.args.grid.now c.args.c) (c.args.grid.now.create + c.args.grid.now.merge)) (numbers_below c.args.tables.now.next) (numbers_sorted c.args.tables.now.next))

pub grow-target-requires-clause-lives : goal.grow-target-requires-clause-lives
grow-target-requires-clause-lives c =
    added.ticking_live c.args.grid.now c.args.tables.now c.keeps_lists.ensures c.requires.rules c.requires.numbers c.args.c c.requires.in_range

pub grow-target-requires-clause-awaited : goal.grow-target-requires-clause-awaited
grow-target-requires-clause-awaited c =
    added.awaited_ticks c.args.grid.now c.args.tables.now c.keeps_lists.ensures c.requires.rules c.requires.numbers c.args.c c.requires.in_range

pub grow-target-requires-clause-absent : goal.grow-target-requires-clause-absent
grow-target-requires-clause-absent c =
    λ s h. added.wanted_absent c.args.grid.now c.args.tables.now c.keeps_lists.ensures c.requires.rules c.requires.numbers c.args.c c.requires.in_range s (sym (added.wanted_among c.args.grid.now c.args.tables.now c.keeps_lists.ensures c.requires.rules c.requires.numbers c.args.c c.requires.in_range s) ∙ ap (λ xs. is_among xs s) (sym c.requires.wanted) ∙ h)

pub grow-target-requires-clause-row : goal.grow-target-requires-clause-row
grow-target-requires-clause-row c =
    c.requires.wanted ∙ filter_like _ _ (λ s. sym (ap (λ xs. is_among xs s) c.requires.wanted ∙ added.wanted_among c.args.grid.now c.args.tables.now c.keeps_lists.ensures c.requires.rules c.requires.numbers c.args.c c.requires.in_range s)) all_sections

pub returns-clause-owner : goal.returns-clause-owner
returns-clause-owner c =
    let listed = c.ids.ensures ∙ c.find.ensures.near ∙ (λ i. filter (is_close (owner_of c.args.tables.now) (c.section_of.ensures i) (c.reach.ensures i)) (numbers_below c.args.tables.now.next)) in
    let waits = subst (Waits c.grow-target.new.tables c.pair_near.new.tables c.grow-target.result) (c.ids-2.ensures ∙ sym c.ids.ensures) c.pair_near.ensures in
    added.final_owner c.args.grid.now c.args.tables.now c.keeps_lists.ensures c.requires.rules c.requires.numbers c.args.c c.requires.in_range c.ids.result.now listed c.args.wanted.now c.requires.wanted c.grow-target.new.tables c.grow-target.result c.grow-target.ensures.grows c.pair_near.new.tables waits c.keeps_lists-2.ensures c.settle.new.tables c.settle.ensures

pub returns-clause-state : goal.returns-clause-state
returns-clause-state c =
    let listed = c.ids.ensures ∙ c.find.ensures.near ∙ (λ i. filter (is_close (owner_of c.args.tables.now) (c.section_of.ensures i) (c.reach.ensures i)) (numbers_below c.args.tables.now.next)) in
    let waits = subst (Waits c.grow-target.new.tables c.pair_near.new.tables c.grow-target.result) (c.ids-2.ensures ∙ sym c.ids.ensures) c.pair_near.ensures in
    added.final_state c.args.grid.now c.args.tables.now c.keeps_lists.ensures c.requires.rules c.requires.numbers c.args.c c.requires.in_range c.ids.result.now listed c.args.wanted.now c.requires.wanted c.grow-target.new.tables c.grow-target.result c.grow-target.ensures.grows c.pair_near.new.tables waits c.keeps_lists-2.ensures c.settle.new.tables c.settle.ensures

pub returns-clause-waits : goal.returns-clause-waits
returns-clause-waits c =
    let listed = c.ids.ensures ∙ c.find.ensures.near ∙ (λ i. filter (is_close (owner_of c.args.tables.now) (c.section_of.ensures i) (c.reach.ensures i)) (numbers_below c.args.tables.now.next)) in
    let waits = subst (Waits c.grow-target.new.tables c.pair_near.new.tables c.grow-target.result) (c.ids-2.ensures ∙ sym c.ids.ensures) c.pair_near.ensures in
    added.final_waits c.args.grid.now c.args.tables.now c.keeps_lists.ensures c.requires.rules c.requires.numbers c.args.c c.requires.in_range c.ids.result.now listed c.args.wanted.now c.requires.wanted c.grow-target.new.tables c.grow-target.result c.grow-target.ensures.grows c.pair_near.new.tables waits c.keeps_lists-2.ensures c.settle.new.tables c.settle.ensures

pub returns-clause-next : goal.returns-clause-next
returns-clause-next c =
    let listed = c.ids.ensures ∙ c.find.ensures.near ∙ (λ i. filter (is_close (owner_of c.args.tables.now) (c.section_of.ensures i) (c.reach.ensures i)) (numbers_below c.args.tables.now.next)) in
    let waits = subst (Waits c.grow-target.new.tables c.pair_near.new.tables c.grow-target.result) (c.ids-2.ensures ∙ sym c.ids.ensures) c.pair_near.ensures in
    added.final_next c.args.grid.now c.args.tables.now c.keeps_lists.ensures c.requires.rules c.requires.numbers c.args.c c.requires.in_range c.ids.result.now listed c.args.wanted.now c.requires.wanted c.grow-target.new.tables c.grow-target.result c.grow-target.ensures.grows c.pair_near.new.tables waits c.keeps_lists-2.ensures c.settle.new.tables c.settle.ensures

pub returns-clause-change : goal.returns-clause-change
returns-clause-change c =
    let listed = c.ids.ensures ∙ c.find.ensures.near ∙ (λ i. filter (is_close (owner_of c.args.tables.now) (c.section_of.ensures i) (c.reach.ensures i)) (numbers_below c.args.tables.now.next)) in
    c.grow-target.ensures.change ∙ added.change_is c.args.grid.now c.args.tables.now c.keeps_lists.ensures c.requires.rules c.requires.numbers c.args.c c.requires.in_range c.ids.result.now listed c.args.wanted.now c.requires.wanted c.grow-target.new.tables c.grow-target.result c.grow-target.ensures.grows

pub grow-target-requires-clause-room : goal.grow-target-requires-clause-room
grow-target-requires-clause-room c =
    lie_in-more (is_among c.args.wanted.now) 34 c.args.tables.now.free c.requires.free
    (added.wanted_near c.args.grid.now c.args.tables.now c.keeps_lists.ensures c.requires.rules c.requires.numbers c.args.c c.requires.in_range c.args.wanted.now c.requires.wanted)

pub returns-clause-free : goal.returns-clause-free
returns-clause-free c =
    let near = added.wanted_near c.args.grid.now c.args.tables.now c.keeps_lists.ensures c.requires.rules c.requires.numbers c.args.c c.requires.in_range c.args.wanted.now c.requires.wanted in
    omega (arith, c.grow-target.ensures.grows.free 34 near, c.pair_near.ensures.free, c.settle.ensures.rooms.free)
