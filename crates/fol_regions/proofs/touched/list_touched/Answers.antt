use Rattle.std.proofs.Common.{◌≡◌, ◌+◌, ◌∷◌, [], sym, ◌∙◌, ap, subst, cond}
use Rattle.std.specs.Prelude.{IfOk, filter}
use Rattle.fol_model.specs.declared.grids.Grid.{Grid}
use Rattle.fol_model.specs.declared.places.SectionPos.{SectionPos}
use Rattle.fol_model.specs.Geometry.{section_of}
use Rattle.fol_model.specs.GridNumbers.{IsGrid}
use Rattle.fol_model.specs.Universe.{numbers_below}
use Rattle.fol_region_tables.specs.Book.{owner_of}
use Rattle.fol_regions.specs.Near.{is_close, regions_of}
use Rattle.fol_regions.proofs.TouchedSteps.{home_near, owner_touched, touched_are}
use Rattle.fol_regions.proofs.touched.list_touched.Goals as goal

pub find-requires-clause-home : goal.find-requires-clause-home
find-requires-clause-home c = rw c.section_of-home.ensures (home_near c.args.grid.now c.args.c (subst IsGrid (sym c.requires.same) c.requires.numbers) c.requires.in_range)

pub returns-then-will_fill-clause-listed : goal.returns-then-will_fill-clause-listed
returns-then-will_fill-clause-listed c =
    let s = c.args.sections.now in
    let t = c.args.tables.now in
    let home = c.section_of-home.ensures ∙ ap (λ (g : Grid). section_of g c.args.c) c.requires.same in
    let fills = sym c.if-will_fill.true ∙ c.will_fill.ensures in
    let reach = c.reach.ensures ∙ ap (λ (g : Grid). g.create + g.merge) c.requires.same ∙ ap (λ b. cond b (s.grid.create + s.grid.merge) 0) fills in
    let near = ap (λ (q : SectionPos). filter (is_close (owner_of t) q c.reach.result) (numbers_below t.next)) home ∙ touched_are s t c.requires.presence c.requires.numbers c.args.c c.requires.in_range c.reach.result reach in
    subst (λ xs. IfOk c.from_slice.result (λ ids. ids.items ≡ xs)) (c.ids.ensures ∙ c.find.ensures.near ∙ near) c.from_slice.ensures.items

pub returns-else-will_fill-clause-listed : goal.returns-else-will_fill-clause-listed
returns-else-will_fill-clause-listed c =
    let s = c.args.sections.now in
    let t = c.args.tables.now in
    let home = c.section_of-home.ensures ∙ ap (λ (g : Grid). section_of g c.args.c) c.requires.same in
    let fills = sym c.if-will_fill.false ∙ c.will_fill.ensures in
    let alone = ap (λ (q : SectionPos). regions_of (owner_of t) t.next (q ∷ [])) home ∙ owner_touched s t c.requires.presence c.requires.numbers c.args.c c.requires.in_range (ap (λ b. cond b (s.grid.create + s.grid.merge) 0) fills) in
    subst (λ xs. IfOk c.list_owner.result (λ ids. ids.items ≡ xs)) alone c.list_owner.ensures
