use Rattle.std.proofs.Common.{◌≡◌, refl, sym, ◌∙◌, ap, arith, Bool, true, false, not, ◌&&◌}
use Rattle.std.proofs.Math.Path.{fun_ext}
use Rattle.fol_model.specs.declared.places.SectionPos.{SectionPos}
use Rattle.fol_model.specs.Geometry.{is_among}
use Rattle.fol_sections.specs.Pages.{is_here}
use Rattle.fol_sections.specs.Table.{in_margin_of}
use Rattle.fol_sections.proofs.DeadSteps.{all_left, counts_left, filter-like, here_left, kept_left, lonely-is, stays_where}
use Rattle.fol_sections.proofs.Tables.{table, table-holds, table-presence}
use Rattle.fol_sections.proofs.sections.Sections.drop_dead.Goals as goal

pub overflow_cast-self : goal.overflow_cast-self
overflow_cast-self c =
    let presence = table-presence c.self.inside.grid c.self.inside.holds.entries c.self.inside.pages.entries c.self.inside.filled.items c.self.inside.died.items c.self.inside.spare c.self.invariant.0.section_limits in
    let present = rw (← c.self.view_is, presence) at c.requires.present in
    let same = c.deref.ensures.value in
    let out = rw same at c.drop_list-dropped.ensures.out in
    let dead = rw same at c.drop_list-dropped.ensures.dead in
    omega (arith, dead, counts_left c.self.inside.grid c.self.inside.holds.entries c.self.inside.pages.entries c.drop_list-dropped.new.pages.entries c.self.inside.count c.self.invariant.0 c.args.list.now.items present c.requires.distinct out, c.self.invariant.0.count, c.self.invariant.0.few)

pub overflow_sub-self : goal.overflow_sub-self
overflow_sub-self c =
    let presence = table-presence c.self.inside.grid c.self.inside.holds.entries c.self.inside.pages.entries c.self.inside.filled.items c.self.inside.died.items c.self.inside.spare c.self.invariant.0.section_limits in
    let present = rw (← c.self.view_is, presence) at c.requires.present in
    let same = c.deref.ensures.value in
    let out = rw same at c.drop_list-dropped.ensures.out in
    let dead = rw same at c.drop_list-dropped.ensures.dead in
    omega (arith, dead, counts_left c.self.inside.grid c.self.inside.holds.entries c.self.inside.pages.entries c.drop_list-dropped.new.pages.entries c.self.inside.count c.self.invariant.0 c.args.list.now.items present c.requires.distinct out, c.self.invariant.0.count)

pub keep_present-requires : goal.keep_present-requires
keep_present-requires c =
    let presence = table-presence c.self.inside.grid c.self.inside.holds.entries c.self.inside.pages.entries c.self.inside.filled.items c.self.inside.died.items c.self.inside.spare c.self.invariant.0.section_limits in
    let present = rw (← c.self.view_is, presence) at c.requires.present in
    let same = c.deref.ensures.value in
    let out = rw same at c.drop_list-dropped.ensures.out in
    let dead = rw same at c.drop_list-dropped.ensures.dead in
    record { missing = rw dead (all_left c.self.inside.grid c.self.inside.holds.entries c.self.inside.pages.entries c.drop_list-dropped.new.pages.entries c.self.inside.count c.self.invariant.0 c.args.list.now.items present c.requires.distinct out) }

pub invariant_of-self : goal.invariant_of-self
invariant_of-self c =
    let presence = table-presence c.self.inside.grid c.self.inside.holds.entries c.self.inside.pages.entries c.self.inside.filled.items c.self.inside.died.items c.self.inside.spare c.self.invariant.0.section_limits in
    let present = rw (← c.self.view_is, presence) at c.requires.present in
    let same = c.deref.ensures.value in
    let out = rw same at c.drop_list-dropped.ensures.out in
    let dead = rw same at c.drop_list-dropped.ensures.dead in (
      rw dead (kept_left c.self.inside.grid c.self.inside.holds.entries c.self.inside.pages.entries c.drop_list-dropped.new.pages.entries c.self.inside.count c.self.invariant.0 c.args.list.now.items present c.requires.distinct out),
      record {
        holds = c.self.invariant.1.holds;
        pages = omega (arith, c.drop_list-dropped.ensures.room, c.self.invariant.1.pages);
        filled = c.self.invariant.1.filled;
        died = c.self.invariant.1.died;
        fits = c.self.invariant.1.fits;
      },
    )

pub returns-clause-list : goal.returns-clause-list
returns-clause-list c =
    let presence = table-presence c.self.inside.grid c.self.inside.holds.entries c.self.inside.pages.entries c.self.inside.filled.items c.self.inside.died.items c.self.inside.spare c.self.invariant.0.section_limits in
    let present = rw (← c.self.view_is, presence) at c.requires.present in
    let same = c.deref.ensures.value in
    let out = rw same at c.drop_list-dropped.ensures.out in
    rw (← c.self.view_is) (c.keep_present.ensures.list ∙ filter-like _ _ c.args.list.now.items (λ s h.
    stays_where c.self.inside.grid c.self.inside.holds.entries c.self.inside.pages.entries c.drop_list-dropped.new.pages.entries c.self.inside.count c.self.invariant.0 c.args.list.now.items present c.requires.distinct out s h
    ∙ ap not (lonely-is c.self.inside.grid c.self.inside.holds.entries c.self.inside.pages.entries c.self.inside.count c.self.inside.filled.items c.self.inside.died.items c.self.inside.spare c.self.invariant.0 s)
    ∙ twice (in_margin_of (table c.self.inside.grid c.self.inside.holds.entries c.self.inside.pages.entries c.self.inside.filled.items c.self.inside.died.items c.self.inside.spare) s)))
  where
    twice : (b : Bool) → not (not b) ≡ b
    twice true = refl
    twice false = refl

pub returns-clause-presence : goal.returns-clause-presence
returns-clause-presence c =
    let presence = table-presence c.self.inside.grid c.self.inside.holds.entries c.self.inside.pages.entries c.self.inside.filled.items c.self.inside.died.items c.self.inside.spare c.self.invariant.0.section_limits in
    let present = rw (← c.self.view_is, presence) at c.requires.present in
    let same = c.deref.ensures.value in
    let out = rw same at c.drop_list-dropped.ensures.out in
    let dead = rw same at c.drop_list-dropped.ensures.dead in
    let kept = kept_left c.self.inside.grid c.self.inside.holds.entries c.self.inside.pages.entries c.drop_list-dropped.new.pages.entries c.self.inside.count c.self.invariant.0 c.args.list.now.items present c.requires.distinct out in
    rw (← c.self.view_is) (table-presence c.self.inside.grid c.self.inside.holds.entries c.drop_list-dropped.new.pages.entries c.self.inside.filled.items c.self.inside.died.items c.self.inside.spare kept.section_limits ∙ fun_ext (λ s.
    here_left c.self.inside.grid c.self.inside.holds.entries c.self.inside.pages.entries c.drop_list-dropped.new.pages.entries c.self.inside.count c.self.invariant.0 c.args.list.now.items present c.requires.distinct out s
    ∙ ap (λ b. is_here c.self.inside.pages.entries s && not (is_among c.args.list.now.items s && b)) (lonely-is c.self.inside.grid c.self.inside.holds.entries c.self.inside.pages.entries c.self.inside.count c.self.inside.filled.items c.self.inside.died.items c.self.inside.spare c.self.invariant.0 s)
    ∙ ap (λ (f : SectionPos → Bool). f s && not (is_among c.args.list.now.items s && not (in_margin_of (table c.self.inside.grid c.self.inside.holds.entries c.self.inside.pages.entries c.self.inside.filled.items c.self.inside.died.items c.self.inside.spare) s))) (sym presence)))

pub returns-clause-holds : goal.returns-clause-holds
returns-clause-holds c =
    rw (← c.self.view_is) (table-holds c.self.inside.grid c.self.inside.holds.entries c.drop_list-dropped.new.pages.entries c.self.inside.filled.items c.self.inside.died.items c.self.inside.spare ∙ sym (table-holds c.self.inside.grid c.self.inside.holds.entries c.self.inside.pages.entries c.self.inside.filled.items c.self.inside.died.items c.self.inside.spare))
