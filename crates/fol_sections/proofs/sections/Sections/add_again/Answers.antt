use Rattle.std.proofs.Common.{◌≡◌, ℕ, ◌+◌, refl, sym, ◌∙◌, ap, arith}
use Rattle.std.specs.Prelude.{nat_lt}
use Rattle.std.proofs.Math.Path.{fun_ext}
use Rattle.fol_model.specs.declared.places.ChunkPos.{ChunkPos}
use Rattle.fol_model.specs.GridState.{at_chunk}
use Rattle.fol_sections.proofs.AgainTable.{kept_either}
use Rattle.fol_sections.proofs.Tables.{table-holds, table-presence}
use Rattle.fol_sections.proofs.sections.Sections.add_again.Goals as goal

pub hold_again-requires : goal.hold_again-requires
hold_again-requires c =
    let few = rw (← c.self.view_is) at c.requires in
    let is = ap (λ (f : ChunkPos → ℕ). f c.args.c) (table-holds c.self.inside.grid c.self.inside.holds.entries c.self.inside.pages.entries c.self.inside.filled.items c.self.inside.died.items c.self.inside.spare) in
    omega (arith, few, is)

pub invariant_of-self : goal.invariant_of-self
invariant_of-self c = (
  kept_either _ _ _ _ _ c.self.invariant.0 c.args.c _ c.hold_again.ensures.again c.hold_again.ensures.counts c.hold_again.ensures.stays,
  record {
    holds = omega (arith, c.hold_again.ensures.room, c.self.invariant.1.holds);
    pages = c.self.invariant.1.pages;
    filled = c.self.invariant.1.filled;
    died = c.self.invariant.1.died;
    fits = c.self.invariant.1.fits;
  },
)

pub returns-clause-held : goal.returns-clause-held
returns-clause-held c =
    let is = table-holds c.self.inside.grid c.self.inside.holds.entries c.self.inside.pages.entries c.self.inside.filled.items c.self.inside.died.items c.self.inside.spare in
    rw (← c.self.view_is) (c.hold_again.ensures.again ∙ ap (λ (f : ChunkPos → ℕ). nat_lt 0 (f c.args.c)) (sym is))

pub returns-clause-added : goal.returns-clause-added
returns-clause-added c held =
    let was = table-holds c.self.inside.grid c.self.inside.holds.entries c.self.inside.pages.entries c.self.inside.filled.items c.self.inside.died.items c.self.inside.spare in
    rw (← c.self.view_is) (table-holds c.self.inside.grid c.hold_again.new.holds.entries c.self.inside.pages.entries c.self.inside.filled.items c.self.inside.died.items c.self.inside.spare
    ∙ fun_ext (c.hold_again.ensures.counts held)
    ∙ ap (λ (f : ChunkPos → ℕ). at_chunk f c.args.c (f c.args.c + 1)) (sym was))

pub returns-clause-presence : goal.returns-clause-presence
returns-clause-presence c =
    let kept = c.self.invariant.0 in
    rw (← c.self.view_is) (table-presence c.self.inside.grid c.hold_again.new.holds.entries c.self.inside.pages.entries c.self.inside.filled.items c.self.inside.died.items c.self.inside.spare kept.section_limits
    ∙ sym (table-presence c.self.inside.grid c.self.inside.holds.entries c.self.inside.pages.entries c.self.inside.filled.items c.self.inside.died.items c.self.inside.spare kept.section_limits))
