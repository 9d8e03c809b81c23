use Rattle.std.proofs.Common.{ℕ, List, sym, ap, subst, ◌∙◌}
use Rattle.fol_model.specs.declared.openings.Opening.{Opening}
use Rattle.fol_model.specs.OpeningParts.{IsOpening}
use Rattle.fol_model.specs.Texts.{IsWorldText}
use Rattle.fol_text_laws.specs.Printed.{world_text}
use Rattle.fol_text_laws.proofs.WorldLaws.{world_printed}
use Rattle.fol_script.proofs.RowText.{world_lines}
use Rattle.fol_script.proofs.world_printer.print_world.Goals as goal

pub returns-clause-text : goal.returns-clause-text
returns-clause-text c =
    let i = c.opening.inside in
    let o : Opening = record { version = i.version; grid = i.grid; blocks = i.blocks; entities = i.entities } in
    world_lines o c.as_slice.result.now c.as_slice-2.result.now c.new-out.result.items c.push_version.new.out.items c.push_grid.new.out.items c.push_blocks.new.out.items c.push_entities.new.out.items
    c.new-out.ensures.items c.in_ok-push_version.ensures c.in_ok-push_grid.ensures c.as_slice.ensures c.in_ok-push_blocks.ensures c.as_slice-2.ensures c.in_ok-push_entities.ensures
    ∙ ap world_text c.opening.view_is

pub returns-clause-reads : goal.returns-clause-reads
returns-clause-reads c =
    let is = subst IsOpening c.opening.view_is c.opening.invariant in
    subst (λ (b : List ℕ). IsWorldText b c.args.opening.now) (sym (returns-clause-text c)) (world_printed c.args.opening.now is)
