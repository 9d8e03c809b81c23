use Rattle.std.proofs.Common.{sym, rules, Ok, Err}
use Rattle.std.proofs.lemmas.Fn.{always_returns_same}
use Rattle.fol_model.specs.declared.closings.OwnerRow.{OwnerRow}
use Rattle.fol_model.specs.Universe.{section_cmp}
use Rattle.fol_keyed.proofs.Places.{section_cmp_total, section_cmp_tells}
use Rattle.fol_keyed.proofs.Sorted.{searched_by}
use Rattle.fol_view.proofs.Finding.{found_at, found_none}
use Rattle.fol_view.proofs.publication.find.Goals as goal

pub returns-in-Ok : goal.returns-in-Ok
returns-in-Ok c =
    let t = searched_by (λ (r : OwnerRow). r.at) section_cmp section_cmp_total section_cmp_tells c.args.rows.now c.args.s (Ok c.in-Ok.i) c.requires c.in-Ok.ensures.bound
    (c.in-Ok.ensures.position (λ r. section_cmp r.at c.args.s) (always_returns_same _ _ _ (λ a r f k. search rules))) in
    sym (found_at c.args.rows.now c.args.s c.in-Ok.i _ c.requires t.0 t.1)

pub returns-in-Err : goal.returns-in-Err
returns-in-Err c =
    let t = searched_by (λ (r : OwnerRow). r.at) section_cmp section_cmp_total section_cmp_tells c.args.rows.now c.args.s (Err c.in-Err.field-0) c.requires c.in-Err.ensures.bound
    (c.in-Err.ensures.position (λ r. section_cmp r.at c.args.s) (always_returns_same _ _ _ (λ a r f k. search rules))) in
    sym (found_none c.args.rows.now c.args.s c.in-Err.field-0 t.1)
