use Rattle.std.proofs.Common.{sym, ◌∙◌, ap, cond}
use Rattle.std.specs.Prelude.{nat_eq, is_some}
use Rattle.std.specs.List.{list_any}
use Rattle.std.specs.Option.{option_copied_mut}
use Rattle.fol_pages.specs.Pages.{is_same, page_at, place_of}
use Rattle.fol_region_tables.specs.Owners.{owner_on}
use Rattle.fol_region_tables.proofs.PageOwners.{none_taken, owners-written}
use Rattle.fol_region_tables.proofs.pages.take_stretch.Goals as goal

pub returns-in-Some-clause-owner : goal.returns-in-Some-clause-owner
unfolding page_at is_same
returns-in-Some-clause-owner c =
    let was = ap option_copied_mut (sym c.in-Some.is) ∙ c.get_mut.ensures.value in
    let w = c.get_mut.follows.holds c.write_on.new.page in
    let updates = w.updates (ap is_some (sym was)) in
    owners-written c.args.pages.now.entries _ c.args.key.0 c.args.key.1 c.write_on.new.page updates c.args.sections.now 0 c.requires
    (λ q. c.write_on.ensures (place_of q) ∙ ap (λ o. cond (list_any (λ s. nat_eq (place_of s) (place_of q)) c.args.sections.now) 0 (owner_on o q)) was)

pub returns-in-None-clause-owner : goal.returns-in-None-clause-owner
unfolding page_at
returns-in-None-clause-owner c =
    let none = ap option_copied_mut (sym c.in-None.is) ∙ c.get_mut.ensures.value in
    rw c.get_mut.follows.holds-at-none (none_taken c.args.pages.now.entries c.args.key.0 c.args.key.1 c.args.sections.now c.requires (sym none))
