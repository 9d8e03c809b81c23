use Rattle.std.proofs.Common.{◌≡◌, ℕ, sym, ◌∙◌, ap, arith, cond, false}
use Rattle.std.specs.Prelude.{nat_eq, is_some}
use Rattle.std.specs.List.{list_any}
use Rattle.std.specs.Option.{option_copied_mut}
use Rattle.std.proofs.lemmas.Result.{IfOk-at_ok}
use Rattle.fol_pages.specs.Pages.{has_page, is_same, page_at, place_of}
use Rattle.fol_region_tables.specs.Owners.{owner_on}
use Rattle.fol_pages.proofs.PageChanges.{pages-more}
use Rattle.fol_region_tables.proofs.PageOwners.{owners-written}
use Rattle.fol_region_tables.proofs.Results.{ok_value}
use Rattle.fol_region_tables.proofs.pages.give_stretch.Goals as goal

pub returns-in-Some-clause-owner : goal.returns-in-Some-clause-owner
unfolding page_at is_same
returns-in-Some-clause-owner c =
    let was = ap option_copied_mut (sym c.in-Some.is) ∙ c.get_mut.ensures.value in
    let w = c.get_mut.follows.holds c.write_on.new.page in
    let updates = w.updates (ap is_some (sym was)) in
    owners-written c.args.pages.now.entries _ c.args.key.0 c.args.key.1 c.write_on.new.page updates c.args.sections.now c.args.id c.requires.page
    (λ q. c.write_on.ensures (place_of q) ∙ ap (λ o. cond (list_any (λ s. nat_eq (place_of s) (place_of q)) c.args.sections.now) c.args.id (owner_on o q)) was)

pub returns-in-Some-clause-pages : goal.returns-in-Some-clause-pages
unfolding page_at is_same
returns-in-Some-clause-pages c =
    let was = ap option_copied_mut (sym c.in-Some.is) ∙ c.get_mut.ensures.value in
    let w = c.get_mut.follows.holds c.write_on.new.page in
    let updates = w.updates (ap is_some (sym was)) in
    pages-more c.args.pages.now.entries _ c.args.key.0 c.args.key.1 c.write_on.new.page updates

pub returns-in-None-clause-owner : goal.returns-in-None-clause-owner
unfolding page_at is_same has_page
returns-in-None-clause-owner c =
    let none = ap option_copied_mut (sym c.in-None.is) ∙ c.get_mut.ensures.value in
    let same = c.get_mut.follows.holds-at-none in
    let r = ok_value c.insert.result (c.insert.ensures.succeeds (rw same (c.requires.room (ap is_some (sym none))))) in
    let updates = rw same at (IfOk-at_ok _ r.1 c.insert.ensures.updates) in
    owners-written c.args.pages.now.entries _ c.args.key.0 c.args.key.1 c.page_with.result updates c.args.sections.now c.args.id c.requires.page
    (λ q. c.page_with.ensures (place_of q) ∙ ap (λ o. cond (list_any (λ s. nat_eq (place_of s) (place_of q)) c.args.sections.now) c.args.id (owner_on o q)) none)

pub returns-in-None-clause-pages : goal.returns-in-None-clause-pages
unfolding page_at is_same has_page
returns-in-None-clause-pages c =
    let none = ap option_copied_mut (sym c.in-None.is) ∙ c.get_mut.ensures.value in
    let same = c.get_mut.follows.holds-at-none in
    let r = ok_value c.insert.result (c.insert.ensures.succeeds (rw same (c.requires.room (ap is_some (sym none))))) in
    let updates = rw same at (IfOk-at_ok _ r.1 c.insert.ensures.updates) in
    pages-more c.args.pages.now.entries _ c.args.key.0 c.args.key.1 c.page_with.result updates

pub returns-in-None-clause-room : goal.returns-in-None-clause-room
unfolding page_at has_page
returns-in-None-clause-room c =
    let none = ap option_copied_mut (sym c.in-None.is) ∙ c.get_mut.ensures.value in
    let absent : has_page c.args.pages.now.entries c.args.key.0 c.args.key.1 ≡ false = ap is_some (sym none) in
    let spare = rw c.get_mut.follows.holds-at-none at c.insert.ensures.spare in
    omega (arith, spare, ap (λ b. cond {A = ℕ} b 0 1) absent)
