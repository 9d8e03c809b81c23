use Rattle.std.proofs.Common.{◌∙◌, ap, cond}
use Rattle.std.specs.Prelude.{nat_eq}
use Rattle.std.specs.List.{list_any}
use Rattle.fol_pages.specs.Pages.{place_of}
use Rattle.fol_region_tables.proofs.PageOwners.{in_blank}
use Rattle.fol_region_tables.proofs.pages.page_with.Goals as goal

pub returns : goal.returns
returns c = λ k. c.write_on.ensures k ∙ ap (cond (list_any (λ s. nat_eq (place_of s) k) c.args.sections.now) c.args.id) (in_blank 32 k)
