use Rattle.std.proofs.Common.{ap}
use Rattle.std.specs.Prelude.{is_some}
use Rattle.fol_sections.specs.Pages.{place_of}
use Rattle.fol_sections.proofs.PageSteps.{in_blank}
use Rattle.fol_sections.proofs.pages.empty_page.Goals as goal

pub returns : goal.returns
returns c = rw c.absent.ensures (λ q. ap is_some (in_blank 32 (place_of q)))
