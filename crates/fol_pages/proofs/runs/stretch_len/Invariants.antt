use Rattle.std.proofs.Common.{◌≡◌, true, take}
use Rattle.fol_model.specs.declared.places.SectionPos.{SectionPos}
use Rattle.fol_model.specs.Geometry.{is_among}
use Rattle.fol_pages.specs.Pages.{page_of}
use Rattle.fol_pages.proofs.runs.stretch_len.Given as goal

abbrev pub invariant-loop-i : goal.invariant-loop-i
invariant-loop-i l = (s : SectionPos) → is_among (take l.i l.sections) s ≡ true → (page_of s.x ≡ l.page.0) × (s.z ≡ l.page.1)
