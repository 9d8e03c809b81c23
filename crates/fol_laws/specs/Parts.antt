-- The parts into which a region falls at a release.
use Rattle.std.specs.Prelude.{ℕ, ◌≡◌, ◌↔◌, IsTrue, List, [], ◌∷◌}
use Rattle.fol_model.specs.declared.places.SectionPos.{SectionPos}
use Rattle.fol_model.specs.declared.regions.State.TheVariants.{Ticking}
use Rattle.fol_model.specs.GridState.{GridState}
use Rattle.fol_model.specs.Release.{remains, is_beside, part_of}
use Rattle.fol_model.specs.Rules.{Rules}

-- from a by the sections of the list to b: each one stays, and is within the merge radius of the next
abbrev pub IsPath : GridState → ℕ → SectionPos → List SectionPos → SectionPos → Type 0
IsPath g t a [] b = a ≡ b
IsPath g t a (m ∷ ms) b = IsTrue (is_beside g t a m) × IsPath g t m ms b

-- two sections that stay are in one part exactly where a list of sections leads from one to the other
abbrev pub PartsAreClasses : GridState → ℕ → Type 0
PartsAreClasses g t = (a b : SectionPos) → IsTrue (remains g t a) → IsTrue (remains g t b)
    → (part_of g t a ≡ part_of g t b) ↔ ((ms : List SectionPos) × IsPath g t a ms b)

abbrev pub ReleaseSplitsByPaths : Type 0
ReleaseSplitsByPaths = (g : GridState) (t : ℕ) → Rules g → g.state t ≡ Ticking → PartsAreClasses g t
