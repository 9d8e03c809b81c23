-- What each step of the grid keeps.
use Rattle.std.specs.Prelude.{ℕ, ◌≡◌, ◌≢◌, ◌↔◌, IsTrue}
use Rattle.fol_model.specs.declared.grids.Grid.{Grid}
use Rattle.fol_model.specs.declared.places.ChunkPos.{ChunkPos}
use Rattle.fol_model.specs.declared.places.SectionPos.{SectionPos}
use Rattle.fol_model.specs.declared.regions.State.TheVariants.{Ready, Ticking}
use Rattle.fol_model.specs.Geometry.{is_chunk}
use Rattle.fol_model.specs.GridNumbers.{IsGrid}
use Rattle.fol_model.specs.GridState.{GridState, empty}
use Rattle.fol_model.specs.Add.{add}
use Rattle.fol_model.specs.Drop.{drop_hold}
use Rattle.fol_model.specs.Begin.{begin}
use Rattle.fol_model.specs.Release.{release}
use Rattle.fol_model.specs.Rules.{Rules}

-- the grid with no section keeps the rules
abbrev pub EmptyHasRules : Type 0
EmptyHasRules = (grid : Grid) → Rules (empty grid)

abbrev pub AddKeepsRules : Type 0
AddKeepsRules = (g : GridState) (c : ChunkPos) → Rules g → IsGrid g.grid → IsTrue (is_chunk c) → Rules (add g c)

abbrev pub DropKeepsRules : Type 0
DropKeepsRules = (g : GridState) (c : ChunkPos) → Rules g → Rules (drop_hold g c)

abbrev pub BeginKeepsRules : Type 0
BeginKeepsRules = (g : GridState) (r : ℕ) → Rules g → g.state r ≡ Ready → Rules (begin g r)

abbrev pub ReleaseKeepsRules : Type 0
ReleaseKeepsRules = (g : GridState) (t : ℕ) → Rules g → IsGrid g.grid → g.state t ≡ Ticking → Rules (release g t)

-- the two states agree on which sections are r's
abbrev pub SameSections : GridState → GridState → ℕ → Type 0
SameSections g h r = (s : SectionPos) → (g.owner s ≡ r) ↔ (h.owner s ≡ r)

-- a Ticking region gains and loses no section at an Add
abbrev pub AddKeepsTickingSections : Type 0
AddKeepsTickingSections = (g : GridState) (c : ChunkPos) → Rules g → IsGrid g.grid → IsTrue (is_chunk c)
    → (r : ℕ) → g.state r ≡ Ticking → SameSections g (add g c) r

-- nor at the Release of another region
abbrev pub ReleaseKeepsTickingSections : Type 0
ReleaseKeepsTickingSections = (g : GridState) (t : ℕ) → Rules g → IsGrid g.grid → g.state t ≡ Ticking
    → (r : ℕ) → g.state r ≡ Ticking → r ≢ t → SameSections g (release g t) r
