-- What follows from the rules of the grid.
use Rattle.std.specs.Prelude.{ℕ, ◌≡◌, ◌≢◌, ◌≤◌, ◌<◌, ◌||◌}
use Rattle.fol_model.specs.declared.places.ChunkPos.{ChunkPos}
use Rattle.fol_model.specs.declared.places.SectionPos.{SectionPos}
use Rattle.fol_model.specs.declared.regions.State.TheVariants.{Transient, Ready, Ticking}
use Rattle.fol_model.specs.Counting.{count_below}
use Rattle.fol_model.specs.Geometry.{distance, section_of}
use Rattle.fol_model.specs.GridNumbers.{IsGrid}
use Rattle.fol_model.specs.GridState.{GridState, is_ready, is_ticking}
use Rattle.fol_model.specs.Rules.{Rules}

-- a Ready region has each section within the create radius of its loaded chunks
abbrev pub ReadyHasMargin : GridState → Type 0
ReadyHasMargin g = (c : ChunkPos) (s : SectionPos) → 0 < g.holds c → g.state (g.owner (section_of g.grid c)) ≡ Ready
    → distance (section_of g.grid c) s ≤ g.grid.create → g.owner s ≡ g.owner (section_of g.grid c)

-- two Ticking regions have no sections within the merge radius of each other
abbrev pub TickingApart : GridState → Type 0
TickingApart g = (a b : SectionPos) → 0 < g.owner a → 0 < g.owner b → g.state (g.owner a) ≡ Ticking → g.state (g.owner b) ≡ Ticking
    → g.owner a ≢ g.owner b → g.grid.merge < distance a b

-- where no region is Ticking, none is Transient
abbrev pub NoneWaits : GridState → Type 0
NoneWaits g = ((r : ℕ) → g.state r ≢ Ticking) → (r : ℕ) → g.state r ≢ Transient

-- at most 1,820 regions are Ready or Ticking
abbrev pub FewLive : GridState → Type 0
FewLive g = count_below (λ r. is_ready (g.state r) || is_ticking (g.state r)) g.next ≤ 1820

abbrev pub RulesGiveMargin : Type 0
RulesGiveMargin = (g : GridState) → Rules g → IsGrid g.grid → ReadyHasMargin g

abbrev pub RulesKeepTickingApart : Type 0
RulesKeepTickingApart = (g : GridState) → Rules g → TickingApart g

abbrev pub RulesLetNoneWaitAlone : Type 0
RulesLetNoneWaitAlone = (g : GridState) → Rules g → NoneWaits g

abbrev pub RulesKeepLiveFew : Type 0
RulesKeepLiveFew = (g : GridState) → Rules g → FewLive g
