-- Why a visit tells where its entities are in the world.
use Rattle.std.specs.Prelude.{ℕ, ◌≡◌, if◌then◌else◌, List, None}
use Rattle.std.specs.Option.{option_map}
use Rattle.fol_model.specs.declared.tasks.Ran.{Ran}
use Rattle.fol_model.specs.GridNumbers.{IsGrid}
use Rattle.fol_model.specs.ActionStep.{Standing}
use Rattle.fol_model.specs.World.{World}
use Rattle.fol_model.specs.End.{ticked}
use Rattle.fol_model.specs.Run.{Run}
use Rattle.fol_laws.specs.Contents.{seen}
use Rattle.fol_laws.specs.Ownership.{WhileTicking}
use Rattle.fol_chunks.specs.Contents.{within}
use Rattle.fol_data.specs.declared.tick.Tick.{Tick}
use Rattle.fol_core.specs.Meaning.{Meaning, world_of}
use Rattle.fol_core.specs.Ticks.{IsOut}
use Rattle.fol_follow.specs.declared.entries.EntityAt.{EntityAt}
use Rattle.fol_follow.specs.Here.{AreHere, is_known, place_in}

-- the tick of r leaves the same entities in its recorded chunks, each where it leaves it, on the flat world of w as on that of v
abbrev pub SameEntities : List Ran → ℕ → World → World → Type 0
SameEntities ran r w v = (id : ℕ) → seen (w.recorded r) ((ticked w r ran).flat.standing id) ≡ seen (w.recorded r) ((ticked v r ran).flat.standing id)

-- from the Begin of a tick to its End
abbrev pub TickKeepsItsEntities : Type 0
TickKeepsItsEntities = (ran : List Ran) → WhileTicking (SameEntities ran)

-- the entities that a visit of a tick has, which is out in the history, are those that its End leaves in the recorded chunks: the flat world after the End's
-- first step has them there
abbrev pub AreLeftByTheEnd : Meaning → Tick → List EntityAt → Type 0
AreLeftByTheEnd m tick here = (id : ℕ) → place_in here id
    ≡ (if is_known m.opening id then option_map (λ (s : Standing). s.at) ((within ((world_of m).recorded tick.region) (ticked (world_of m) tick.region tick.log.ran).flat).standing id) else None)

abbrev pub VisitTellsTheEnd : Type 0
VisitTellsTheEnd = (m : Meaning) (tick : Tick) (here : List EntityAt) → IsGrid m.opening.grid → Run m.opening m.history → IsOut m tick → AreHere m.opening tick here
    → AreLeftByTheEnd m tick here
