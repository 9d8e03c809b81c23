-- Which rows the lines of a report may tell: each number in its type, each place within the limits.
use Rattle.std.specs.Prelude.{◌≡◌, ℕ, ◌≤◌, ◌⊎◌, ℤ, pos, negsuc, ◌≤ℤ◌, true, List, [], ◌∷◌, codes, decimal}
use Rattle.fol_model.specs.declared.regions.State.{State}
use Rattle.fol_model.specs.declared.regions.State.TheVariants.{Dead}
use Rattle.fol_model.specs.declared.actions.Action.{Action}
use Rattle.fol_model.specs.declared.actions.Action.TheVariants.{Arrive}
use Rattle.fol_model.specs.declared.entities.Place.{Place}
use Rattle.fol_model.specs.declared.entities.Place.TheVariants.{At, Transit}
use Rattle.fol_model.specs.declared.openings.BlockAt.{BlockAt}
use Rattle.fol_model.specs.declared.events.Entry.{Entry}
use Rattle.fol_model.specs.declared.closings.RegionRow.{RegionRow}
use Rattle.fol_model.specs.declared.closings.OwnerRow.{OwnerRow}
use Rattle.fol_model.specs.declared.closings.TaskRow.{TaskRow}
use Rattle.fol_model.specs.declared.closings.EntityRow.{EntityRow}
use Rattle.fol_model.specs.declared.entities.Entity.{Entity}
use Rattle.fol_model.specs.ReportWords.{block_words}
use Rattle.fol_model.specs.Geometry.{is_block, is_chunk}
use Rattle.fol_model.specs.LineWords.{Word}
use Rattle.fol_events.specs.InRange.{InRange, Is32, Is64}
use Rattle.fol_events.specs.Postable.{IsPostable}

abbrev pub EntryInRange : Entry → Type 0
EntryInRange e = InRange e.event

-- no row is of a Dead region
abbrev pub StateInRange : State → Type 0
StateInRange Dead = ⊥
StateInRange _ = Unit {0}

pub record RegionInRange (r : RegionRow) : Type 0 where
  pub id : Is64 r.id
  pub state : StateInRange r.state
  pub tick : Is64 r.tick
  pub owed : Is32 r.owed
  pub sections : Is32 r.sections
  pub chunks : Is32 r.chunks

-- a coordinate of a section
abbrev pub IsSectionSide : ℤ → Type 0
IsSectionSide z = (negsuc 1000007 ≤ℤ z) × (z ≤ℤ pos 1000008)

abbrev pub OwnerInRange : OwnerRow → Type 0
OwnerInRange r = IsSectionSide r.at.x × IsSectionSide r.at.z × Is64 r.region

-- an arrival within the limits
pub record IsArrival (a : Action) : Type 0 where
  pub entity : Entity
  pub id : Is32 entity.id
  pub at : is_block entity.at ≡ true
  pub action_is : a ≡ Arrive entity

-- what may be asked for, or an arrival
abbrev pub QueuedInRange : Action → Type 0
QueuedInRange a = IsPostable a ⊎ IsArrival a

-- its words
abbrev pub arrival_words : Entity → List Word
arrival_words e = codes "arrive" ∷ decimal e.id ∷ block_words e.at

pub record TaskInRange (r : TaskRow) : Type 0 where
  pub number : Is64 r.task.number
  pub chunk : is_chunk r.task.chunk ≡ true
  pub rest : Is32 r.rest
  pub action : QueuedInRange r.task.action

abbrev pub PlaceInRange : Place → Type 0
PlaceInRange (At b) = is_block b ≡ true
PlaceInRange (Transit number) = Is64 number

abbrev pub EntityInRange : EntityRow → Type 0
EntityInRange r = Is32 r.id × PlaceInRange r.place

-- a number above 0
abbrev pub BlockInRange : BlockAt → Type 0
BlockInRange b = (is_block b.at ≡ true) × (1 ≤ b.id) × (b.id ≤ 65535)

-- the words behind the counter of a region
abbrev pub sizes_words : ℕ → ℕ → ℕ → List Word
sizes_words owed sections chunks = codes "owed" ∷ decimal owed ∷ codes "sections" ∷ decimal sections ∷ codes "chunks" ∷ decimal chunks ∷ []
