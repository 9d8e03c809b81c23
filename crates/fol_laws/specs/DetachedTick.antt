-- A tick that is computed apart from the world, from its Begin on, is the tick at its End.
use Rattle.std.specs.Prelude.{ℕ, ◌≡◌, false, List, [], ◌∷◌}
use Rattle.fol_model.specs.declared.places.BlockPos.{BlockPos}
use Rattle.fol_model.specs.declared.tasks.Ran.{Ran}
use Rattle.fol_model.specs.declared.tasks.Outcome.{Outcome}
use Rattle.fol_model.specs.declared.tasks.Task.{Task}
use Rattle.fol_model.specs.Geometry.{chunk_of}
use Rattle.fol_model.specs.ActionStep.{Flat, Recorded, stands, plain_of}
use Rattle.fol_model.specs.FlatTick.{flat_tick}
use Rattle.fol_model.specs.Outputs.{is_arrival_of}
use Rattle.fol_model.specs.World.{World}
use Rattle.fol_model.specs.End.{ticked}
use Rattle.fol_laws.specs.Contents.{SameOn}
use Rattle.fol_laws.specs.Ownership.{WhileTicking}

-- the tick on f and the tick on h are one for the region that ticks
pub record SameTick (rec : Recorded) (given : ℕ → Outcome) (ts : List Task) (f h : Flat) : Type 0 where
  pub ran : (flat_tick rec given ts f).ran ≡ (flat_tick rec given ts h).ran
  pub wishes : (flat_tick rec given ts f).wishes ≡ (flat_tick rec given ts h).wishes
  pub flat : SameOn rec (flat_tick rec given ts f).flat (flat_tick rec given ts h).flat

-- a tick reads its recorded chunks alone
abbrev pub TickReadsItsChunks : Type 0
TickReadsItsChunks = (rec : Recorded) (given : ℕ → Outcome) (ts : List Task) (f h : Flat) → SameOn rec f h → SameTick rec given ts f h

-- the tick of r on the world w, with the outcomes of `ran` for loads and unloads, is the tick on the world v
pub record DetachedTick (ran : List Ran) (r : ℕ) (w v : World) : Type 0 where
  pub outcomes : (ticked w r ran).ran ≡ (ticked v r ran).ran
  pub wishes : (ticked w r ran).wishes ≡ (ticked v r ran).wishes
  pub flat : SameOn (w.recorded r) (ticked w r ran).flat (ticked v r ran).flat

abbrev pub TickIsDetached : Type 0
TickIsDetached = (ran : List Ran) → WhileTicking (DetachedTick ran)

-- no task of the list brings the entity
abbrev pub NoneBrings : ℕ → List Task → Type 0
NoneBrings id [] = Unit {0}
NoneBrings id (t ∷ ts) = (is_arrival_of id (plain_of t.action) ≡ false) × NoneBrings id ts

-- a tick changes only blocks of recorded chunks, and entities that stand there or arrive
pub record OnlyRecorded (rec : Recorded) (given : ℕ → Outcome) (ts : List Task) (f : Flat) : Type 0 where
  pub blocks : (b : BlockPos) → rec (chunk_of b) ≡ false → (flat_tick rec given ts f).flat.blocks b ≡ f.blocks b
  pub standing : (id : ℕ) → stands rec (f.standing id) ≡ false → NoneBrings id ts → (flat_tick rec given ts f).flat.standing id ≡ f.standing id

abbrev pub TickChangesItsChunks : Type 0
TickChangesItsChunks = (rec : Recorded) (given : ℕ → Outcome) (ts : List Task) (f : Flat) → OnlyRecorded rec given ts f
