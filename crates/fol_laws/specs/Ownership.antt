-- What a region keeps to itself from the Begin of its tick to the End.
use Rattle.std.specs.Prelude.{ℕ, ◌≡◌, ◌≤◌, true, List, ◌∷◌, ◌++◌}
use Rattle.fol_model.specs.declared.places.ChunkPos.{ChunkPos}
use Rattle.fol_model.specs.declared.places.SectionPos.{SectionPos}
use Rattle.fol_model.specs.declared.regions.State.TheVariants.{Ticking}
use Rattle.fol_model.specs.declared.events.Entry.{Entry}
use Rattle.fol_model.specs.declared.openings.Opening.{Opening}
use Rattle.fol_model.specs.Geometry.{distance, section_of}
use Rattle.fol_model.specs.GridNumbers.{IsGrid}
use Rattle.fol_model.specs.OpenTick.{is_begin, NoEnd}
use Rattle.fol_model.specs.World.{World, due}
use Rattle.fol_model.specs.Run.{Run, world, after, after_all}
use Rattle.fol_laws.specs.Contents.{SameOn}
use Rattle.fol_laws.specs.Steps.{SameSections}

-- a Ticking region has the margin of its recorded chunks
abbrev pub RecordedHasMargin : World → Type 0
RecordedHasMargin w = (r : ℕ) (c : ChunkPos) (s : SectionPos) → w.grid.state r ≡ Ticking → w.recorded r c ≡ true
    → distance (section_of w.grid.grid c) s ≤ w.grid.grid.create → w.grid.owner s ≡ r

-- from w to v region r goes on ticking for its worker, with its sections, recorded chunks, due tasks and counter, and nothing in its
-- recorded chunks changes
pub record Untouched (r : ℕ) (w v : World) : Type 0 where
  pub ticks : v.grid.state r ≡ Ticking
  pub worker : v.worker r ≡ w.worker r
  pub sections : SameSections w.grid v.grid r
  pub recorded : v.recorded r ≡ w.recorded r
  pub due : due v r ≡ due w r
  pub tick : v.tick r ≡ w.tick r
  pub flat : SameOn (w.recorded r) w.flat v.flat

-- e is a Begin of r after es, and none of the entries after it is an End of r: P holds of the world after e and of the world after those
abbrev pub WhileTicking : (ℕ → World → World → Type 0) → Type 0
WhileTicking P = (o : Opening) (es mid rest : List Entry) (e : Entry) (r : ℕ) → IsGrid o.grid → is_begin r e.event ≡ true → NoEnd r mid
    → Run o (es ++ e ∷ (mid ++ rest)) → P r (after (world o es) e.event) (after_all (after (world o es) e.event) mid)

abbrev pub TickingKeepsItsOwn : Type 0
TickingKeepsItsOwn = WhileTicking Untouched
