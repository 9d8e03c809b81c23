-- What the calls of a region table answer.
use Rattle.std.specs.Prelude.{ℕ, ◌<◌, ◌&&◌, nat_eq, nat_lt, if◌then◌else◌, Option, Some, None}
use Rattle.fol_model.specs.declared.places.ChunkPos.{ChunkPos}
use Rattle.fol_model.specs.declared.regions.State.{State}
use Rattle.fol_model.specs.declared.regions.State.TheVariants.{Ready}
use Rattle.fol_model.specs.GridState.{GridState, is_ready, present_count, with_state}
use Rattle.fol_model.specs.Add.{is_full, wanted}
use Rattle.fol_model.specs.Begin.{begin}
use Rattle.fol_regions.specs.declared.answers.AddAnswer.{AddAnswer}
use Rattle.fol_regions.specs.declared.answers.AddAnswer.TheVariants.{Counted, Changed, Full}
use Rattle.fol_sections.specs.declared.answers.Removed.{Removed}
use Rattle.fol_sections.specs.declared.answers.Removed.TheVariants.{Gone, Lowered, NotLoaded}
use Rattle.fol_regions.specs.declared.answers.Begun.{Begun}
use Rattle.fol_regions.specs.declared.answers.Begun.TheVariants as begins

-- the answer to an added hold of a chunk
abbrev pub add_answer : GridState → ChunkPos → AddAnswer
add_answer g c = if is_full g c then Full (present_count g) (wanted g c) else (if nat_eq (wanted g c) 0 then Counted else Changed)

-- the answer to a removed hold of a chunk
abbrev pub remove_answer : GridState → ChunkPos → Removed
remove_answer g c = if nat_eq (g.holds c) 0 then NotLoaded else (if nat_eq (g.holds c) 1 then Gone else Lowered)

abbrev pub begin_answer : GridState → ℕ → Begun
begin_answer g r = if is_ready (g.state r) then begins.Begun else begins.NotReady (g.state r)

-- a region that is not Ready stays as it is
abbrev pub begun_state : GridState → ℕ → GridState
begun_state g r = if is_ready (g.state r) then begin g r else g

-- a region that ticks is Ready again
unfoldable pub unbegun : GridState → ℕ → GridState
unbegun g r = record g { state = with_state g.state r Ready }

-- the id was given out to a region
pub record IsGiven (g : GridState) (id : ℕ) : Type 0 where
  pub above : 0 < id
  pub below : id < g.next

-- nothing for 0
abbrev pub some_id : ℕ → Option ℕ
some_id r = if nat_lt 0 r then Some r else None

-- the state of an id that was given out
abbrev pub state_answer : GridState → ℕ → Option State
state_answer g id = if (nat_lt 0 id && nat_lt id g.next) then Some (g.state id) else None
