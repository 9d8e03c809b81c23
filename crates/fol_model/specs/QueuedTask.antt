-- The queued tasks of a region, and the begin of its tick: they count down, and those at 0 are taken.
use Rattle.std.specs.Prelude.{ℕ, ◌-◌, Bool, ◌&&◌, nat_eq, nat_le, if◌then◌else◌, Option, Some, None}
use Rattle.fol_model.specs.Geometry.{section_of}
use Rattle.fol_model.specs.GridState.{GridState, is_loaded}
use Rattle.fol_model.specs.Begin.{begin}
use Rattle.fol_model.specs.ActionStep.{at_id}
use Rattle.fol_model.specs.World.{World}
use Rattle.fol_model.specs.Job.{Job}

-- the task is queued on a chunk of r's sections
abbrev pub is_queued_in : GridState → ℕ → Job → Bool
is_queued_in g r j = nat_eq j.taker 0 && nat_eq (g.owner (section_of g.grid j.chunk)) r

-- the task, where it is queued on a chunk of r's sections
unfoldable pub queued_in : GridState → ℕ → Option Job → Option Job
queued_in g r None = None
queued_in g r (Some j) = if is_queued_in g r j then Some j else None

-- a task at the begin of a tick of r: where its chunk's section is r's the rest falls by one, and at 0 the tick takes it
abbrev pub counted_down : GridState → ℕ → Option Job → Option Job
counted_down g r None = None
counted_down g r (Some j) =
    if is_queued_in g r j
    then Some (record j { rest = j.rest - 1; taker = if nat_le j.rest 1 then r else 0 })
    else Some j

unfoldable pub begun : World → ℕ → ℕ → World
begun w worker r = record w {
  grid = begin w.grid r;
  jobs = λ n. counted_down w.grid r (w.jobs n);
  worker = at_id w.worker r worker;
  recorded = at_id w.recorded r (λ c. is_loaded w.grid c && nat_eq (w.grid.owner (section_of w.grid.grid c)) r);
  owed = at_id w.owed r (w.owed r - 1);
}
