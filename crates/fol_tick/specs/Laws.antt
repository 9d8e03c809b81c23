-- What any list of calls on one tick comes to.
use Rattle.std.specs.Prelude.{◌≡◌, ◌≤◌, List, [], ◌++◌, false, length}
use Rattle.fol_model.specs.FlatTick.{flat_tick, Rising}
use Rattle.fol_chunks.specs.Contents.{flat_of, is_recorded}
use Rattle.fol_data.specs.declared.tick.Tick.{Tick}
use Rattle.fol_tick.specs.Calls.{HostCall, given}
use Rattle.fol_tick.specs.Runs.{stage_of, Runs, Finishes}

-- a tick that is not finished has run nothing beyond itself
abbrev pub NothingRuns : Type 0
NothingRuns = (t : Tick) → t.moved ≡ false → t.next ≤ length t.due → Runs t t []

-- a run behind a run is one run, with the calls of both
abbrev pub RunsFollow : Type 0
RunsFollow = (a b c : Tick) (xs ys : List HostCall) → Rising a.due → Runs a b xs → Runs b c ys → Runs a c (xs ++ ys)

-- and the end of a tick behind a run is that of the tick as it was before the run
abbrev pub EndFollows : Type 0
EndFollows = (a b c : Tick) (xs ys : List HostCall) → Rising a.due → Runs a b xs → Finishes b c ys → Finishes a c (xs ++ ys)

-- a tick that had run nothing ends as the flat tick, with the outcomes by the answers to all calls
abbrev pub EndIsFlatTick : Type 0
EndIsFlatTick = (start end : Tick) (calls : List HostCall) → start.next ≡ 0 → start.log.ran ≡ [] → start.log.wishes ≡ [] → Finishes start end calls
    → stage_of end ≡ flat_tick (is_recorded start.chunks) (given start.due calls) start.due (flat_of start.body.chunks)
