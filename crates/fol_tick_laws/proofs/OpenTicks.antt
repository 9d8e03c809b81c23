-- What open ticks may do, and what leaves them open.
use Rattle.std.proofs.Common.{◌≡◌, ℕ, refl, ◌∙◌, ap, sym, arith, true, false, inl, inr, List, [], ◌∷◌, ◌++◌, append_assoc, length}
use Rattle.std.specs.Prelude.{◌&&◌, Option, None, is_some, nat_lt, Result, Ok, Err, IfOk, OnErr}
use Rattle.std.proofs.lemmas.Bool.{and_parts, cases_Bool, ltb-true, ne_eqb, or_parts}
use Rattle.std.proofs.lemmas.List.{append-nil}
use Rattle.fol_model.specs.declared.places.ChunkPos.{ChunkPos}
use Rattle.fol_model.specs.declared.actions.Action.{Action}
use Rattle.fol_model.specs.declared.regions.State.{State}
use Rattle.fol_model.specs.declared.regions.State.TheVariants.{Ready, Ticking, Transient, Dead}
use Rattle.fol_model.specs.GridState.{is_ready}
use Rattle.fol_model.specs.declared.events.Entry.{Entry}
use Rattle.fol_model.specs.declared.events.Event.{Event}
use Rattle.fol_model.specs.declared.events.Event.TheVariants.{Begin}
use Rattle.fol_model.specs.declared.events.Loaded.{Loaded}
use Rattle.fol_model.specs.declared.events.Loaded.TheVariants as loads
use Rattle.fol_model.specs.GridNumbers.{IsGrid}
use Rattle.fol_model.specs.OpenTick.{NoEnd, is_end}
use Rattle.fol_model.specs.Job.{Job}
use Rattle.fol_model.specs.QueuedTask.{begun, queued_in}
use Rattle.fol_model.specs.Run.{Allowed, Run, after, after_all, world}
use Rattle.fol_model.specs.World.{World, due, start}
use Rattle.fol_laws.specs.LateBegin.{NoneTouches, is_stop, touches}
use Rattle.fol_laws.proofs.LongerRuns.{world_both}
use Rattle.fol_laws.proofs.TickingKept.{due_same}
use Rattle.fol_laws.proofs.WholeRuns.{Good, good_after, good_run}
use Rattle.fol_data.specs.declared.tick.Tick.{Tick}
use Rattle.fol_tick.specs.Calls.{HostCall}
use Rattle.fol_tick.specs.Runs.{Finishes, MayRun}
use Rattle.fol_core.specs.Ahead.{Learns}
use Rattle.fol_core.specs.Answers.{Begins, IsGiven, LoadRecords, PhaseRecords, PostRecords, is_over, is_owing, state_result}
use Rattle.fol_world.specs.AtEnd.{end_event}
use Rattle.fol_core.specs.Meaning.{Meaning, Records, Stays, world_of}
use Rattle.fol_core.specs.Ticks.{IsOut, IsTick, SameTick}
use Rattle.fol_core.specs.declared.answers.BeginAnswer.{BeginAnswer}
use Rattle.fol_core.specs.declared.answers.BeginAnswer.TheVariants.{Got, NotReady, NotOwing, Over}
use Rattle.fol_core.specs.declared.answers.Phase.{Phase}
use Rattle.fol_core.specs.declared.answers.Phase.TheVariants as phases
use Rattle.fol_core.specs.declared.answers.Posting.{Posting}
use Rattle.fol_core.specs.declared.answers.Posting.TheVariants as postings
use Rattle.fol_core.proofs.ReleaseKept.{out_same}
use Rattle.fol_tick_laws.specs.OpenTicks.{IsOpen, IsUntouched, KeepsOpen, KeepsOthers, KeepsUntouched}
use Rattle.fol_tick_laws.proofs.BegunTicks.{may_run}
use Rattle.fol_tick_laws.proofs.FinishedTicks.{out_since}

-- ---- what leaves open ticks open

no_end_more : (r : ℕ) (es : List Entry) (e : Entry) → NoEnd r es → is_end r e.event ≡ false → NoEnd r (es ++ e ∷ [])
no_end_more r [] e none other = (other, tt)
no_end_more r (x ∷ es) e none other = (none.0, no_end_more r es e none.1 other)

-- an entry more that is no End of the tick's region
pub open_more : (m n : Meaning) (by : ℕ) (event : Event) (t : Tick) → Records m n by event → is_end t.region event ≡ false → IsOpen m t → IsOpen n t
open_more m n by event t records other is =
    let e : Entry = record { by = by; event = event } in
    let b : Entry = record { by = is.made.by; event = Begin t.worker t.region } in
    record {
      made = record {
        before = is.made.before;
        between = is.made.between;
        since = is.made.since ++ e ∷ [];
        by = is.made.by;
        begin = records.history ∙ ap (λ h. h ++ e ∷ []) is.made.begin ∙ append_assoc (is.made.before ++ is.made.between) (b ∷ is.made.since) (e ∷ []);
        allowed = rw records.opening is.made.allowed;
        calm = rw records.opening is.made.calm;
        runs_on = no_end_more t.region is.made.since e is.made.runs_on other;
      };
      is = rw records.opening is.is;
    }

-- no entry more
pub open_same : (m n : Meaning) → n.opening ≡ m.opening → n.history ≡ m.history → KeepsOpen m n
open_same m n opening history t is = record {
  made = record {
    before = is.made.before;
    between = is.made.between;
    since = is.made.since;
    by = is.made.by;
    begin = history ∙ is.made.begin;
    allowed = rw opening is.made.allowed;
    calm = rw opening is.made.calm;
    runs_on = is.made.runs_on;
  };
  is = rw opening is.is;
}

pub open_loaded : (m n : Meaning) (k : ℕ) (c : ChunkPos) (a : Loaded) → LoadRecords m n k c a → KeepsOpen m n
open_loaded m n k c loads.Counted records t is = open_more m n k _ t records refl is
open_loaded m n k c (loads.Full present wanted) records t is = open_more m n k _ t records refl is
open_loaded m n k c loads.Over stays t is = open_same m n stays.opening stays.history t is

-- a post, whatever it comes to
pub open_posted : (m n : Meaning) (k : ℕ) (c : ChunkPos) (d : ℕ) (x : Action) (r : Result Posting Action) → IfOk r (λ a. PostRecords m n k c d x a)
    → OnErr r (Stays m n) → KeepsOpen m n
open_posted m n k c d x (Ok (postings.Posted number)) records stays t is = open_more m n k _ t records refl is
open_posted m n k c d x (Ok (postings.Full present wanted)) records stays t is = open_more m n k _ t records refl is
open_posted m n k c d x (Ok (postings.Over y)) records stays t is = open_same m n records.opening records.history t is
open_posted m n k c d x (Err back) records stays t is = open_same m n stays.opening stays.history t is

pub open_phased : (m n : Meaning) (k ticks : ℕ) (a : Phase) → PhaseRecords m n k ticks a → KeepsOpen m n
open_phased m n k ticks phases.Opened records t is = open_more m n k _ t records refl is
open_phased m n k ticks phases.InPhase stays t is = open_same m n stays.opening stays.history t is
open_phased m n k ticks phases.Over stays t is = open_same m n stays.opening stays.history t is

pub open_asked : (l m n : Meaning) (by k r : ℕ) (a : BeginAnswer) → Stays l m → Begins m n by k r a → KeepsOpen l n
open_asked l m n by k r (Got tick) same begins t is = open_more m n by _ t begins.3 refl (open_same l m same.opening same.history t is)
open_asked l m n by k r (NotReady state) same begins t is = open_same m n begins.3.opening begins.3.history t (open_same l m same.opening same.history t is)
open_asked l m n by k r NotOwing same begins t is = open_same m n begins.3.opening begins.3.history t (open_same l m same.opening same.history t is)
open_asked l m n by k r Over same begins t is = open_same m n begins.1.opening begins.1.history t (open_same l m same.opening same.history t is)

-- the End of a tick that has run
pub open_others : (m n : Meaning) (t u : Tick) (xs : List HostCall) → Finishes t u xs → Records m n u.worker (end_event (world_of m) u.worker u.region u.log.ran)
    → KeepsOthers m n t.region
open_others m n t u xs done records v other is =
    let own : Records m n u.worker (end_event (world_of m) u.worker t.region u.log.ran) = rw done.same.region at records in
    open_more m n u.worker (end_event (world_of m) u.worker t.region u.log.ran) v own (ne_eqb t.region v.region (λ same. other (sym same))) is

-- ---- a tick from its Begin to its End

ready_is : (s : State) → is_ready s ≡ true → s ≡ Ready
ready_is Ready h = refl
ready_is Ticking h = absurd (cc)
ready_is Transient h = absurd (cc)
ready_is Dead h = absurd (cc)

-- a region that owes a tick may begin it
pub may_begin : (w : World) (k r : ℕ) → is_owing w r ≡ true → is_over w ≡ false → Allowed w (Begin k r)
may_begin w k r owing on =
    let both = and_parts (is_ready (w.grid.state r)) (nat_lt 0 (w.owed r)) owing in
    let some = ltb-true 0 (w.owed r) both.1 in
    (ready_is (w.grid.state r) both.0, (omega arith), (or_parts w.finished w.stopped on).1)

-- a Begin opens its tick
pub opens : (m n : Meaning) (by k r : ℕ) (tick : Tick) → Begins m n by k r (Got tick) → IsOpen n tick
opens m n by k r tick begins =
    let given : IsTick (world_of m) (length m.history) k r tick = begins.2 in
    let worker = given.worker in
    let region = given.region in
    let own : IsTick (world_of m) (length m.history) tick.worker tick.region tick = record {
      worker = refl;
      region = refl;
      begun = given.begun;
      of = given.of;
      contents = given.contents;
      ran = given.ran;
      wishes = given.wishes;
      next = given.next;
      moved = given.moved;
    } in
    let e : Entry = record { by = by; event = Begin tick.worker tick.region } in
    let ended : n.history ≡ m.history ++ e ∷ [] = rw (worker, region) begins.3.history in
    record {
      made = record {
        before = m.history;
        between = [];
        since = [];
        by = by;
        begin = ended ∙ ap (λ h. h ++ e ∷ []) (sym (append-nil m.history));
        allowed = rw (begins.3.opening, region) (may_begin (world_of m) k r begins.1 begins.0);
        calm = tt;
        runs_on = tt;
      };
      is = rw begins.3.opening own;
    }

-- which tasks a Begin takes is the same for each worker
due_by_any : (w : World) (j k r : ℕ) → due (begun w j r) r ≡ due (begun w k r) r
unfolding begun
due_by_any w j k r = due_same r (begun w k r) (begun w j r) w.next_job (λ n. refl)

jobs_by_any : (w : World) (j k r : ℕ) → (begun w j r).jobs ≡ (begun w k r).jobs
unfolding begun
jobs_by_any w j k r = refl

-- the tick of a Begin is that of a Begin by another worker, but for its worker
is_of_other : (w : World) (place j k r : ℕ) (tick : Tick) → IsTick w place j r tick → IsTick w place k tick.region (record tick { worker = k })
is_of_other w place j k r tick is =
    record {
      worker = refl;
      region = refl;
      begun = is.begun;
      of = record {
        chunks = is.of.chunks;
        due = is.of.due ∙ due_by_any w tick.worker k tick.region;
        counter = is.of.counter;
        owed = is.of.owed;
        queued = is.of.queued ∙ ap (λ (f : ℕ → Option Job). λ n. queued_in w.grid tick.region (f n)) (jobs_by_any w tick.worker k tick.region);
      };
      contents = is.contents;
      ran = is.ran;
      wishes = is.wishes;
      next = is.next;
      moved = is.moved;
    }

-- the same by what the tick says itself of its place and its region
pub by_its_own : (w : World) (place k r : ℕ) (tick : Tick) → IsTick w place k r tick → IsTick w tick.begun k tick.region tick
by_its_own w place k r tick is = record {
  worker = is.worker;
  region = refl;
  begun = refl;
  of = is.of;
  contents = is.contents;
  ran = is.ran;
  wishes = is.wishes;
  next = is.next;
  moved = is.moved;
}

-- where the Begin of a tick that was made before it is learnt, the tick is open
pub learnt_opens : (made old new : Meaning) (by k r : ℕ) (tick : Tick) → IsTick (world_of made) (length made.history) 0 r tick → Allowed (world_of made) (Begin k r)
    → IsUntouched made old r → Learns old new by k r → IsOpen new (record tick { worker = k })
learnt_opens made old new by k r tick given may rests learns =
    let is = is_of_other (world_of made) (length made.history) 0 k r tick given in
    let region = given.region in
    let same : new.opening ≡ made.opening = learns.opening ∙ rests.opening in
    let e : Entry = record { by = by; event = Begin k r } in
    record {
      made = record {
        before = made.history;
        between = rests.between;
        since = [];
        by = by;
        begin = rw region (learns.history ∙ ap (λ h. h ++ e ∷ []) rests.history);
        allowed = rw (same, region) may;
        calm = rw (same, region) rests.calm;
        runs_on = tt;
      };
      is = rw same is;
    }

-- ---- what leaves a region untouched

-- an entry more
none_more : (w : World) (r : ℕ) (es : List Entry) (e : Entry) → NoneTouches w r es → touches (after_all w es) r e.event ≡ false → is_stop e.event ≡ false → NoneTouches w r (es ++ e ∷ [])
none_more w r [] e none calm goes = (calm, goes, tt)
none_more w r (x ∷ es) e none calm goes = (none.0, none.1, none_more (after w x.event) r es e none.2 calm goes)

pub untouched_more : (m n : Meaning) (by r : ℕ) (event : Event) → Records m n by event → touches (world_of m) r event ≡ false → is_stop event ≡ false → KeepsUntouched m n r
untouched_more m n by r event records calm goes made is =
    let e : Entry = record { by = by; event = event } in
    let now : world_of m ≡ after_all (world_of made) is.between = rw (is.opening, is.history) (world_both (start made.opening) made.history is.between) in
    record {
      opening = records.opening ∙ is.opening;
      between = is.between ++ e ∷ [];
      history = records.history ∙ ap (λ h. h ++ e ∷ []) is.history ∙ append_assoc made.history is.between (e ∷ []);
      calm = none_more (world_of made) r is.between e is.calm (rw (← now) calm) goes;
    }

-- nothing yet
pub untouched_here : (m : Meaning) (r : ℕ) → IsUntouched m m r
untouched_here m r = record { opening = refl; between = []; history = sym (append-nil m.history); calm = tt }

-- no entry more
pub untouched_same : (m n : Meaning) (r : ℕ) → n.opening ≡ m.opening → n.history ≡ m.history → KeepsUntouched m n r
untouched_same m n r opening history made is = record { opening = opening ∙ is.opening; between = is.between; history = history ∙ is.history; calm = is.calm }

-- an open tick may run
pub may_run_open : (m : Meaning) (t : Tick) → IsGrid m.opening.grid → Run m.opening m.history → IsOpen m t → MayRun t
may_run_open m t grid run is =
    let e : Entry = record { by = is.made.by; event = Begin t.worker t.region } in
    let rest = is.made.between ++ e ∷ is.made.since in
    let whole : Run m.opening (is.made.before ++ rest) = rw (is.made.begin, append_assoc) at run in
    let there : Good m.opening (world m.opening is.made.before) = good_run m.opening is.made.before rest grid whole in
    let behind : Good m.opening (begun (world m.opening is.made.before) t.worker t.region) = good_after m.opening (world m.opening is.made.before) (Begin t.worker t.region) there is.made.allowed in
    may_run m.opening (world m.opening is.made.before) t.worker t.region (length is.made.before) t behind is.is

-- and when it has run it is out
pub out_when_run : (m : Meaning) (t u : Tick) (xs : List HostCall) → IsOpen m t → Finishes t u xs → IsOut m u
out_when_run m t u xs is done =
    out_since m.opening is.made.before t.worker t.region t u xs is.is done m is.made.between is.made.since is.made.by refl is.made.begin is.made.allowed is.made.calm is.made.runs_on

-- a tick that is out stays so where nothing changes but the memory that was taken for its End
pub out_kept : (m n : Meaning) (t u : Tick) → Stays m n → SameTick t u → IsOut m t → IsOut n u
out_kept m n t u stays same out = let is = out_same m t u same out in record {
  made = record {
    before = is.made.before;
    between = is.made.between;
    since = is.made.since;
    by = is.made.by;
    begin = stays.history ∙ is.made.begin;
    allowed = rw stays.opening is.made.allowed;
    calm = rw stays.opening is.made.calm;
    runs_on = is.made.runs_on;
  };
  place = is.place;
  of = rw stays.opening is.of;
  given = is.given;
  run = rw stays.opening is.run;
}

-- and its End is the same
pub end_kept : (m n o : Meaning) (t u : Tick) → Stays m n → SameTick t u → Records n o u.worker (end_event (world_of n) u.worker u.region u.log.ran)
    → Records m o t.worker (end_event (world_of m) t.worker t.region t.log.ran)
end_kept m n o t u stays same records =
    let told : Records n o t.worker (end_event (world_of n) t.worker t.region t.log.ran) = rw (same.worker, same.region, same.log) at records in
    record {
      opening = records.opening ∙ stays.opening;
      history = rw (stays.opening, stays.history) at told.history;
      prepared = records.prepared ∙ stays.prepared;
    }

-- ---- what a query tells

-- an id that has a state was given out
pub given_state : (w : World) (id : ℕ) (s : Option State) → s ≡ state_result w id → is_some s ≡ true → IsGiven w id
given_state w id s told some = elim (cases_Bool (nat_lt 0 id && nat_lt id w.grid.next)) [
  | inl given ↦
      let both = and_parts (nat_lt 0 id) (nat_lt id w.grid.next) given in
      record { above = ltb-true 0 id both.0; below = ltb-true id w.grid.next both.1 }
  | inr never ↦
      let none : s ≡ None = rw never at told in
      let stateless : false ≡ true = rw none at some in
      absurd (cc)
]
