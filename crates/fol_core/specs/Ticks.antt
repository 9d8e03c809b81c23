-- The ticks that a core gives out and takes back.
use Rattle.std.specs.Prelude.{ℕ, ◌≡◌, ◌+◌, ◌-◌, ◌≤◌, true, false, List, [], ◌∷◌, ◌++◌, filter, length}
use Rattle.fol_model.specs.declared.events.Event.TheVariants.{Begin}
use Rattle.fol_model.specs.declared.events.Entry.{Entry}
use Rattle.fol_model.specs.declared.openings.Opening.{Opening}
use Rattle.fol_model.specs.declared.tasks.Outcome.{Outcome}
use Rattle.fol_model.specs.Universe.{all_chunks}
use Rattle.fol_model.specs.ActionStep.{Flat}
use Rattle.fol_model.specs.FlatTick.{flat_tick}
use Rattle.fol_model.specs.QueuedTask.{begun, queued_in}
use Rattle.fol_model.specs.OpenTick.{NoEnd}
use Rattle.fol_model.specs.Outputs.{is_chunk_of}
use Rattle.fol_model.specs.World.{World, due}
use Rattle.fol_model.specs.Run.{Allowed, world}
use Rattle.fol_laws.specs.LateBegin.{NoneTouches}
use Rattle.fol_queues.specs.Waiting.{jobs_of}
use Rattle.fol_chunks.specs.Contents.{flat_of, within, is_recorded}
use Rattle.fol_data.specs.declared.tick.Tick.{Tick}
use Rattle.fol_core.specs.Meaning.{Meaning, ForEnd}

-- what a Begin in the world w, by the worker of the tick of its region, gives the tick to keep: the record of the Begin, the
-- counter and the owed number after it, and the tasks that are queued after it, with their rests
pub record IsTickOf (w : World) (tick : Tick) : Type 0 where
  pub chunks : tick.chunks ≡ filter (is_chunk_of w.grid tick.region) all_chunks
  pub due : tick.due ≡ due (begun w tick.worker tick.region) tick.region
  pub counter : tick.body.tick ≡ w.tick tick.region
  pub owed : tick.body.owed ≡ w.owed tick.region - 1
  pub queued : jobs_of tick.body.queues (tick.body.tick + 1) ≡ λ n. queued_in w.grid tick.region ((begun w tick.worker tick.region).jobs n)

-- the tick of a Begin of this region by this worker, before any of its tasks ran
pub record IsTick (w : World) (place seat id : ℕ) (tick : Tick) : Type 0 where
  pub worker : tick.worker ≡ seat
  pub region : tick.region ≡ id
  pub begun : tick.begun ≡ place
  pub of : IsTickOf w tick
  pub contents : flat_of tick.body.chunks ≡ within (is_recorded tick.chunks) w.flat
  pub ran : tick.log.ran ≡ []
  pub wishes : tick.log.wishes ≡ []
  pub next : tick.next ≡ 0
  pub moved : tick.moved ≡ false

-- body and log are those of the whole tick on these blocks and entities, with these outcomes of loads and unloads
pub record HasRun (given : ℕ → Outcome) (f : Flat) (tick : Tick) : Type 0 where
  pub contents : flat_of tick.body.chunks ≡ (flat_tick (is_recorded tick.chunks) given tick.due f).flat
  pub ran : tick.log.ran ≡ (flat_tick (is_recorded tick.chunks) given tick.due f).ran
  pub wishes : tick.log.wishes ≡ (flat_tick (is_recorded tick.chunks) given tick.due f).wishes
  pub moved : tick.moved ≡ true

-- where the open tick of a region stands in a history: it was made at a place where its Begin was allowed; the Begin came there or later,
-- with nothing between that touches the region; and no End of the region follows it
pub record IsBegun (o : Opening) (h : List Entry) (worker region : ℕ) : Type 0 where
  -- the history when the tick was made
  pub before : List Entry
  pub between : List Entry
  pub since : List Entry
  pub by : ℕ
  pub begin : h ≡ (before ++ between) ++ (record { by = by; event = Begin worker region }) ∷ since
  pub allowed : Allowed (world o before) (Begin worker region)
  pub calm : NoneTouches (world o before) region between
  pub runs_on : NoEnd region since

-- the tick is open in this history and is finished: it ran on the blocks and entities that the world had in its recorded chunks when it was
-- made, which are those of its Begin
pub record IsOut (m : Meaning) (tick : Tick) : Type 0 where
  pub made : IsBegun m.opening m.history tick.worker tick.region
  pub place : tick.begun ≡ length made.before
  pub of : IsTickOf (world m.opening made.before) tick
  pub given : ℕ → Outcome
  pub run : HasRun given (within (is_recorded tick.chunks) (world m.opening made.before).flat) tick

-- the same tick; how much more its body can take in without taking memory is no part of it
pub record SameTick (old new : Tick) : Type 0 where
  pub worker : new.worker ≡ old.worker
  pub region : new.region ≡ old.region
  pub begun : new.begun ≡ old.begun
  pub chunks : new.chunks ≡ old.chunks
  pub due : new.due ≡ old.due
  pub counter : new.body.tick ≡ old.body.tick
  pub owed : new.body.owed ≡ old.body.owed
  pub tasks : new.body.queues.tasks ≡ old.body.queues.tasks
  pub contents : flat_of new.body.chunks ≡ flat_of old.body.chunks
  pub log : new.log ≡ old.log
  pub next : new.next ≡ old.next
  pub moved : new.moved ≡ old.moved

-- the End of the tick needs no more memory: the core's is that for as many wishes as the tick has, and what the tick has in its hands can take
-- in as many things
pub record IsReadyToRelease (m : Meaning) (tick : Tick) : Type 0 where
  pub reserved : m.room ≡ ForEnd (length tick.log.wishes)
  pub things : length tick.log.wishes ≤ tick.body.chunks.spare
