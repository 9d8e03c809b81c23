-- A worker gives its tick back.
use Rattle.std.specs.Prelude.{ℕ, ◌≡◌, Bool, true, false, List, take, length, Result, IfOk, IsOk, IsSome, OnErr, OnOk, Some}
use Rattle.std.specs.List.{list_any}
use Rattle.fol_model.specs.declared.tasks.Wish.{Wish}
use Rattle.fol_model.specs.World.{World}
use Rattle.fol_data.specs.declared.tick.Tick.{Tick}
use Rattle.fol_tick.specs.Calls.{HostCall}
use Rattle.fol_tick.specs.Runs.{Finishes}
use Rattle.fol_core.specs.Ahead.{Learns, may_touch}
use Rattle.fol_world.specs.AtEnd.{end_event}
use Rattle.fol_core.specs.Meaning.{Records, Stays, is_prepared, world_of}
use Rattle.fol_core.specs.Ticks.{SameTick}
use Rattle.fol_slots.specs.Shown.{Worker}
use Rattle.fol_offers.specs.Offered.{Offered, of_tick}
use Rattle.fol_offers.specs.Shown.{CallsBack, Shown}

-- the worker holds a slot, where it claimed the tick of this region
pub record Has (s : Worker Offered) (region : ℕ) : Type 0 where
  pub slot : IsSome s.slot
  pub tick : Tick
  pub claimed : s.claimed ≡ Some (of_tick tick)
  pub of : tick.region ≡ region

-- the tick is the one that the worker claimed, after all of its tasks ran; what room it has for more is no part of it
pub record GivesBack (s : Worker Offered) (tick : Tick) : Type 0 where
  pub slot : IsSome s.slot
  pub claimed : Tick
  pub is : s.claimed ≡ Some (of_tick claimed)
  pub calls : List HostCall
  pub finished : Tick
  pub ran : Finishes (record claimed { worker = s.number }) finished calls
  pub same : SameTick finished tick

-- the worker recorded the Begin of its tick, unless that had been learnt
pub record Meets (old new : Shown) (worker region : ℕ) : Type 0 where
  pub slots : new.slots ≡ old.slots
  pub workers : new.workers ≡ old.workers
  pub learnt : is_prepared old.core region ≡ true → Learns old.core new.core worker worker region
  pub known : is_prepared old.core region ≡ false → new.core ≡ old.core

-- the chunk of one of the wishes is one on which an event may touch the region
abbrev pub wishes_may_touch : World → List Wish → ℕ → Bool
wishes_may_touch w wishes r = list_any (λ x. may_touch w x.chunk r) wishes

-- what the wishes may touch was called back; where memory ran out, of the first ones alone
pub record ClearsWishes {A E : Type 0} (old new : Shown) (by : ℕ) (wishes : List Wish) (r : Result A E) : Type 0 where
  pub done : ℕ
  pub all : IsOk r → done ≡ length wishes
  pub clears : CallsBack old new by (wishes_may_touch (world_of old.core) (take done wishes))

-- the tick's Begin was recorded, unless it had been learnt; then what its wishes may touch was called back; then its End was recorded
pub record Ends {E : Type 0} (old new : Shown) (tick : Tick) (r : Result ℕ E) : Type 0 where
  pub met : Shown
  pub meets : Meets old met tick.worker tick.region
  pub cleared : Shown
  pub clears : ClearsWishes met cleared tick.worker tick.log.wishes r
  pub slots : new.slots ≡ old.slots
  pub workers : new.workers ≡ old.workers
  pub told : IfOk r (λ n. n ≡ length new.core.history)
  pub recorded : OnOk r (Records cleared.core new.core tick.worker (end_event (world_of cleared.core) tick.worker tick.region tick.log.ran))
  pub refused : OnErr r (Stays cleared.core new.core)
