-- What a worker has of the slots, and does there.
use Rattle.std.specs.Prelude.{ℕ, ◌≡◌, ◌≢◌, ◌<◌, List, ◌++◌, map, Option, None, Some, All}
use Rattle.fol_data.specs.declared.tick.Tick.{Tick}
use Rattle.fol_tick.specs.Calls.{HostCall}
use Rattle.fol_tick.specs.Runs.{Finishes}
use Rattle.fol_core.specs.Ticks.{SameTick}
use Rattle.fol_offers.specs.Offered.{Offered, of_tick}
use Rattle.fol_offers.specs.Ends.{Has}
use Rattle.fol_offers.specs.Fit.{IsFitTick}
use Rattle.fol_slots.specs.declared.word.Word.{Word}
use Rattle.fol_slots.specs.declared.word.Word.TheVariants.{Ready}
use Rattle.fol_slots.specs.Shown.{Worker, holding}
use Rattle.fol_live.specs.Rounds.{round}

-- a worker of whom it is known whether it claimed a tick, and of which region
pub record IsHand (region : Option ℕ) (w : Worker Offered) : Type 0 where
  pub free : region ≡ None → (w.slot ≡ None) × (w.claimed ≡ None)
  pub has : (r : ℕ) → region ≡ Some r → Has w r

-- the tick in a body
abbrev pub tick_in : Option Offered → Option Tick
tick_in None = None
tick_in (Some o) = o.tick

-- the tick is the one that the worker claimed, after all of its tasks ran; what room it has for more is no part of it
pub record GivesUp (w : Worker Offered) (tick : Tick) : Type 0 where
  pub claimed : Tick
  pub is : tick_in w.claimed ≡ Some claimed
  pub calls : List HostCall
  pub finished : Tick
  pub ran : Finishes (record claimed { worker = w.number }) finished calls
  pub same : SameTick finished tick

-- the worker claimed this tick, at some slot
pub record ClaimsOne (old new : Worker Offered) (tick : Tick) : Type 0 where
  pub slot : ℕ
  pub inside : slot < old.slots.slots
  pub fit : IsFitTick tick
  pub is : new ≡ holding old slot (of_tick tick)

-- the worker tried these slots, one after another, and none was ready
pub record MissesThese (old new : Worker Offered) (slots : List ℕ) : Type 0 where
  pub met : List (ℕ × Word)
  pub slots_are : map (λ m. m.0) met ≡ slots
  pub none_ready : All (λ m. m.1 ≢ Ready) met
  pub is : new ≡ record old { found = old.found ++ met }

-- each slot was tried once, from some slot on and round to the one before
pub record MissesAll (old new : Worker Offered) : Type 0 where
  pub from : ℕ
  pub misses : MissesThese old new (round from old.slots.slots)
