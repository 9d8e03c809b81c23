-- What each worker of a replay is at.
use Rattle.std.specs.Prelude.{ℕ, ◌≡◌, length, map, drop, IsTrue, Option, Some, None}
use Rattle.std.specs.List.{list_all}
use Rattle.fol_model.specs.ActionStep.{plain_of}
use Rattle.fol_model.specs.declared.regions.State.TheVariants.{Ticking}
use Rattle.fol_model.specs.Legal.{Doing, idle, ticking}
use Rattle.fol_model.specs.World.{due, start}
use Rattle.fol_tick.specs.Calls.{hosted}
use Rattle.fol_tick.specs.ListAnswers.{is_answer}
use Rattle.fol_core.specs.Meaning.{Meaning, world_of}
use Rattle.fol_tick_laws.specs.OpenTicks.{IsOpen}
use Rattle.fol_seat_laws.specs.Turns.{Turns}
use Rattle.fol_check.specs.Asks.{AreAnswers, action_asked, told_by}
use Rattle.fol_check.specs.declared.asks.Open.{Open}

-- what the worker of the tick is at
abbrev pub doing_in : Open → Doing
doing_in p = ticking p.tick.region (drop (length p.answers.items) (hosted p.tick.due)) (told_by (hosted p.tick.due) p.answers.items)

abbrev pub doing_at : Option Open → Doing
doing_at None = idle
doing_at (Some p) = doing_in p

-- worker k has this tick open: its region ticks, its due tasks are those of the region, and the first that ask have their answers
pub record HasOpen (m : Meaning) (k : ℕ) (p : Open) : Type 0 where
  pub worker : p.tick.worker ≡ k
  pub is_open : IsOpen m p.tick
  pub ticks : (world_of m).grid.state p.tick.region ≡ Ticking
  pub seat : (world_of m).worker p.tick.region ≡ k
  pub due : p.tick.due ≡ due (world_of m) p.tick.region
  pub asks : map action_asked p.asks.items ≡ map (λ t. plain_of t.action) (hosted p.tick.due)
  pub answers : AreAnswers p.asks.items p.answers.items
  pub given : IsTrue (list_all is_answer p.answers.items)

abbrev pub HasTick : Meaning → ℕ → Option Open → Type 0
HasTick m k None = Unit {0}
HasTick m k (Some p) = HasOpen m k p

-- worker k is at this
pub record IsAt (m : Meaning) (k : ℕ) (o : Option Open) : Type 0 where
  pub tick : HasTick m k o
  pub turns : Turns k (start m.opening) idle m.history (doing_at o)
