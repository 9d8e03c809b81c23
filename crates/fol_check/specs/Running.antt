-- The run of a tick that has its answers.
use Rattle.std.specs.Prelude.{List}
use Rattle.fol_data.specs.declared.tick.Tick.{Tick}
use Rattle.fol_tick.specs.Calls.{HostCall}
use Rattle.fol_tick.specs.ListAnswers.{Answers}
use Rattle.fol_tick.specs.Runs.{Finishes}
use Rattle.fol_tick.specs.declared.list_host.HostAnswer.{HostAnswer}
use Rattle.fol_check.specs.declared.asks.Open.{Open}

-- the tick is run, with the answers that it got
pub record HasRun (p : Open) (done : Tick) : Type 0 where
  pub calls : List HostCall
  pub left : List HostAnswer
  pub given : Answers p.answers.items calls left
  pub finishes : Finishes p.tick done calls
