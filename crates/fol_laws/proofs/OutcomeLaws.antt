-- The outcomes that an End lists.
use Rattle.fol_laws.specs.OutcomeLaws.{DueTasksRise, OutcomesGiveTheTickAgain}
use Rattle.fol_laws.proofs.OutcomesAgain.{due_rising, same_again}

pub due_tasks_rise : DueTasksRise
due_tasks_rise w r = due_rising w r w.next_job

pub outcomes_give_the_tick_again : OutcomesGiveTheTickAgain
outcomes_give_the_tick_again = same_again
