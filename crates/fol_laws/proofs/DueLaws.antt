-- When an accepted task runs.
use Rattle.fol_laws.specs.DueLaws.{EachTaskIsDue, NoneNamesItBefore}
use Rattle.fol_laws.proofs.DueRuleHolds.{before_law, due_law}

pub each_task_is_due : EachTaskIsDue
each_task_is_due = due_law

pub none_names_it_before : NoneNamesItBefore
none_names_it_before = before_law
