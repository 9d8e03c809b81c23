use Rattle.std.proofs.Common.{sym, ap, ◌∙◌, length, arith}
use Rattle.fol_report.proofs.Rests.{action_some, answers_some, some_behind}
use Rattle.fol_report.proofs.rest.Rest.is_done.Goals as goal

pub returns-in-Answers-clause-words : goal.returns-in-Answers-clause-words
returns-in-Answers-clause-words c more none = answers_some c.in-Answers.accepts.now (sym c.is_empty.ensures ∙ more) (rw c.in-Answers.is at none)

pub returns-in-Deed-clause-words : goal.returns-in-Deed-clause-words
returns-in-Deed-clause-words c more none = omega (arith, action_some c.in-Deed.field-0.now, ap length (rw c.in-Deed.is at none))

pub returns-in-Tasks-clause-words : goal.returns-in-Tasks-clause-words
returns-in-Tasks-clause-words c more none = some_behind _ _ _ (rw c.in-Tasks.is at none)
