use Rattle.std.proofs.Common.{sym, ap, Err, rules}
use Rattle.fol_model.specs.ReportWords.{action_words}
use Rattle.fol_events.specs.declared.faults.Fault.{Fault}
use Rattle.fol_report_reader.proofs.rows.task.Goals as goal

pub returns-in_err-action-clause-none : goal.returns-in_err-action-clause-none
unfolding action_words
returns-in_err-action-clause-none c k t h e = let same = rw k at c.from_residual-in_err-action.ensures in let none = c.in_err-action.ensures.none (ap (λ (f : Fault). Err f) (sym same.1)) in none t.task.action h.action (cc (c.of-words.ensures, c.in_ok-number.ensures.found.1, e))

pub returns-clause-found : goal.returns-clause-found
unfolding action_words
returns-clause-found c = (record { number = search rules; chunk = c.in_ok-number.ensures.found.0; rest = search rules; action = c.in_ok-action.ensures.found.0 }, cc (c.of-words.ensures, c.in_ok-number.ensures.found.1, c.in_ok-action.ensures.found.1))
