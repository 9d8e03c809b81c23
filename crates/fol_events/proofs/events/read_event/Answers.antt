use Rattle.std.proofs.Common.{◌∙◌}
use Rattle.fol_model.specs.ReportWords.{event_words}
use Rattle.std.proofs.lemmas.Result.{IfOk-weaker}
use Rattle.fol_events.proofs.Cuts.{words_of_event, line_of_words}
use Rattle.fol_events.proofs.events.read_event.Goals as goal

pub returns-clause-found : goal.returns-clause-found
returns-clause-found c = IfOk-weaker c.read_words.result _ _ (λ e p. (p.0, line_of_words (event_words e) c.args.line.now (p.1 ∙ c.of-words.ensures))) c.read_words.ensures.found

pub returns-clause-none : goal.returns-clause-none
returns-clause-none c k e r eq = c.read_words.ensures.none k e r (c.of-words.ensures ∙ words_of_event e c.args.line.now eq)
