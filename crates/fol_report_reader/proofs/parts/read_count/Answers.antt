use Rattle.std.proofs.Common.{[], ◌∷◌, decimal}
use Rattle.fol_events.proofs.Steps.{on_err}
use Rattle.fol_events.proofs.Cuts.{line_of_words}
use Rattle.fol_report_reader.proofs.Lines.{count_words}
use Rattle.fol_report_reader.proofs.parts.read_count.Goals as goal

pub returns-in_err-pass-clause-none : goal.returns-in_err-pass-clause-none
returns-in_err-pass-clause-none c = on_err c.from_residual.result (λ n h e. c.in_err-pass.ensures.none (decimal n ∷ []) (cc (count_words c.args.name.now n c.args.line.now c.requires e, c.of-words.ensures)))

pub returns-in_err-count-clause-none : goal.returns-in_err-count-clause-none
returns-in_err-count-clause-none c = on_err c.from_residual-in_err-count.result (λ n h e. c.in_err-count.ensures.none n [] h (cc (count_words c.args.name.now n c.args.line.now c.requires e, c.of-words.ensures, c.in_ok-pass.ensures.found)))

pub returns-in_err-end-clause-none : goal.returns-in_err-end-clause-none
returns-in_err-end-clause-none c = on_err c.from_residual-in_err-end.result (λ n h e. c.in_err-end.ensures.none (cc (count_words c.args.name.now n c.args.line.now c.requires e, c.of-words.ensures, c.in_ok-pass.ensures.found, c.in_ok-count.ensures.found.1)))

pub returns-clause-found : goal.returns-clause-found
returns-clause-found c = (c.in_ok-count.ensures.found.0, line_of_words (c.args.name.now ∷ decimal c.in_ok-count.count ∷ []) c.args.line.now (cc (c.of-words.ensures, c.in_ok-pass.ensures.found, c.in_ok-count.ensures.found.1, c.in_ok-end.ensures.found)))
