use Rattle.std.proofs.Common.{◌∙◌, sym, refl, [], ◌∷◌, decimal}
use Rattle.fol_model.specs.TextLines.{line_of}
use Rattle.fol_events.proofs.Steps.{on_err}
use Rattle.fol_events.proofs.Cuts.{line_end, one_cut}
use Rattle.fol_report_reader.proofs.Lines.{count_feed}
use Rattle.fol_report_reader.proofs.parts.cut_count.Goals as goal

pub returns-in_err-count-clause-none : goal.returns-in_err-count-clause-none
returns-in_err-count-clause-none c = let found = c.in_ok-line.ensures.found in let name = c.args.name.now in on_err c.from_residual-in_err-count.result (record { place = refl; none = λ n rest few e. c.in_err-count.ensures.none n few (one_cut c.in_ok-line.line.now (line_of (name ∷ decimal n ∷ [])) c.in_ok-line.rest.now rest found.0 (count_feed name n c.requires) (sym found.1 ∙ e ∙ line_end (name ∷ decimal n ∷ []) rest)).0 })
