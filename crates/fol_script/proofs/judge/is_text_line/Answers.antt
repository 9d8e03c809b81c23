use Rattle.std.proofs.Common.{ap, ◌∙◌, Bool, true, ◌&&◌}
use Rattle.fol_script.specs.Judged.{is_tidy}
use Rattle.fol_script.proofs.Judging.{text_is}
use Rattle.fol_script.proofs.judge.is_text_line.Goals as goal

pub returns-then-is_printed : goal.returns-then-is_printed
returns-then-is_printed c = c.is_spaced.ensures ∙ ap (λ (b : Bool). b && is_tidy true c.args.line.now) c.if-is_printed.ensures ∙ text_is c.args.line.now
