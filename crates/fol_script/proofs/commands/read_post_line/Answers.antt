use Rattle.std.proofs.Common.{List, sym, subst}
use Rattle.fol_model.specs.declared.words.Cell.{Cell}
use Rattle.fol_text_laws.specs.RowValues.{deed_from, InLine}
use Rattle.fol_script.proofs.CommandLimits.{post_line}
use Rattle.fol_script.proofs.commands.read_post_line.Goals as goal

pub read_action-requires : goal.read_action-requires
read_action-requires c = subst (λ (l : List Cell). InLine (deed_from l)) (sym c.cells_from.ensures) (post_line c.args.cells.now c.requires).act

pub natural_at-requires : goal.natural_at-requires
natural_at-requires c = (post_line c.args.cells.now c.requires).delay
