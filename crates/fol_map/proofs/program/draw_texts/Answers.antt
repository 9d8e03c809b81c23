use Rattle.fol_map.proofs.Outcomes.{texts_end}
use Rattle.fol_map.proofs.program.draw_texts.Goals as goal

pub returns-in-Ok : goal.returns-in-Ok
returns-in-Ok g c = texts_end c.args.world.now c.args.report.now c.in-Ok.opening c.in-Ok.ensures _ _ _ _ _ _ _ c.draw_report.ensures
