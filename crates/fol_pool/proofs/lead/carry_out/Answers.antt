use Rattle.std.proofs.Common.{◌∙◌, sym}
use Rattle.std.proofs.lemmas.Result.{on_ok_weaker}
use Rattle.fol_pool.proofs.Carrying.{carries_end, has_finished}
use Rattle.fol_pool.proofs.lead.carry_out.Goals as goal

pub returns-clause-finished : goal.returns-clause-finished
returns-clause-finished g c =
    let none = sym c.loop-command.invariant.counted ∙ c.in-None.ensures.steps.0 in
    let carries = carries_end c.loop-command.caller _ c.args.commands.items none c.loop-command.invariant.carries in
    on_ok_weaker c.finish.result (has_finished c.loop-command.caller c.finish.new.caller c.args.commands.items carries c.finish.ensures.same) c.finish.ensures.finished
