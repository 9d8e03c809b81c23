use Rattle.std.proofs.Common.{◌++◌, sym, ap, ◌∙◌}
use Rattle.fol_model.specs.declared.scripts.Command.{Command}
use Rattle.fol_model.specs.Texts.{command_row}
use Rattle.fol_text_laws.specs.Printed.{line_text}
use Rattle.fol_script.proofs.RowText.{script_step, no_commands}
use Rattle.fol_script.proofs.script_printer.print_commands.Goals as goal

pub loop-command-init : goal.loop-command-init
loop-command-init c = c.new-out.ensures.items ∙ sym no_commands

pub loop-command-preserved : goal.loop-command-preserved
loop-command-preserved c =
    script_step c.args.commands.now c.loop-command.command-index c.command-item.result c.loop-command.out.items c.push_command.new.out.items c.loop-command-test.true c.loop-command.invariant
    (c.in_ok-push_command.ensures ∙ ap (λ (x : Command). c.loop-command.out.items ++ line_text (command_row x)) c.command-item.is)
