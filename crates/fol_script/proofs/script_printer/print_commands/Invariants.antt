use Rattle.std.proofs.Common.{◌≡◌, take}
use Rattle.fol_text_laws.specs.Printed.{script_text}
use Rattle.fol_script.proofs.script_printer.print_commands.Given as goal

abbrev pub invariant-loop-command : goal.invariant-loop-command
invariant-loop-command l = l.out.items ≡ script_text (take l.command-index l.commands)
