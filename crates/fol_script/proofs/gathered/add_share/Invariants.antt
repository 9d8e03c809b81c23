use Rattle.std.proofs.Common.{◌++◌, map, take}
use Rattle.fol_model.specs.Texts.{command_row}
use Rattle.fol_script.specs.Shares.{LeadOn}
use Rattle.fol_script.proofs.gathered.add_share.Given as goal

abbrev pub invariant-loop-command : goal.invariant-loop-command
invariant-loop-command l = LeadOn (map command_row (l.fn.commands.items ++ take l.command-index l.command-items)) l.before
