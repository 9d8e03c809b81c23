use Rattle.std.proofs.Common.{◌≡◌, All, flat_map, map}
use Rattle.std.specs.Prelude.{IsOk}
use Rattle.fol_model.specs.Texts.{command_row}
use Rattle.fol_script.specs.Shares.{LeadOn, commands_of}
use Rattle.fol_script.proofs.gathered.gather.Given as goal

abbrev pub invariant-loop-share : goal.invariant-loop-share
invariant-loop-share l = record {
  items : l.commands.items ≡ flat_map commands_of l.yielded;
  read : All IsOk l.yielded;
  leads : LeadOn (map command_row l.commands.items) l.before;
}
