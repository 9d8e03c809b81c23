use Rattle.fol_model.specs.declared.words.Keyword.TheVariants as keys
use Rattle.fol_text_laws.specs.RowValues.{natural_in}
use Rattle.fol_script.proofs.CommandLimits.{with_key, count_small}
use Rattle.fol_script.proofs.commands.read_command.Goals as goal

pub natural_at-requires : goal.natural_at-requires
natural_at-requires c = count_small (natural_in 0 c.args.cells.now) (with_key c.args.key keys.Run c.args.cells.now c.in-Run.is c.requires)
