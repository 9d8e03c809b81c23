use Rattle.fol_model.specs.declared.words.Keyword.TheVariants as keys
use Rattle.fol_text_laws.specs.RowValues.{natural_in}
use Rattle.fol_script.proofs.Posts.{plain_in, sends_small}
use Rattle.fol_script.proofs.actions.read_plain.Goals as goal

pub natural_at-requires-in-Send : goal.natural_at-requires-in-Send
natural_at-requires-in-Send c = sends_small (natural_in 1 c.args.cells.now) (plain_in c.args.cells.now keys.Send c.requires.innermost c.in-Send.ensures c.requires.within).sends
