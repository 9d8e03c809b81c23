use Rattle.fol_script.proofs.ReadScript.{makes_script}
use Rattle.fol_script.proofs.shares.read_script_in_shares.Goals as goal

pub invariant_of-result : goal.invariant_of-result
invariant_of-result g c = makes_script c.args.version c.kind_of.result c.args.bytes.now c.in-Ok.commands.items c.of.result c.kind_of.ensures.kind c.of.ensures c.in-Ok.ensures
