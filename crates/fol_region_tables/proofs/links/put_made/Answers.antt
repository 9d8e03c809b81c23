use Rattle.std.proofs.Common.{ap, arith, length}
use Rattle.fol_region_tables.proofs.Totals.{total_with}
use Rattle.fol_region_tables.proofs.links.put_made.Goals as goal

pub overflow_add-result : goal.overflow_add-result
overflow_add-result c = omega (arith, total_with c.args.lists.now c.args.n c.args.made.now c.requires.number, c.requires.few, c.requires.used, ap length c.get.ensures)
