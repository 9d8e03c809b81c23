use Rattle.std.proofs.Common.{◌-◌, arith, get_or, length}
use Rattle.std.proofs.lemmas.Bool.{ltb-true}
use Rattle.fol_region_tables.proofs.living.is_above_all.Goals as goal

pub returns : goal.returns
returns c = λ yes k l.
    let top = c.requires k (length c.args.ids.now - 1) 0 (omega arith) (omega arith) in
    let below = ltb-true (get_or c.args.ids.now (length c.args.ids.now - 1) 0) c.args.id yes in
    omega (arith, top, below)
