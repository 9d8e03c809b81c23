use Rattle.std.proofs.Common.{◌∙◌, sym}
use Rattle.fol_split.proofs.Pools.{left_is}
use Rattle.fol_split.proofs.pool.Pool.is_left.Goals as goal

pub returns : goal.returns
returns c =
    let requires = rw (← c.self.view_is) at c.requires in
    rw (← c.self.view_is) (λ s h. left_is c.self.inside.runs c.self.inside.found.items c.args.k s c.self.invariant.0 requires h ∙ sym c.is_left.ensures)
