use Rattle.std.proofs.Common.{arith}
use Rattle.std.proofs.lemmas.List.{get_or_read}
use Rattle.fol_split.proofs.RunLists.{place_at}
use Rattle.fol_split.proofs.runs.Runs.taken_at.Goals as goal

pub returns-clause-bound : goal.returns-clause-bound
returns-clause-bound c =
    let requires = rw (← c.self.view_is) at c.requires in
    let gone = c.self.invariant.0.gone _ (place_at c.self.inside.class.items c.args.i 0 requires) in
    rw (← c.self.view_is) (omega (arith, gone.0, get_or_read c.self.inside.class.items c.args.i c.index.result.now requires c.index.ensures 0))
