use Rattle.std.proofs.Common.{arith}
use Rattle.fol_chunks.proofs.Speeds.{count_walks}
use Rattle.fol_chunks.proofs.entities.Entities.walkers.Goals as goal

pub returns : goal.returns
returns c =
    let all = count_walks c.self.inside.walking.members c.self.inside.still.members c.self.invariant in
    rw (← c.self.view_is) (omega (arith, all))
