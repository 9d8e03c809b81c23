use Rattle.std.proofs.Common.{arith}
use Rattle.fol_lists.proofs.Views.{numbers_added}
use Rattle.fol_lists.proofs.lists.Lists.reserve_numbers.Goals as goal

pub returns-in_ok-reserve-clause-ok : goal.returns-in_ok-reserve-clause-ok
returns-in_ok-reserve-clause-ok g c =
    let s = c.self.inside in
    rw (c.reserve.ensures.items, ← c.self.view_is) (numbers_added s.cells.items s.spans.items s.room s.numbers c.args.numbers c.self.invariant.3.within (omega arith))
