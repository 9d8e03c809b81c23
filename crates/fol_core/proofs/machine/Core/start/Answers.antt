use Rattle.std.proofs.Common.{arith}
use Rattle.fol_core.proofs.AheadAnswers.{stands_none}
use Rattle.fol_core.proofs.MarkCounts.{count_none, mark_none}
use Rattle.fol_core.proofs.Started.{first_stands}
use Rattle.fol_core.proofs.machine.Core.start.Goals as goal

pub invariant_of-result : goal.invariant_of-result
invariant_of-result c =
    let marks = c.new.ensures in
    rw (c.in-Ok.ensures.entries, c.new-history.ensures.items, marks)
    (stands_none _ _ _ mark_none _ (first_stands c.args.opening c.in-Ok.tables c.in-Ok.ensures.first), tt, λ e. omega (arith, c.in-Ok.ensures.room, count_none), omega (arith, c.in-Ok.tables.agenda.ok, count_none))
