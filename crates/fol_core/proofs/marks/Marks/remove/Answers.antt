use Rattle.std.proofs.Common.{◌≡◌, arith, true}
use Rattle.fol_core.specs.Meaning.{mark}
use Rattle.fol_core.proofs.MarkCounts.{count_removed, mark_below}
use Rattle.fol_core.proofs.marks.Marks.remove.Goals as goal

pub overflow_sub-self : goal.overflow_sub-self
overflow_sub-self c =
    let on : mark c.self.inside.marks.items c.args.id ≡ true = rw (← c.self.view_is) at c.requires.marked in
    omega (arith, c.self.invariant, count_removed c.self.inside.marks.items c.args.id (mark_below c.self.inside.marks.items c.args.id on) on)

pub invariant_of-self : goal.invariant_of-self
invariant_of-self c =
    let on : mark c.self.inside.marks.items c.args.id ≡ true = rw (← c.self.view_is) at c.requires.marked in
    omega (arith, c.self.invariant, count_removed c.self.inside.marks.items c.args.id (mark_below c.self.inside.marks.items c.args.id on) on)

pub returns-clause-count : goal.returns-clause-count
returns-clause-count c =
    let on : mark c.self.inside.marks.items c.args.id ≡ true = rw (← c.self.view_is) at c.requires.marked in
    rw (← c.self.view_is) (count_removed c.self.inside.marks.items c.args.id (mark_below c.self.inside.marks.items c.args.id on) on)
