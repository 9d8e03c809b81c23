use Rattle.std.proofs.Common.{◌<◌, ◌≡◌, arith, false, length}
use Rattle.fol_core.specs.Meaning.{mark}
use Rattle.fol_core.proofs.MarkCounts.{count_added, count_few}
use Rattle.fol_core.proofs.marks.Marks.add.Goals as goal

pub overflow_add-self : goal.overflow_add-self
overflow_add-self c = omega (arith, c.self.invariant, count_few c.self.inside.marks.items, c.self.inside.marks.ok)

pub invariant_of-self : goal.invariant_of-self
invariant_of-self c =
    let room : c.args.id < length c.self.inside.marks.items = rw (← c.self.view_is) at c.requires.room in
    let fresh : mark c.self.inside.marks.items c.args.id ≡ false = rw (← c.self.view_is) at c.requires.fresh in
    omega (arith, c.self.invariant, count_added c.self.inside.marks.items c.args.id room fresh)

pub returns-clause-count : goal.returns-clause-count
returns-clause-count c =
    let room : c.args.id < length c.self.inside.marks.items = rw (← c.self.view_is) at c.requires.room in
    let fresh : mark c.self.inside.marks.items c.args.id ≡ false = rw (← c.self.view_is) at c.requires.fresh in
    rw (← c.self.view_is) (count_added c.self.inside.marks.items c.args.id room fresh)
