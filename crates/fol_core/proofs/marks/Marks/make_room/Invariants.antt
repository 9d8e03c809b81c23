use Rattle.std.proofs.Common.{◌≡◌, length, ◌+◌, ◌-◌}
use Rattle.fol_core.specs.Meaning.{mark, mark_count}
use Rattle.fol_core.proofs.marks.Marks.make_room.Given as goal

abbrev pub invariant-loop-self : goal.invariant-loop-self
invariant-loop-self l =
    (mark l.self-inside.marks.items ≡ mark l.initial.self-inside.marks.items)
    × (mark_count l.self-inside.marks.items ≡ mark_count l.initial.self-inside.marks.items)
    × (l.self-inside.count ≡ l.initial.self-inside.count)

abbrev pub decreases-loop-self : goal.decreases-loop-self
decreases-loop-self l = l.id + 1 - length l.self-inside.marks.items
