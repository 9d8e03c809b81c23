use Rattle.std.proofs.Common.{ap, ◌∙◌}
use Rattle.fol_core.specs.Meaning.{mark, mark_count}
use Rattle.fol_core.proofs.MarkCounts.{count_more, mark_more}
use Rattle.fol_core.proofs.marks.Marks.make_room.Goals as goal

pub loop-self-preserved : goal.loop-self-preserved
loop-self-preserved c =
    let inv = c.loop-self.invariant in (
      ap mark c.in_ok-push.ensures.items ∙ mark_more c.loop-self.self-inside.marks.items ∙ inv.0,
      ap mark_count c.in_ok-push.ensures.items ∙ count_more c.loop-self.self-inside.marks.items ∙ inv.1,
      inv.2,
    )
