use Rattle.fol_chunks.proofs.EitherList.{either_listed, either_untied}
use Rattle.fol_chunks.proofs.entities.Entities.by_id.Goals as goal

pub join-requires-clause-apart : goal.join-requires-clause-apart
join-requires-clause-apart c =
    rw (c.in_ok-add_to.ensures.members, c.in_ok-list.ensures.items, c.as_slice-still.ensures) (either_untied c.self.inside.walking.members c.self.inside.still.members c.self.invariant)

pub returns-clause-standing : goal.returns-clause-standing
returns-clause-standing c =
    let all = rw (c.in_ok-add_to.ensures.members, c.in_ok-list.ensures.items, c.as_slice-still.ensures) at c.join.ensures.same in
    rw (← c.self.view_is) (either_listed c.self.inside.walking.members c.self.inside.still.members c.self.invariant c.join.new.rows.items all)
