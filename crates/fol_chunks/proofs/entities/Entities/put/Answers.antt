use Rattle.std.proofs.Common.{sym, ◌∙◌}
use Rattle.fol_chunks.proofs.EitherList.{put_first, put_first_fresh, put_first_parted, put_second, put_second_fresh, put_second_parted}
use Rattle.fol_chunks.proofs.entities.Entities.put.Goals as goal

pub put-requires-clause-fresh : goal.put-requires-clause-fresh
put-requires-clause-fresh c =
    let fresh = rw (← c.self.view_is) at c.requires.fresh in
    put_second_fresh c.self.inside.walking.members c.self.inside.still.members c.self.invariant c.args.entity fresh

pub invariant_of-self : goal.invariant_of-self
invariant_of-self c =
    let fresh = rw (← c.self.view_is) at c.requires.fresh in
    put_second_parted c.self.inside.walking.members c.self.inside.still.members c.self.invariant c.args.entity fresh c.put.new.self.members c.put.ensures.entity (sym c.stands_still.ensures ∙ c.if-stands_still.true) c.put.ensures.order

pub put-requires-else-stands_still-clause-fresh : goal.put-requires-else-stands_still-clause-fresh
put-requires-else-stands_still-clause-fresh c =
    let fresh = rw (← c.self.view_is) at c.requires.fresh in
    put_first_fresh c.self.inside.walking.members c.self.inside.still.members c.self.invariant c.args.entity fresh

pub invariant_of-self-else-stands_still : goal.invariant_of-self-else-stands_still
invariant_of-self-else-stands_still c =
    let fresh = rw (← c.self.view_is) at c.requires.fresh in
    put_first_parted c.self.inside.walking.members c.self.inside.still.members c.self.invariant c.args.entity fresh c.put-else-stands_still.new.self.members c.put-else-stands_still.ensures.entity
    (sym c.stands_still.ensures ∙ c.if-stands_still.false) c.put-else-stands_still.ensures.order

pub returns-then-stands_still-clause-entity : goal.returns-then-stands_still-clause-entity
returns-then-stands_still-clause-entity c =
    let fresh = rw (← c.self.view_is) at c.requires.fresh in
    rw (← c.self.view_is) (put_second c.self.inside.walking.members c.self.inside.still.members c.self.invariant c.args.entity fresh c.put.new.self.members c.put.ensures.entity)

pub returns-else-stands_still-clause-entity : goal.returns-else-stands_still-clause-entity
returns-else-stands_still-clause-entity c =
    let fresh = rw (← c.self.view_is) at c.requires.fresh in
    rw (← c.self.view_is) (put_first c.self.inside.walking.members c.self.inside.still.members c.self.invariant c.args.entity fresh c.put-else-stands_still.new.self.members c.put-else-stands_still.ensures.entity)
