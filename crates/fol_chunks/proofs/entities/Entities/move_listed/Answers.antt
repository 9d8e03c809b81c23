use Rattle.fol_model.specs.Geometry.{chunk_of}
use Rattle.fol_model.specs.ActionStep.{Standing}
use Rattle.fol_keyed.specs.Members.{is_listed}
use Rattle.fol_chunks.proofs.EitherList.{apart_first, apart_second, left_either, left_parted, moved_either, moved_parted}
use Rattle.fol_chunks.proofs.entities.Entities.move_listed.Goals as goal

pub move_listed-requires-clause-apart : goal.move_listed-requires-clause-apart
move_listed-requires-clause-apart c =
    let apart = rw (← c.self.view_is, ← c.into.view_is) at c.requires.apart in
    apart_first c.self.inside.walking.members c.self.inside.still.members c.into.inside.walking.members c.into.inside.still.members c.self.invariant c.into.invariant (λ (s : Standing). is_listed c.args.chunks.now (chunk_of s.at)) apart

pub move_listed-requires-2-clause-apart : goal.move_listed-requires-2-clause-apart
move_listed-requires-2-clause-apart c =
    let apart = rw (← c.self.view_is, ← c.into.view_is) at c.requires.apart in
    apart_second c.self.inside.walking.members c.self.inside.still.members c.into.inside.walking.members c.into.inside.still.members c.self.invariant c.into.invariant (λ (s : Standing). is_listed c.args.chunks.now (chunk_of s.at)) apart

pub invariant_of-self : goal.invariant_of-self
invariant_of-self c =
    let apart = rw (← c.self.view_is, ← c.into.view_is) at c.requires.apart in
    left_parted c.self.inside.walking.members c.self.inside.still.members c.into.inside.walking.members c.into.inside.still.members c.self.invariant c.into.invariant (λ (s : Standing). is_listed c.args.chunks.now (chunk_of s.at)) apart
    c.move_listed.new.self.members c.move_listed-2.new.self.members c.move_listed.ensures.left c.move_listed-2.ensures.left c.move_listed.ensures.order c.move_listed-2.ensures.order

pub invariant_of-into : goal.invariant_of-into
invariant_of-into c =
    let apart = rw (← c.self.view_is, ← c.into.view_is) at c.requires.apart in
    moved_parted c.self.inside.walking.members c.self.inside.still.members c.into.inside.walking.members c.into.inside.still.members c.self.invariant c.into.invariant (λ (s : Standing). is_listed c.args.chunks.now (chunk_of s.at)) apart
    c.move_listed.new.into.members c.move_listed-2.new.into.members c.move_listed.ensures.moved c.move_listed-2.ensures.moved c.move_listed.ensures.into_order c.move_listed-2.ensures.into_order

pub returns-clause-left : goal.returns-clause-left
returns-clause-left c =
    let apart = rw (← c.self.view_is, ← c.into.view_is) at c.requires.apart in
    rw (← c.self.view_is)
    (left_either c.self.inside.walking.members c.self.inside.still.members c.into.inside.walking.members c.into.inside.still.members c.self.invariant c.into.invariant (λ (s : Standing). is_listed c.args.chunks.now (chunk_of s.at)) apart
    c.move_listed.new.self.members c.move_listed-2.new.self.members c.move_listed.ensures.left c.move_listed-2.ensures.left)

pub returns-clause-moved : goal.returns-clause-moved
returns-clause-moved c =
    let apart = rw (← c.self.view_is, ← c.into.view_is) at c.requires.apart in
    rw (← c.self.view_is, ← c.into.view_is)
    (moved_either c.self.inside.walking.members c.self.inside.still.members c.into.inside.walking.members c.into.inside.still.members c.self.invariant c.into.invariant (λ (s : Standing). is_listed c.args.chunks.now (chunk_of s.at)) apart
    c.move_listed.new.into.members c.move_listed-2.new.into.members c.move_listed.ensures.moved c.move_listed-2.ensures.moved)
