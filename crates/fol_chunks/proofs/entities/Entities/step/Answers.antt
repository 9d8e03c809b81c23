use Rattle.std.proofs.Common.{◌+◌, ◌∙◌, sym, ap, length, length-append}
use Rattle.fol_chunks.specs.Contents.{is_recorded}
use Rattle.fol_chunks.proofs.Often.{often_first, often_long, often_parted}
use Rattle.fol_chunks.proofs.entities.Entities.step.Goals as goal

pub invariant_of-self : goal.invariant_of-self
invariant_of-self c = rw c.step.ensures.moved (often_parted (is_recorded c.args.chunks.now) c.self.inside.still.members c.args.ticks c.self.inside.walking.members c.self.invariant)

pub returns-clause-moved : goal.returns-clause-moved
returns-clause-moved c = rw (c.step.ensures.moved, ← c.self.view_is) (often_first (is_recorded c.args.chunks.now) c.self.inside.still.members c.args.ticks c.self.inside.walking.members c.self.invariant)

pub returns-clause-len : goal.returns-clause-len
returns-clause-len c =
    let long = ap length c.step.ensures.moved ∙ often_long (is_recorded c.args.chunks.now) c.args.ticks c.self.inside.walking.members in
    rw (← c.self.view_is) (length-append _ _ ∙ ap (λ n. n + length c.self.inside.still.members) long ∙ sym (length-append _ _))
