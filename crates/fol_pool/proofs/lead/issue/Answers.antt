use Rattle.std.proofs.Common.{◌&&◌}
use Rattle.std.proofs.lemmas.Bool.{and_parts}
use Rattle.fol_model.specs.Geometry.{is_chunk}
use Rattle.fol_model.specs.IsScript.{is_line_action}
use Rattle.fol_model.specs.Limits.{is_count, is_delay}
use Rattle.fol_pool.proofs.LineActions.{line_may, repeated_may, repeated_within}
use Rattle.fol_pool.proofs.lead.issue.Goals as goal

pub post-requires-clause-may_be_posted : goal.post-requires-clause-may_be_posted
post-requires-clause-may_be_posted g c =
    let x = c.in-Post in
    line_may x.action (and_parts (is_chunk x.chunk && is_delay x.delay) (is_line_action x.action) (rw x.is at c.requires.limits)).1

pub post-requires-in-Ok-clause-action : goal.post-requires-in-Ok-clause-action
post-requires-in-Ok-clause-action g c =
    let x = c.in-Every in
    let both = and_parts ((is_chunk x.chunk && is_delay x.delay) && (is_delay x.period && is_count x.count)) (is_line_action x.action) (rw x.is at c.requires.limits) in
    let numbers = and_parts (is_chunk x.chunk && is_delay x.delay) (is_delay x.period && is_count x.count) both.0 in
    rw c.in-Ok.ensures (repeated_within x.period x.count x.action numbers.1 both.1)

pub post-requires-in-Ok-clause-may_be_posted : goal.post-requires-in-Ok-clause-may_be_posted
post-requires-in-Ok-clause-may_be_posted g c =
    let x = c.in-Every in
    let both = and_parts ((is_chunk x.chunk && is_delay x.delay) && (is_delay x.period && is_count x.count)) (is_line_action x.action) (rw x.is at c.requires.limits) in
    rw c.in-Ok.ensures (repeated_may x.period x.count x.action both.1)
