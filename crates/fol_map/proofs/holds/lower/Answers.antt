use Rattle.std.proofs.Common.{Some, None, ◌-◌, arith}
use Rattle.fol_map.proofs.Tickets.{counted_at, lowered_at}
use Rattle.fol_map.proofs.holds.lower.Goals as goal

pub returns-in_ok-insert-clause-counted : goal.returns-in_ok-insert-clause-counted
returns-in_ok-insert-clause-counted c = counted_at c.args.counts.now c.insert.new.self c.args.chunk (Some (c.count-count.result - 1)) (omega arith) c.in_ok-insert.ensures.updates.0 c.requires.counted

pub returns-in_ok-insert-clause-lowered : goal.returns-in_ok-insert-clause-lowered
returns-in_ok-insert-clause-lowered c = lowered_at c.args.counts.now c.insert.new.self c.args.chunk (Some (c.count-count.result - 1)) (omega (arith, c.count-count.ensures)) c.in_ok-insert.ensures.updates.0

pub returns-else-count-gt1-clause-counted : goal.returns-else-count-gt1-clause-counted
returns-else-count-gt1-clause-counted c = counted_at c.args.counts.now c.remove-last.new.self c.args.chunk None tt c.remove-last.ensures.updates.0 c.requires.counted

pub returns-else-count-gt1-clause-lowered : goal.returns-else-count-gt1-clause-lowered
returns-else-count-gt1-clause-lowered c = lowered_at c.args.counts.now c.remove-last.new.self c.args.chunk None (omega (arith, c.count-count.ensures)) c.remove-last.ensures.updates.0
