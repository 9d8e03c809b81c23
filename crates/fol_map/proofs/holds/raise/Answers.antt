use Rattle.std.proofs.Common.{Some, ◌+◌, arith}
use Rattle.fol_map.proofs.Tickets.{counted_at, raised_at}
use Rattle.fol_map.proofs.holds.raise.Goals as goal

pub returns-clause-counted : goal.returns-clause-counted
returns-clause-counted c = counted_at c.args.counts.now c.insert.new.self c.args.chunk (Some (c.count-count.result + 1)) (omega arith) c.in_ok-insert.ensures.updates.0 c.requires.counted

pub returns-clause-raised : goal.returns-clause-raised
returns-clause-raised c = raised_at c.args.counts.now c.insert.new.self c.args.chunk c.count-count.result c.count-count.ensures c.in_ok-insert.ensures.updates.0
