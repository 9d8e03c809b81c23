use Rattle.std.proofs.Common.{arith}
use Rattle.fol_check.proofs.Places.{post_by_none}
use Rattle.fol_check.proofs.replay.Replay.post_by.Goals as goal

pub returns-then-caller-eq0 : goal.returns-then-caller-eq0
returns-then-caller-eq0 c = let zero = c.if-caller-eq0.true in rw zero c.post.ensures

pub returns-else-caller-eq0 : goal.returns-else-caller-eq0
returns-else-caller-eq0 c = post_by_none c.args.self.now c.args.caller c.args.chunk c.args.delay c.args.action c.args.answer (let other = c.if-caller-eq0.false in omega arith)
