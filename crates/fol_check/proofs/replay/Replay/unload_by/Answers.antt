use Rattle.fol_check.proofs.replay.Replay.unload_by.Goals as goal

pub returns-then-caller-eq0 : goal.returns-then-caller-eq0
returns-then-caller-eq0 c = let zero = c.if-caller-eq0.true in rw zero c.unload.ensures
