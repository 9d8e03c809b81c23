use Rattle.fol_script.proofs.Keeping.{one_moved}
use Rattle.fol_script.proofs.kept.Kept.mix.Goals as goal

pub loop-key-preserved : goal.loop-key-preserved
loop-key-preserved g c = λ up.
    one_moved g.K.Ord.cmp _ c.loop-key.self.rising.items c.pop.new.self.items c.loop-key.self.mixed.entries c.insert.new.self.entries c.in-Some.key c.in-Some.value (c.loop-key.invariant up) c.in-Some.ensures.items c.in_ok-insert.ensures.entries up

pub loop-key-preserved-in_ok-insert : goal.loop-key-preserved-in_ok-insert
loop-key-preserved-in_ok-insert g c = λ up.
    one_moved g.K.Ord.cmp _ c.loop-key.self.rising.items c.pop.new.self.items c.loop-key.self.mixed.entries c.insert.new.self.entries c.in-Some.key c.in-Some.value (c.loop-key.invariant up) c.in-Some.ensures.items c.in_ok-insert.ensures.entries up
