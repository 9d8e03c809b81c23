use Rattle.std.proofs.Common.{refl, ◌+◌, ◌∙◌, arith}
use Rattle.fol_core.proofs.QuietRuns.{no_ticks, tick_more}
use Rattle.fol_core.proofs.quiet.record_ticks.Goals as goal

pub loop-i-init : goal.loop-i-init
loop-i-init c = record {
  entries = no_ticks c.args.history.now.items c.args.worker c.args.id c.args.before;
  len = omega arith;
  capacity = refl;
}

pub loop-i-preserved : goal.loop-i-preserved
loop-i-preserved c = record {
  entries = rw (c.push_reserved-in-loop-i.ensures.items, c.push_reserved.ensures.items, c.light.ensures, c.light-in-loop-i.ensures)
      (tick_more _ c.args.history.now.items c.args.worker c.args.id c.args.before c.loop-i.i (c.args.before + c.loop-i.i + 1) _ _ c.loop-i.invariant.entries refl c.new.ensures c.new-in-loop-i.ensures);
  len = omega (arith, c.push_reserved-in-loop-i.ensures.len, c.push_reserved.ensures.len, c.loop-i.invariant.len);
  capacity = c.push_reserved-in-loop-i.ensures.capacity ∙ c.push_reserved.ensures.capacity ∙ c.loop-i.invariant.capacity;
}
