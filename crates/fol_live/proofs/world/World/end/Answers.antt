use Rattle.std.proofs.Common.{ℕ, sym, subst}
use Rattle.std.specs.Prelude.{Result}
use Rattle.std.specs.Global.{Box}
use Rattle.fol_data.specs.declared.tick.Tick.{Tick}
use Rattle.fol_live.specs.Shown.{Shown}
use Rattle.fol_live.specs.Turns.{Ends, PassesOn}
use Rattle.fol_live.proofs.world.World.end.Goals as goal

pub returns-in-Ok-clause-ends : goal.returns-in-Ok-clause-ends
returns-in-Ok-clause-ends c = record {
  ended = c.end_tick-seat.new.self;
  ends = subst (λ (r : Result ℕ (Box Tick)). Ends c.args.self.now c.end_tick-seat.new.self c.args.tick.value r) c.in-Ok.is c.end_tick-seat.ensures.ends;
  passed =
      let here = subst (λ (t : Tick). PassesOn c.end_tick-seat.new.self c.pass.new.self t.worker c.args.most) c.deref.ensures c.pass.ensures in
      subst (λ (s : Shown). PassesOn c.end_tick-seat.new.self s c.args.tick.value.worker c.args.most) (sym c.offer_rest.ensures) here;
  refused = tt;
}

pub returns-in-Err-clause-ends : goal.returns-in-Err-clause-ends
returns-in-Err-clause-ends c = record {
  ended = c.end_tick-seat.new.self;
  ends = subst (λ (r : Result ℕ (Box Tick)). Ends c.args.self.now c.end_tick-seat.new.self c.args.tick.value r) c.in-Err.is c.end_tick-seat.ensures.ends;
  passed = tt;
  refused = c.offer_rest-in-Err.ensures;
}
