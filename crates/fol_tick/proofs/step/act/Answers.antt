use Rattle.std.proofs.Common.{[], refl}
use Rattle.fol_tick.proofs.OneTask.{not_hosted}
use Rattle.fol_tick.proofs.step.act.Goals as goal

pub returns-in_default : goal.returns-in_default
returns-in_default g c =
    let k = c.in_default.not-Load in let w = c.in_default.not-Unload in
    record {
      ok = ([], g.met.H.Host.stays _, rw (not_hosted c.args.action.now k w) refl, c.act_here.ensures.acts);
      refused = tt;
      hosted = tt;
      same = tt;
      spare = c.act_here.ensures.spare;
    }
