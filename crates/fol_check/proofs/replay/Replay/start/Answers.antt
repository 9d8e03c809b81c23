use Rattle.std.proofs.Common.{refl, subst}
use Rattle.fol_model.specs.GridNumbers.{IsGrid}
use Rattle.fol_model.specs.declared.openings.Opening.{Opening}
use Rattle.fol_check.specs.declared.replay.Replay.{Replay}
use Rattle.fol_check.proofs.Starting.{starts}
use Rattle.fol_check.proofs.replay.Replay.start.Goals as goal

pub returns : goal.returns
returns c =
    let P : Opening → Type 0 = λ o. IsGrid o.grid in
    let s : Replay = record { core = c.in_ok-core.core; script = c.args.script; next = 0; workers = c.in_ok-workers.workers } in
    starts s c.args.opening c.args.script (subst P c.opening.view_is c.opening.invariant.grid) c.in_ok-core.ensures.opening c.in_ok-core.ensures.empty c.in_ok-core.ensures.none refl refl
    c.in_ok-workers.ensures.all c.in_ok-workers.ensures.none
