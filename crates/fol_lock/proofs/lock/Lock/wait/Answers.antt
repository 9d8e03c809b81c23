use Rattle.std.proofs.Common.{rules, ◌∙◌, ap}
use Rattle.atomic_table.specs.Table.{step}
use mathlib.Core.Option.{none}
use Rattle.fol_lock.proofs.Looks.{looks}
use Rattle.fol_lock.proofs.lock.Lock.wait.Goals as goal

pub load-requires : goal.load-requires
load-requires g c =
    let same = c.loop-2.invariant.1 ∙ c.loop.invariant.1 in
    let had = c.requires.1 in (
      search rules,
      search rules,
      looks _ _ _ _ _ (step 0 0 0 0 none) _ _ _ (ap (λ m. m.0.live) same ∙ had.live) (ap (λ m. m.0.draws) same ∙ had.draws) (ap (λ m. m.0.turn) same ∙ had.no_turn),
    )
