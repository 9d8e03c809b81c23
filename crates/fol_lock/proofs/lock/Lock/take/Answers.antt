use Rattle.std.proofs.Common.{rules, ap, ◌∙◌, sym, ◌∷◌, Some, cond}
use mathlib.Core.Option.{none}
use Rattle.atomic_table.specs.Table.{step, rest}
use Rattle.fol_lock.proofs.Draws.{draws}
use Rattle.fol_lock.proofs.lock.Lock.take.Goals as goal

pub fetch_add-ticket-requires : goal.fetch_add-ticket-requires
fetch_add-ticket-requires g c =
    let no_turn = ap (λ s. s.has_turn) c.seat.view_is ∙ c.requires.1 in
    let sits = c.seat.invariant in (
      search rules,
      search rules,
      draws _ _ _ _ _ (step 0 0 0 0 none) _ _ _ sits.live (sits.draws ∙ ap (λ turn. cond turn 1 0) no_turn) no_turn,
    )

pub exchange-requires : goal.exchange-requires
exchange-requires g c =
    let turn = c.wait.ensures.turn in
    let out = ap (λ m. m.1) turn.after_is in (
      search rules,
      (Some turn.state, out ∙ ap (λ l. (0, Some turn.state) ∷ rest l) (sym out)),
    )
