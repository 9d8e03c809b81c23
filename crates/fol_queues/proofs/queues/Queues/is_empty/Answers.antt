use Rattle.std.proofs.Common.{ap, arith, length, sym, ◌∙◌}
use Rattle.std.proofs.lemmas.Bool.{eqb-false}
use Rattle.fol_queues.proofs.Coming.{length_with_again}
use Rattle.fol_queues.proofs.queues.Queues.is_empty.Goals as goal

pub returns-else-is_empty : goal.returns-else-is_empty
returns-else-is_empty c =
    let some = eqb-false c.self.inside.tasks.len 0 (sym c.is_empty.ensures ∙ c.if-is_empty.false) in
    let total = length_with_again c.self.inside.tasks.items c.self.inside.again.items c.self.inside.deadline in
    (λ t. absurd (cc), rw (← c.self.view_is) (λ e. absurd (some (omega (arith, total, ap length e)))))
