use Rattle.std.proofs.Common.{◌∙◌, sym}
use Rattle.std.proofs.lemmas.Bool.{true≢false}
use Rattle.fol_core.proofs.Ahead.{owes_free}
use Rattle.fol_core.proofs.AheadAnswers.{none_free, owing_tables, top_free}
use Rattle.fol_core.proofs.machine.Core.next_owing.Goals as goal

pub returns-then-owes-clause-some : goal.returns-then-owes-clause-some
returns-then-owes-clause-some c = rw (← c.self.view_is) (sym (owes_free _ _ _ _ c.self.invariant.0 c.args.first) ∙ sym c.owes.ensures ∙ c.if-owes.true)

pub returns-clause-first : goal.returns-clause-first
returns-clause-first c = λ free. absurd (true≢false (sym (owing_tables _ _ _ _ c.self.invariant.0 c.args.first (rw (← c.self.view_is) at free)) ∙ sym c.owes.ensures ∙ c.if-owes.false))

pub returns-clause-some : goal.returns-clause-some
returns-clause-some c = rw (← c.self.view_is) (top_free _ _ _ _ c.self.invariant.0 c.copied.result (c.copied.ensures ∙ rw c.deref.ensures.value at c.last.ensures.value))

pub returns-clause-none : goal.returns-clause-none
returns-clause-none c = rw (← c.self.view_is) (none_free _ _ _ _ c.self.invariant.0 c.copied.result (c.copied.ensures ∙ rw c.deref.ensures.value at c.last.ensures.value))
