use Rattle.std.proofs.Common.{◌∙◌, arith}
use Rattle.fol_store.specs.Stock.{next_of}
use Rattle.fol_store.proofs.Totals.{same_flat, same_jobs}
use Rattle.fol_store.proofs.store.Store.expel.Goals as goal

pub returns-in-Ok-clause-next : goal.returns-in-Ok-clause-next
unfolding next_of
returns-in-Ok-clause-next c = c.try_expel.ensures.same.bags

pub returns-in-Ok-clause-contents : goal.returns-in-Ok-clause-contents
returns-in-Ok-clause-contents c = same_flat _ _ c.try_expel.ensures.same.found

pub returns-in-Ok-clause-tasks : goal.returns-in-Ok-clause-tasks
returns-in-Ok-clause-tasks c = same_jobs _ _ c.try_expel.ensures.same.found

pub returns-in-Err-clause-next : goal.returns-in-Err-clause-next
unfolding next_of
returns-in-Err-clause-next c = c.unsettle.ensures.next ∙ c.try_expel.ensures.same.bags

pub returns-in-Err-clause-contents : goal.returns-in-Err-clause-contents
returns-in-Err-clause-contents c = c.unsettle.ensures.contents ∙ same_flat _ _ c.try_expel.ensures.same.found

pub returns-in-Err-clause-tasks : goal.returns-in-Err-clause-tasks
returns-in-Err-clause-tasks c = c.unsettle.ensures.tasks ∙ same_jobs _ _ c.try_expel.ensures.same.found

pub returns-in-Err-clause-spare : goal.returns-in-Err-clause-spare
returns-in-Err-clause-spare c = omega (arith, c.try_expel.ensures.same.spare, c.unsettle.ensures.spare)

pub returns-in-Err-clause-slots : goal.returns-in-Err-clause-slots
returns-in-Err-clause-slots c = omega (arith, c.try_expel.ensures.same.slots, c.unsettle.ensures.slots)
