use Rattle.std.proofs.Common.{ℕ, refl, ◌∙◌, ap, Option, Some}
use Rattle.fol_model.specs.ActionStep.{at_id}
use Rattle.fol_model.specs.Job.{Job, queued}
use Rattle.fol_store.proofs.store.Store.accept.Goals as goal

pub queue_in-requires-clause-takes : goal.queue_in-requires-clause-takes
queue_in-requires-clause-takes c = c.in-Some.ensures.found c.in-Some.id refl

pub queue_in-requires-clause-fresh : goal.queue_in-requires-clause-fresh
queue_in-requires-clause-fresh c = let e = c.room_at.ensures.same.tasks in rw e c.requires.fresh

pub hold_back-requires-clause-fresh : goal.hold_back-requires-clause-fresh
hold_back-requires-clause-fresh c = let e = c.room_at.ensures.same.tasks in rw e c.requires.fresh

pub returns-in-Some-clause-tasks : goal.returns-in-Some-clause-tasks
returns-in-Some-clause-tasks c = c.queue_in.ensures.tasks ∙ ap (λ (f : ℕ → Option Job). at_id f c.args.task.number (Some (queued c.args.task.chunk c.args.delay c.args.task.action))) c.room_at.ensures.same.tasks

pub returns-in-Some-clause-contents : goal.returns-in-Some-clause-contents
returns-in-Some-clause-contents c = c.queue_in.ensures.contents ∙ c.room_at.ensures.same.contents

pub returns-in-None-clause-tasks : goal.returns-in-None-clause-tasks
returns-in-None-clause-tasks c = c.hold_back.ensures.tasks ∙ ap (λ (f : ℕ → Option Job). at_id f c.args.task.number (Some (queued c.args.task.chunk c.args.delay c.args.task.action))) c.room_at.ensures.same.tasks

pub returns-in-None-clause-contents : goal.returns-in-None-clause-contents
returns-in-None-clause-contents c = c.hold_back.ensures.contents ∙ c.room_at.ensures.same.contents
