use Rattle.std.proofs.Common.{◌≡◌, true, refl, ◌∙◌, ap}
use Rattle.std.proofs.lemmas.Bool.{and_parts}
use Rattle.fol_model.specs.Begin.{begin}
use Rattle.fol_model.specs.GridState.{GridState, is_ready}
use Rattle.fol_laws.proofs.GridFields.{begin_here}
use Rattle.fol_regions.specs.Table.{grid_state}
use Rattle.fol_queues.specs.Waiting.{task_in}
use Rattle.fol_chunks.specs.Contents.{is_recorded}
use Rattle.fol_store.specs.Stock.{bag_of, jobs_of}
use Rattle.fol_world.proofs.TakenJobs.{due_tasks, left_jobs}
use Rattle.fol_world.proofs.begins.hand_out.Goals as goal

pub returns-clause-left : goal.returns-clause-left
returns-clause-left c = left_jobs (is_recorded (bag_of c.args.tables.now.store c.args.id).chunks) c.take-chunks.result.body.tick c.take-chunks.result.body.queues.tasks c.take_due.new.self.tasks (jobs_of c.args.tables.now.store)
    c.take-chunks.ensures.in_time c.take-chunks.ensures.moved_tasks c.take_due.ensures.left

pub returns-clause-due : goal.returns-clause-due
returns-clause-due c = ap task_in c.of.ensures ∙ due_tasks (is_recorded (bag_of c.args.tables.now.store c.args.id).chunks) c.take-chunks.result.body.tick c.take-chunks.result.body.queues.tasks c.take_due.new.self.tasks (jobs_of c.args.tables.now.store)
    c.take-chunks.ensures.in_time c.take-chunks.ensures.moved_tasks _ c.take_due.ensures.taken

pub tidy_without-requires-clause-state : goal.tidy_without-requires-clause-state
tidy_without-requires-clause-state c =
    let g : GridState = grid_state c.args.tables.now.regions in
    let ready : is_ready (g.state c.args.id) ≡ true = (and_parts _ _ c.requires.owing).0 in
    let e : grid_state c.begin.new.self ≡ begin g c.args.id = c.begin.ensures.state ∙ rw ready refl in
    rw e (ap is_ready (begin_here g c.args.id))
