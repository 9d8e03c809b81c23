use Rattle.std.proofs.Common.{◌∙◌}
use Rattle.fol_data.specs.Rests.{rests_of}
use Rattle.fol_chunks.specs.Contents.{flat_of as contents_of}
use Rattle.fol_store.specs.Stock.{flat_of, jobs_of, bag_of}
use Rattle.fol_data_tests.proofs.Returning.{contents_return, contents_apart, tasks_again, tasks_return, tasks_apart}
use Rattle.fol_data_tests.proofs.stores.turn_while.Goals as goal

pub put-requires-clause-contents_there : goal.put-requires-clause-contents_there
put-requires-clause-contents_there c =
    contents_return c.take-taken.result.chunks (bag_of c.args.store.now c.args.id).chunks (contents_of c.take-taken.result.body.chunks) (flat_of c.args.store.now) c.take-taken.ensures.chunks c.take-taken.ensures.moved_contents

pub put-requires-clause-contents_apart : goal.put-requires-clause-contents_apart
put-requires-clause-contents_apart c =
    contents_apart (bag_of c.args.store.now c.args.id).chunks (contents_of c.take-taken.result.body.chunks) (flat_of c.lose.new.self) (flat_of c.args.store.now)
    (c.lose.ensures.contents ∙ c.gain.ensures.contents ∙ c.take-taken.ensures.contents) c.take-taken.ensures.moved_contents

pub put-requires-clause-tasks_there : goal.put-requires-clause-tasks_there
put-requires-clause-tasks_there c =
    tasks_return c.take-taken.result.chunks (bag_of c.args.store.now c.args.id).chunks (rests_of c.take-taken.result.body) (jobs_of c.args.store.now) c.take-taken.ensures.chunks c.take-taken.ensures.moved_tasks

pub put-requires-clause-tasks_apart : goal.put-requires-clause-tasks_apart
put-requires-clause-tasks_apart c =
    tasks_apart (bag_of c.args.store.now c.args.id).chunks (rests_of c.take-taken.result.body) (jobs_of c.lose.new.self) (jobs_of c.args.store.now)
    (c.lose.ensures.tasks ∙ c.gain.ensures.tasks ∙ c.take-taken.ensures.tasks) c.take-taken.ensures.moved_tasks

pub returns-clause-tasks : goal.returns-clause-tasks
returns-clause-tasks c =
    c.put.ensures.tasks
    ∙ tasks_again (bag_of c.args.store.now c.args.id).chunks (rests_of c.take-taken.result.body) (jobs_of c.lose.new.self) (jobs_of c.args.store.now)
    (c.lose.ensures.tasks ∙ c.gain.ensures.tasks ∙ c.take-taken.ensures.tasks) c.take-taken.ensures.moved_tasks
