use Rattle.fol_store.proofs.Timing.{all_in_time}
use Rattle.fol_store.proofs.rows.add_body.Goals as goal

pub add_tasks-requires : goal.add_tasks-requires
add_tasks-requires c =
    let d = rw c.into_tasks.ensures.tasks at c.into_tasks.ensures.distinct in
    rw c.into_tasks.ensures.tasks (all_in_time c.args.body.tick c.args.body.queues.tasks d c.requires.in_time)
