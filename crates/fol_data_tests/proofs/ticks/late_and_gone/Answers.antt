use Rattle.std.proofs.Common.{List, [], ◌∷◌, refl}
use Rattle.std.specs.Prelude.{IsTrue}
use Rattle.std.proofs.lemmas.List.Elements.{All-from_recursion}
use Rattle.fol_model.specs.declared.tasks.Task.{Task}
use Rattle.fol_model.specs.Geometry.{is_block, is_chunk, chunk_of}
use Rattle.fol_model.specs.Limits.{is_action}
use Rattle.fol_data_tests.proofs.ticks.late_and_gone.Goals as goal

pub returns-clause-limits : goal.returns-clause-limits
unfolding is_block is_chunk chunk_of
returns-clause-limits c =
    let tasks : List Task = c.task.result ∷ (c.task-2.result ∷ []) in
    rw c.in_ok-vec.ensures.items
    (All-from_recursion (λ (t : Task). IsTrue (is_action t.action)) tasks
    (rw c.task.ensures refl, (rw c.task-2.ensures refl, tt)))
