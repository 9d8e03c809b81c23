use Rattle.std.proofs.Common.{◌≡◌, ◌∙◌, ap, [], pos, negsuc, refl, ℕ, Option, Some, None}
use Rattle.std.specs.Prelude.{IsTrue}
use Rattle.std.specs.List.Sorted.{IsStrictlySortedBy}
use Rattle.std.proofs.lemmas.List.Elements.{All-cons, All-nil}
use Rattle.fol_model.specs.declared.places.ChunkPos.{ChunkPos}
use Rattle.fol_model.specs.Geometry.{is_chunk}
use Rattle.fol_model.specs.ActionStep.{at_id}
use Rattle.fol_model.specs.Job.{Job, queued}
use Rattle.fol_store.specs.Stock.{jobs_of}
use Rattle.fol_data_tests.proofs.OneTask.{only_there}
use Rattle.fol_data_tests.proofs.stores.follows.Goals as goal

pub gather-requires-clause-order : goal.gather-requires-clause-order
unfolding IsStrictlySortedBy
gather-requires-clause-order c = (tt, tt)

pub gather-requires-clause-places : goal.gather-requires-clause-places
unfolding is_chunk
gather-requires-clause-places c =
    let west : ChunkPos = record { x = negsuc 0; z = pos 0 } in
    All-cons (λ (q : ChunkPos). IsTrue (is_chunk q)) west [] refl (All-nil (λ (q : ChunkPos). IsTrue (is_chunk q)))

pub turn_while-requires-clause-order : goal.turn_while-requires-clause-order
unfolding IsStrictlySortedBy
turn_while-requires-clause-order c = let whole = c.in_ok-gather.ensures.whole in rw whole (λ w. (tt, tt))

pub follow-first-requires-clause-only : goal.follow-first-requires-clause-only
follow-first-requires-clause-only c =
    let j : Job = queued c.task.result.chunk 5 c.task.result.action in
    let one : jobs_of c.accept.new.self ≡ at_id (λ k. None) c.task.result.number (Some j) = c.accept.ensures.tasks ∙ ap (λ (f : ℕ → Option Job). at_id f c.task.result.number (Some j)) c.requires.tasks in
    only_there (jobs_of c.turn_while.new.store) c.task.result.number j _ (c.turn_while.ensures.tasks ∙ c.in_ok-gather.ensures.tasks ∙ one) c.task.ensures.chunk

pub follow-second-requires-clause-only : goal.follow-second-requires-clause-only
follow-second-requires-clause-only c =
    let j : Job = queued c.task.result.chunk 5 c.task.result.action in
    let one : jobs_of c.accept.new.self ≡ at_id (λ k. None) c.task.result.number (Some j) = c.accept.ensures.tasks ∙ ap (λ (f : ℕ → Option Job). at_id f c.task.result.number (Some j)) c.requires.tasks in
    only_there (jobs_of c.follow-first.new.store) c.task.result.number j _ (c.follow-first.ensures.tasks ∙ c.turn_while.ensures.tasks ∙ c.in_ok-gather.ensures.tasks ∙ one) c.task.ensures.chunk

pub follow-third-requires-clause-only : goal.follow-third-requires-clause-only
follow-third-requires-clause-only c =
    let j : Job = queued c.task.result.chunk 5 c.task.result.action in
    let one : jobs_of c.accept.new.self ≡ at_id (λ k. None) c.task.result.number (Some j) = c.accept.ensures.tasks ∙ ap (λ (f : ℕ → Option Job). at_id f c.task.result.number (Some j)) c.requires.tasks in
    only_there (jobs_of c.follow-second.new.store) c.task.result.number j _ (c.follow-second.ensures.tasks ∙ c.follow-first.ensures.tasks ∙ c.turn_while.ensures.tasks ∙ c.in_ok-gather.ensures.tasks ∙ one) c.task.ensures.chunk
