-- A chunk that no queued task is on.
use Rattle.std.proofs.Common.{◌≡◌, false, refl, sym, ◌∙◌, ap, Option, Some, None}
use Rattle.fol_model.specs.declared.places.ChunkPos.{ChunkPos}
use Rattle.fol_model.specs.Job.{Job, is_on}
use Rattle.fol_bags.specs.Clear.{HasNoTask}
use Rattle.fol_bags.specs.Things.{of_task}
use Rattle.fol_store.specs.Stock.{Stock, Where, column, jobs_of}
use Rattle.fol_store.proofs.Totals.{IsUnique, found_of}

-- none in any part of a store in which none is
pub none_in_part : (s : Stock) (c : ChunkPos) → IsUnique s → HasNoTask c (jobs_of s) → (w : Where) → HasNoTask c (λ n. column s (of_task n) w)
unfolding jobs_of
none_in_part s c one none w n = go (column s (of_task n) w) refl
  where
    go : (o : Option Job) → column s (of_task n) w ≡ o → is_on c o ≡ false
    go None e = refl
    go (Some j) e = ap (is_on c) (sym (found_of s one (of_task n) w j e)) ∙ none n
