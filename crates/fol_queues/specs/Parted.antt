-- A queue that was parted by a test.
use Rattle.std.specs.Prelude.{ℕ, ◌≡◌, Bool, true, List, ◌++◌, All, map}
use Rattle.std.specs.List.Sorted.{IsPermutation}
use Rattle.fol_model.specs.declared.tasks.Task.{Task}
pub use Rattle.fol_keyed.specs.Parted.{Parted}
use Rattle.fol_queues.specs.declared.dated.Dated.{Dated}
use Rattle.fol_queues.specs.Waiting.{is_due}

-- the due tasks were moved, and their deadlines are gone
pub record DueParted (now : ℕ) (xs left : List Dated) (out : List Task) : Type 0 where
  pub due : List Dated
  pub tasks : IsPermutation (map (λ d. d.task) due) out
  pub parted : Parted (is_due now) xs left due

-- some due tasks were moved, and their deadlines are gone
pub record IsTakingDue (now : ℕ) (xs left : List Dated) (out : List Task) : Type 0 where
  pub due : List Dated
  pub tasks : out ≡ map (λ d. d.task) due
  pub all : IsPermutation xs (due ++ left)
  pub yes : All (λ d. is_due now d ≡ true) due

-- what passes joined others, each changed by f
pub record MovedInto (p : Dated → Bool) (f : Dated → Dated) (xs left others joined : List Dated) : Type 0 where
  pub moved : List Dated
  pub joins : IsPermutation (others ++ map f moved) joined
  pub parted : Parted p xs left moved
