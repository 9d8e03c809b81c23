-- Tasks that are in time, one by one.
use Rattle.std.proofs.Common.{ℕ, List, get_or}
use Rattle.std.specs.Prelude.{All, nat_eq}
use Rattle.std.specs.Option.{ForSome}
use Rattle.std.proofs.lemmas.Bool.{eqb-true}
use Rattle.std.proofs.lemmas.List.Elements.{Contains-get_or}
use Rattle.fol_keyed.proofs.Keyed.{find_own}
use Rattle.fol_queues.proofs.Numbers.{nat_self}
use Rattle.fol_queues.specs.Distinct.{Distinct}
use Rattle.fol_queues.specs.Waiting.{dated_in}
use Rattle.fol_queues.specs.declared.dated.Dated.{Dated}
use Rattle.fol_data.specs.Rests.{IsInTime}

-- where the task of each number is in time, all are
pub all_in_time : (tick : ℕ) (ds : List Dated) → Distinct ds → ((n : ℕ) → ForSome (dated_in ds n) (IsInTime tick)) → All (IsInTime tick) ds
all_in_time tick ds d h = λ k e l. h (get_or ds k e).task.number (get_or ds k e) (find_own nat_eq eqb-true nat_self (λ (q : Dated). q.task.number) ds (get_or ds k e) d (Contains-get_or ds k e l))
