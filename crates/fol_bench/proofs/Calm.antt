-- A core in which no region is prepared, after a call that may fail.
use Rattle.std.specs.Prelude.{Result, Ok, Err, IfOk, OnErr}
use Rattle.fol_core.specs.Meaning.{Meaning, Stays}
use Rattle.fol_tick_laws.proofs.Unprepared.{IsCalm, calm_as}

-- it is one still where what the call records leaves it so, and where the call fails
pub calm_kept : {X Y : Type 0} (m n : Meaning) (r : Result X Y) (P : X → Type 0) → ((a : X) → P a → IsCalm m → IsCalm n) → IfOk r P → OnErr r (Stays m n) → IsCalm m → IsCalm n
calm_kept m n (Ok a) P step did stays calm = step a did calm
calm_kept m n (Err e) P step did stays calm = calm_as m n stays.opening stays.prepared calm
