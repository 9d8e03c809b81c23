-- What becomes of the counters of the regions and of what they owe, when regions join and part.
-- A number that was not given out yet has counter 0, so that a new region which is no part of a split begins with it.
use Rattle.std.specs.Prelude.{ℕ, Bool, ◌||◌, nat_eq, if◌then◌else◌}
use Rattle.fol_model.specs.Counting.{greatest_below}
use Rattle.fol_model.specs.declared.places.ChunkPos.{ChunkPos}
use Rattle.fol_model.specs.GridState.{GridState}
use Rattle.fol_model.specs.Add.{is_near_calm, target, is_full, wanted}
use Rattle.fol_model.specs.Release.{is_new_part}

-- the target owes what the one of its regions owes that owes most, and a new region owes nothing
unfoldable pub owed_after_add : GridState → ChunkPos → (ℕ → ℕ) → ℕ → ℕ
owed_after_add g c owed r =
    if is_full g c || nat_eq (wanted g c) 0 then owed r
    else (if nat_eq r (target g c) then greatest_below (is_near_calm g c) owed g.next else owed r)

-- t with those that join it
abbrev pub joins : GridState → ℕ → ℕ → Bool
joins g t u = nat_eq u t || g.waits u t

-- t owes what the one of its regions owes that owes most, and each part owes as much
unfoldable pub owed_after_release : GridState → ℕ → (ℕ → ℕ) → ℕ → ℕ
owed_after_release g t owed r = if nat_eq r t || is_new_part g t r then greatest_below (joins g t) owed g.next else owed r

-- the counter of t stays, and each part has it too
unfoldable pub tick_after_release : GridState → ℕ → (ℕ → ℕ) → ℕ → ℕ
tick_after_release g t tick r = if is_new_part g t r then tick t else tick r
