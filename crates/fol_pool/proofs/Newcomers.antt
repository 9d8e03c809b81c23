-- The seats of a new world.
use Rattle.std.proofs.Common.{◌≡◌, ℕ, zero, suc, ◌+◌, ◌<◌, ◌≤◌, refl, sym, ◌∙◌, ap, subst, List, [], ◌∷◌, length, arith, Some}
use Rattle.std.specs.Prelude.{slice_get, slice_index_or}
use Rattle.std.specs.List.{AllByRecursion, remove}
use Rattle.std.specs.Option.{unwrap_or}
use Rattle.fol_model.specs.GridNumbers.{IsGrid}
use Rattle.fol_model.specs.declared.openings.Opening.{Opening}
use Rattle.fol_seat_laws.specs.InTurn.{AreInTurn}
use Rattle.fol_live.specs.Seat.{LiveId, Shown}
use Rattle.fol_live.specs.Seats.{AreNewSeats, newcomer}
use Rattle.fol_pool.specs.Team.{IsReady}
use Rattle.fol_pool.specs.Works.{Rests}

-- new seats, numbered from n
abbrev pub NewFrom : LiveId → Opening → ℕ → List Shown → Type 0
NewFrom l o n [] = Unit {0}
NewFrom l o n (s ∷ ss) = (s ≡ newcomer l o n) × NewFrom l o (suc n) ss

from_get : (l : LiveId) (o : Opening) (n : ℕ) (xs : List Shown) → ((k : ℕ) → k < length xs → slice_get xs k ≡ Some (newcomer l o (n + k))) → NewFrom l o n xs
from_get l o n [] each = tt
from_get l o n (x ∷ xs) each =
    let first : x ≡ newcomer l o (n + 0) = ap (λ r. unwrap_or r x) (each zero (omega arith)) in
    let none : n + 0 ≡ n = omega arith in (
      first ∙ ap (newcomer l o) none,
      from_get l o (suc n) xs (λ k low.
          let more : n + suc k ≡ suc n + k = omega arith in
          each (suc k) (omega arith) ∙ ap (λ m. Some (newcomer l o m)) more),
    )

pub new_from : (l : LiveId) (o : Opening) (count : ℕ) (seats : List Shown) → AreNewSeats l o count seats → NewFrom l o 0 seats
new_from l o count seats new =
    let many = new.as_many in
    from_get l o 0 seats (λ k low. let same : 0 + k ≡ k = omega arith in new.each k (omega arith) ∙ ap (λ m. Some (newcomer l o m)) (sym same))

-- ---- the caller's seat and the others

pub record Dealt (l : LiveId) (o : Opening) (w : ℕ) (c : Shown) (ws : List Shown) : Type 0 where
  pub caller : c ≡ newcomer l o 0
  pub workers : NewFrom l o 1 ws
  pub many : length ws ≡ w

pub dealt : (l : LiveId) (o : Opening) (w : ℕ) (xs : List Shown) (c : Shown) (ws : List Shown) → AreNewSeats l o (w + 1) xs → c ≡ slice_index_or xs 0 c → ws ≡ remove xs 0 → Dealt l o w c ws
dealt l o w [] c ws new first rest = let many = new.as_many in absurd (omega (arith, many))
dealt l o w (x ∷ xs) c ws new first rest =
    let all = new_from l o (w + 1) (x ∷ xs) new in
    let many = new.as_many in
    record { caller = first ∙ all.0; workers = rw rest all.1; many = rw rest (omega (arith, many)) }

-- ---- none of them has done anything

none_begun : AreInTurn []
none_begun [] e after k r is begins = absurd (cc)
none_begun (x ∷ before) e after k r is begins = absurd (cc)

rests_new : (l : LiveId) (o : Opening) (n : ℕ) → 1 ≤ n → IsGrid o.grid → Rests (newcomer l o n)
rests_new l o zero some grid = absurd (omega (arith, some))
rests_new l o (suc n) some grid = record {
  works = record {
    calm = record { some = some; keeps = record { grid = grid; run = tt; signed = tt; turns = record { turns = none_begun; below = tt } }; own = refl; calm = tt };
    whole = record { seen = []; rest = []; is = refl; behind = tt; ticks = λ go. refl };
  };
  free = refl;
}

pub all_ready : (l : LiveId) (o : Opening) (n : ℕ) (xs : List Shown) → 1 ≤ n → IsGrid o.grid → NewFrom l o n xs → AllByRecursion (IsReady l) xs
all_ready l o n [] some grid new = tt
all_ready l o n (x ∷ xs) some grid new =
    (subst (IsReady l) (sym new.0) (record { own = refl; rests = rests_new l o n some grid }), all_ready l o (suc n) xs (omega arith) grid new.1)
