-- For callers: that new seats are idle, and that seats are all the seats.
use Rattle.std.proofs.Common.{◌≡◌, ℕ, zero, suc, ◌<◌, List, [], ◌∷◌, length, refl, sym, ap, subst, Option, Some, Contains, All, arith}
use Rattle.std.specs.Prelude.{slice_get}
use Rattle.std.specs.Option.{unwrap_or}
use Rattle.std.proofs.lemmas.List.Elements.{All-nil, All-cons}
use Rattle.fol_lock.specs.Seat.{LockId, Shown, newcomer, IsIdle, AreNew, AreAll, numbers_of}

all_from_get : {X : Type 0} (P : X → Type 0) (xs : List X) → ((k : ℕ) → k < length xs → (x : X) × (slice_get xs k ≡ Some x) × P x) → All P xs
all_from_get P [] each = All-nil P
all_from_get P (x ∷ xs) each =
    let first = each zero (omega arith) in
    All-cons P x xs (subst P (ap (λ o. unwrap_or o x) (sym first.1)) first.2) (all_from_get P xs (λ k low. each (suc k) (omega arith)))

module _ {O E : Type 0} where
  number_there : (seats : List (Shown O E)) (k : ℕ) (s : Shown O E) → slice_get seats k ≡ Some s → Contains (numbers_of seats) s.number
  number_there [] k s there = absurd (cc)
  number_there (x ∷ xs) zero s there = (0, omega arith, ap (λ (o : Option (Shown O E)). (unwrap_or o x).number) there)
  number_there (x ∷ xs) (suc k) s there = let rest = number_there xs k s there in let low = rest.1 in (suc rest.0, omega arith, rest.2)

  -- where the seat n stands at the place n
  pub AreAll-in_order : (count : ℕ) (seats : List (Shown O E)) → ((n : ℕ) → n < count → (s : Shown O E) × (slice_get seats n ≡ Some s) × (s.number ≡ n)) → AreAll count seats
  AreAll-in_order count seats each n low = let s = each n low in subst (λ (k : ℕ). Contains (numbers_of seats) k) s.2 (number_there seats n s.0 s.1)

  pub AreAll-new : (lock : LockId) (origin : O) (count : ℕ) (seats : List (Shown O E)) → AreNew lock origin count seats → AreAll count seats
  AreAll-new lock origin count seats new = AreAll-in_order count seats (λ n low. (_, new.each n low, refl))

  pub AllIdle-new : (lock : LockId) (origin : O) (count : ℕ) (seats : List (Shown O E)) → AreNew lock origin count seats → All (IsIdle lock) seats
  AllIdle-new lock origin count seats new = let as_many = new.as_many in all_from_get (IsIdle lock) seats (λ n low. (newcomer lock n origin, new.each n (omega arith), (refl, refl)))
