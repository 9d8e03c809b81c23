-- Seats are dealt out in order.
use Rattle.std.proofs.Common.{◌≡◌, ℕ, zero, suc, ◌+◌, ◌<◌, refl, ◌∙◌, ap, List, [], ◌∷◌, length, arith, Some}
use Rattle.std.specs.Prelude.{slice_get, slice_index_or}
use Rattle.std.specs.List.{remove}
use Rattle.std.specs.Option.{unwrap_or}
use Rattle.fol_model.specs.declared.openings.Opening.{Opening}
use Rattle.fol_lock.specs.Seat as locks
use Rattle.fol_lock.specs.Seat.{AreNew, LockId}
use Rattle.fol_live.specs.Seat.{LiveId, Shown}
use Rattle.fol_live.specs.Seats.{AreNewSeats, newcomer}
use Rattle.fol_live.proofs.FreeSeats.{new_holds_none}
use Rattle.fol_inbox.specs.Sending.{AreNewSenders, InboxId, Sending, new_sender}
use Rattle.fol_server.specs.Dealt.{AreFrom, IsNewPage, IsNewSeat}

-- ---- the next of them

pub some_left : {A : Type 0} (P : ℕ → A → Type 0) (n k : ℕ) (xs : List A) → 0 < k → AreFrom P n k xs → 0 < length xs
some_left P n zero xs some all = absurd (omega arith)
some_left P n (suc k) [] some all = absurd all
some_left P n (suc k) (x ∷ xs) some all = omega arith

pub record Next {A : Type 0} (P : ℕ → A → Type 0) (n k : ℕ) (x : A) (rest : List A) : Type 0 where
  pub first : P n x
  pub left : AreFrom P (n + 1) k rest

pub next : {A : Type 0} (P : ℕ → A → Type 0) (n k j : ℕ) (xs : List A) (x : A) (rest : List A) → k ≡ suc j → AreFrom P n k xs → x ≡ slice_index_or xs 0 x → rest ≡ remove xs 0 → Next P n j x rest
next P n zero j xs x rest is all first behind = absurd (omega arith)
next P n (suc k) j [] x rest is all first behind = absurd all
next P n (suc k) j (y ∷ ys) x rest is all first behind =
    let same : k ≡ j = omega arith in
    let one : n + 1 ≡ suc n = omega arith in
    rw (first, behind, ← same) (record { first = all.0; left = rw one all.1 })

-- ---- all of them

from_get : {A : Type 0} (P : ℕ → A → Type 0) (make : ℕ → A) (n k : ℕ) (xs : List A) → length xs ≡ k → ((i : ℕ) → P i (make i)) → ((i : ℕ) → i < k → slice_get xs i ≡ Some (make (n + i))) → AreFrom P n k xs
from_get P make n zero [] many holds each = tt
from_get P make n zero (x ∷ xs) many holds each = absurd (omega arith)
from_get P make n (suc k) [] many holds each = absurd (omega arith)
from_get P make n (suc k) (x ∷ xs) many holds each =
    let none : n + 0 ≡ n = omega arith in
    let first : x ≡ make n = ap (λ r. unwrap_or r x) (each zero (omega arith)) ∙ ap make none in
    let fewer : length xs ≡ k = omega arith in (
      rw first (holds n),
      from_get P make (suc n) k xs fewer holds (λ i low.
          let more : n + suc i ≡ suc n + i = omega arith in
          each (suc i) (omega arith) ∙ ap (λ m. Some (make m)) more),
    )

pub seats_from : (lock : LiveId) (o : Opening) (count : ℕ) (seats : List Shown) → AreNewSeats lock o count seats → AreFrom (IsNewSeat lock) 0 count seats
seats_from lock o count seats new =
    from_get (IsNewSeat lock) (newcomer lock o) 0 count seats new.as_many (λ i. (refl, refl, new_holds_none lock i))
    (λ i low. let same : i ≡ 0 + i = omega arith in new.each i low ∙ ap (λ m. Some (newcomer lock o m)) same)

pub pages_from : {O E : Type 0} (lock : LockId) (o : O) (count : ℕ) (pages : List (locks.Shown O E)) → AreNew lock o count pages → AreFrom (IsNewPage lock) 0 count pages
pages_from lock o count pages new =
    from_get (IsNewPage lock) (λ n. locks.newcomer lock n o) 0 count pages new.as_many (λ i. ((refl, refl), refl))
    (λ i low. let same : i ≡ 0 + i = omega arith in new.each i low ∙ ap (λ m. Some (locks.newcomer lock m o)) same)

-- the only sender of an inbox
pub only_sender : (inbox : InboxId) (senders : List Sending) (s : Sending) → AreNewSenders inbox 1 senders → s ≡ slice_index_or senders 0 s → (s.inbox ≡ inbox) × (s.number ≡ 0)
only_sender inbox [] s new is = let many = new.as_many in absurd (omega (arith, many))
only_sender inbox (x ∷ xs) s new is =
    let first : x ≡ new_sender inbox 0 = ap (λ r. unwrap_or r x) (new.each 0 (omega arith)) in
    rw (is, first) (refl, refl)
