-- Seats that are still to be dealt.
use Rattle.std.specs.Prelude.{ℕ, zero, suc, ◌≡◌, List, [], ◌∷◌, None}
use Rattle.fol_lock.specs.Seat as locks
use Rattle.fol_lock.specs.Seat.{IsIdle, LockId}
use Rattle.fol_live.specs.Seat.{LiveId, Shown, held}

-- so many are left, numbered from n
abbrev pub AreFrom : {A : Type 0} → (ℕ → A → Type 0) → ℕ → ℕ → List A → Type 0
AreFrom P n zero [] = Unit {0}
AreFrom P n zero (x ∷ xs) = ⊥
AreFrom P n (suc k) [] = ⊥
AreFrom P n (suc k) (x ∷ xs) = P n x × AreFrom P (suc n) k xs

-- it is of this world, has this number, and holds no tick
abbrev pub IsNewSeat : LiveId → ℕ → Shown → Type 0
IsNewSeat lock n s = (s.lock ≡ lock) × (s.number ≡ n) × (held s ≡ None)

-- it is of this book, and has this number
abbrev pub IsNewPage : {O E : Type 0} → LockId → ℕ → locks.Shown O E → Type 0
IsNewPage lock n s = IsIdle lock s × (s.number ≡ n)
