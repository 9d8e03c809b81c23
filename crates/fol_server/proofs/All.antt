-- So many seats with the numbers from 0 on are all seats.
use Rattle.std.proofs.Common.{◌≡◌, zero, suc, arith, [], ◌∷◌}
use Rattle.fol_lock.specs.Seat as locks
use Rattle.fol_lock.specs.Seat.{AreAll}
use Rattle.fol_live.specs.Seat.{Shown}
use Rattle.fol_live.specs.Seats.{AreAllSeats}
use Rattle.fol_inbox.specs.Sending.{AreAllSenders, Sending}

pub are_six : (a b c d e f : Shown) → a.number ≡ 0 → b.number ≡ 1 → c.number ≡ 2 → d.number ≡ 3 → e.number ≡ 4 → f.number ≡ 5 → AreAllSeats 6 (a ∷ b ∷ c ∷ d ∷ e ∷ f ∷ [])
are_six a b c d e f p0 p1 p2 p3 p4 p5 zero low = (0, (omega arith), p0)
are_six a b c d e f p0 p1 p2 p3 p4 p5 (suc zero) low = (1, (omega arith), p1)
are_six a b c d e f p0 p1 p2 p3 p4 p5 (suc (suc zero)) low = (2, (omega arith), p2)
are_six a b c d e f p0 p1 p2 p3 p4 p5 (suc (suc (suc zero))) low = (3, (omega arith), p3)
are_six a b c d e f p0 p1 p2 p3 p4 p5 (suc (suc (suc (suc zero)))) low = (4, (omega arith), p4)
are_six a b c d e f p0 p1 p2 p3 p4 p5 (suc (suc (suc (suc (suc zero))))) low = (5, (omega arith), p5)
are_six a b c d e f p0 p1 p2 p3 p4 p5 (suc (suc (suc (suc (suc (suc n)))))) low = absurd (omega arith)

pub are_four : {O E : Type 0} (a b c d : locks.Shown O E) → a.number ≡ 0 → b.number ≡ 1 → c.number ≡ 2 → d.number ≡ 3 → AreAll 4 (a ∷ b ∷ c ∷ d ∷ [])
are_four a b c d p0 p1 p2 p3 zero low = (0, (omega arith), p0)
are_four a b c d p0 p1 p2 p3 (suc zero) low = (1, (omega arith), p1)
are_four a b c d p0 p1 p2 p3 (suc (suc zero)) low = (2, (omega arith), p2)
are_four a b c d p0 p1 p2 p3 (suc (suc (suc zero))) low = (3, (omega arith), p3)
are_four a b c d p0 p1 p2 p3 (suc (suc (suc (suc n)))) low = absurd (omega arith)

pub is_one : (a : Sending) → a.number ≡ 0 → AreAllSenders 1 (a ∷ [])
is_one a p0 zero low = (0, (omega arith), p0)
is_one a p0 (suc n) low = absurd (omega arith)
