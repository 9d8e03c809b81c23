-- Four seats with the numbers 0 to 3 are all seats of a world of four.
use Rattle.std.proofs.Common.{◌≡◌, zero, suc, arith, List, [], ◌∷◌}
use Rattle.fol_live.specs.Seat.{Shown}
use Rattle.fol_live.specs.Seats.{AreAllSeats}

pub are_four : (seats : List Shown) (a b c d : Shown) → seats ≡ a ∷ b ∷ c ∷ d ∷ [] → a.number ≡ 0 → b.number ≡ 1 → c.number ≡ 2 → d.number ≡ 3 → AreAllSeats 4 seats
are_four seats a b c d is first second third fourth = rw is (each first second third fourth)
  where
    each : a.number ≡ 0 → b.number ≡ 1 → c.number ≡ 2 → d.number ≡ 3 → AreAllSeats 4 (a ∷ b ∷ c ∷ d ∷ [])
    each first second third fourth zero low = (0, (omega arith), first)
    each first second third fourth (suc zero) low = (1, (omega arith), second)
    each first second third fourth (suc (suc zero)) low = (2, (omega arith), third)
    each first second third fourth (suc (suc (suc zero))) low = (3, (omega arith), fourth)
    each first second third fourth (suc (suc (suc (suc n)))) low = absurd (omega arith)
