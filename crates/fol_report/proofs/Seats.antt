-- The text of a worker and a region.
use Rattle.std.proofs.Common.{ℕ, ◌<◌, ◌≤◌, ◌^◌, ◌∷◌, ◌++◌, arith, decimal, length, length-append}
use Rattle.std.specs.Str.{IsAscii}
use Rattle.std.proofs.lemmas.Str.{IsAscii-append}
use Rattle.std.proofs.lemmas.Str.Ascii.{IsAscii-cons}
use Rattle.std.proofs.lemmas.Fmt.{IsAscii-decimal}
use Rattle.fol_report.proofs.Lengths.{ten_digits, twenty_digits}

pub seat_length : (worker region : ℕ) → worker < 2 ^ 32 → region < 2 ^ 64 → length (decimal worker ++ 32 ∷ decimal region) ≤ 31
seat_length worker region h k = rw (length-append (decimal worker) (32 ∷ decimal region)) (omega (arith, ten_digits worker h, twenty_digits region k))

pub seat_ascii : (worker region : ℕ) → worker < 2 ^ 32 → region < 2 ^ 64 → IsAscii (decimal worker ++ 32 ∷ decimal region)
seat_ascii worker region h k = IsAscii-append _ _ (IsAscii-decimal worker (omega arith)) (IsAscii-cons 32 (decimal region) (omega arith) (IsAscii-decimal region k))
