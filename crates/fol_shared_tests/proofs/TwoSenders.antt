-- Two senders with the numbers 0 and 1 are all senders of an inbox of two.
use Rattle.std.proofs.Common.{◌≡◌, ℕ, zero, suc, arith, List, [], ◌∷◌}
use Rattle.fol_inbox.specs.Sending.{AreAllSenders, Sending}

pub are_two : (count : ℕ) (senders : List Sending) (a b : Sending) → count ≡ 2 → senders ≡ a ∷ b ∷ [] → a.number ≡ 0 → b.number ≡ 1 → AreAllSenders count senders
are_two count senders a b two is first second = rw (two, is) (each first second)
  where
    each : a.number ≡ 0 → b.number ≡ 1 → AreAllSenders 2 (a ∷ b ∷ [])
    each first second zero low = (0, (omega arith), first)
    each first second (suc zero) low = (1, (omega arith), second)
    each first second (suc (suc n)) low = absurd (omega arith)
