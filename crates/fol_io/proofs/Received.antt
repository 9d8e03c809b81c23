-- A piece that is received after the bytes before it.
use Rattle.std.proofs.Common.{◌≡◌, ◌≤◌, ℕ, zero, suc, ◌+◌, List, [], ◌∷◌, ◌++◌, length, take, Option, Some, None, refl, sym, ap, ◌∙◌, append_assoc, arith}
use Rattle.std.proofs.Math.Seq.{take-append-add}
use Rattle.std.proofs.lemmas.List.{append-nil}
use Rattle.fol_io.specs.Sink.{Received, ReceivedPrefix}

-- no bytes
pub Received-none : (a : Option (List ℕ)) → Received a a []
Received-none None = refl
Received-none (Some ys) = ap Some (sym (append-nil ys))

-- the first bytes, and then the next
pub Received-after : (a b c : Option (List ℕ)) (xs next : List ℕ) → Received a b xs → Received b c next → Received a c (xs ++ next)
Received-after None b c xs next before piece = rw before at piece
Received-after (Some ys) b c xs next before piece = let whole = rw before at piece in rw (← append_assoc) whole

-- a prefix of a prefix is a prefix
take-take : (k n : ℕ) (xs : List ℕ) → (m : ℕ) × (m ≤ n) × (take k (take n xs) ≡ take m xs)
take-take zero n xs = (0, omega arith, refl)
take-take (suc k) zero xs = (0, omega arith, refl)
take-take (suc k) (suc n) [] = (0, omega arith, refl)
take-take (suc k) (suc n) (x ∷ xs) = let shorter = take-take k n xs in (suc shorter.0, omega (arith, shorter.1), ap (λ t. x ∷ t) shorter.2)

-- the first bytes, and then a prefix of the next n
pub ReceivedPrefix-after : (a b c : Option (List ℕ)) (n : ℕ) (sent left all : List ℕ) → sent ++ left ≡ all → Received a b sent → ReceivedPrefix b c (take n left) → (m : ℕ) × (m ≤ n) × Received a c (take (length sent + m) all)
ReceivedPrefix-after a b c n sent left all is before piece =
    let shorter = take-take piece.0 n left in
    let both = Received-after a b c sent (take shorter.0 left) before (rw shorter.2 at piece.1) in
    let prefix : sent ++ take shorter.0 left ≡ take (length sent + shorter.0) all = sym (take-append-add sent left shorter.0) ∙ ap (take (length sent + shorter.0)) is in
    (shorter.0, shorter.1, rw prefix at both)
