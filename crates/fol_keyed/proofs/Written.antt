-- A vector that was written through a slice of it all.
use Rattle.std.proofs.Common.{◌≡◌, ℕ, ◌≤◌, List, [], ◌++◌, length, take, drop, arith}
use Rattle.std.proofs.lemmas.List.{take_all, drop_all, append-nil}

pub written : {X : Type 0} (n : ℕ) (new old : List X) → length new ≡ length old → length old ≤ n → take n (new ++ drop (length new) old) ≡ new
written n new old e l =
    let none : drop (length new) old ≡ [] = drop_all (length new) old (omega arith) in
    rw (none, append-nil new) (take_all n new (omega arith))
