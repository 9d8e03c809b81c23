-- Ids that follow one another.
use Rattle.std.proofs.Common.{◌≡◌, ℕ, zero, suc, ◌+◌, ◌≤◌, ◌<◌, sym, ◌∙◌, arith, true, false, inl, inr, List, [], ◌∷◌, length, get_or}
use Rattle.std.specs.Prelude.{nat_eq}
use Rattle.std.proofs.lemmas.Bool.{eqb-true, false_from_ne_true, or_cases, true≢false}
use Rattle.fol_world.specs.Bags.{Follow}
use Rattle.fol_world.proofs.JoinedBags.{among}

pub follow_at : (n : ℕ) (xs : List ℕ) (i d : ℕ) → Follow n xs → i < length xs → get_or xs i d ≡ n + i
follow_at n [] i d h l = absurd (omega arith)
follow_at n (x ∷ xs) zero d h l = h.0 ∙ (omega arith)
follow_at n (x ∷ xs) (suc i) d h l = follow_at (n + 1) xs i d h.1 (omega arith) ∙ (omega arith)

pub among_above : (n : ℕ) (xs : List ℕ) (q : ℕ) → Follow n xs → among q xs ≡ true → n ≤ q
among_above n [] q h m = absurd (true≢false (sym m))
among_above n (x ∷ xs) q h m = elim (or_cases (nat_eq q x) (among q xs) m) [
  | inl e ↦ let f : q ≡ x = eqb-true q x e in let k : x ≡ n = h.0 in omega arith
  | inr r ↦ let k : n + 1 ≤ q = among_above (n + 1) xs q h.1 r in omega arith
]

pub among_below : (n : ℕ) (xs : List ℕ) (q : ℕ) → Follow n xs → among q xs ≡ true → q < n + length xs
among_below n [] q h m = absurd (true≢false (sym m))
among_below n (x ∷ xs) q h m = elim (or_cases (nat_eq q x) (among q xs) m) [
  | inl e ↦ let f : q ≡ x = eqb-true q x e in let k : x ≡ n = h.0 in omega arith
  | inr r ↦ let k : q < n + 1 + length xs = among_below (n + 1) xs q h.1 r in omega arith
]

-- an id below those that follow one another is none of them
pub below_not_among : (n : ℕ) (xs : List ℕ) (q : ℕ) → Follow n xs → q < n → among q xs ≡ false
below_not_among n xs q h l = false_from_ne_true (among q xs) (λ m. let k = among_above n xs q h m in absurd (omega arith))
