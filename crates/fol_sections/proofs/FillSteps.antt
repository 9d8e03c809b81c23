-- Sections that are there since a part of a list of them came.
use Rattle.std.proofs.Common.{◌≡◌, ℕ, zero, suc, ◌+◌, refl, sym, ◌∙◌, ap, arith, Bool, true, false, cond, ◌||◌}
use Rattle.std.specs.Prelude.{nat_lt}
use Rattle.std.proofs.lemmas.Bool.{lt-ltb}

-- one of a single one, where there is one
pub one_comes : (b : Bool) → nat_lt 0 (cond b 1 0) ≡ b
one_comes true = refl
one_comes false = refl

pub or_none : (b : Bool) → (b || false) ≡ b
or_none true = refl
or_none false = refl

either_comes : (a b : ℕ) → (nat_lt 0 a || nat_lt 0 b) ≡ nat_lt 0 (a + b)
either_comes zero b = let e : zero + b ≡ b = omega arith in ap (nat_lt 0) (sym e)
either_comes (suc a) b = ap (λ c. c || nat_lt 0 b) (lt-ltb 0 (suc a) (omega arith)) ∙ sym (lt-ltb 0 (suc a + b) (omega arith))

-- what is there after two parts came is there after both together came
pub both_come : (here : Bool) (a b : ℕ) → ((here || nat_lt 0 a) || nat_lt 0 b) ≡ (here || nat_lt 0 (a + b))
both_come true a b = refl
both_come false a b = either_comes a b

-- where none comes, nothing changes
pub none_comes : (here : Bool) (n : ℕ) → n ≡ 0 → (here || nat_lt 0 n) ≡ here
none_comes here n none = ap (λ k. here || nat_lt 0 k) none ∙ or_none here
