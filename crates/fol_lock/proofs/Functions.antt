-- Functions from numbers to numbers that change at one number or at one value.
use Rattle.std.proofs.Common.{◌≡◌, ◌≢◌, ℕ, refl}
use native.Mathlib.Decide.{ℕ_discrete}

abbrev pick : {P : Type 0} → Dec P → ℕ → ℕ → ℕ
pick (yes _) a b = a
pick (no _) a b = b

-- f, but with this value at i
pub put : (ℕ → ℕ) → ℕ → ℕ → ℕ → ℕ
put f i value j = pick (ℕ_discrete j i) value (f j)

pub put_here : (f : ℕ → ℕ) (i value j : ℕ) → j ≡ i → put f i value j ≡ value
unfolding put
put_here f i value j here = go (ℕ_discrete j i)
  where
    go : (d : Dec (j ≡ i)) → pick d value (f j) ≡ value
    go (yes _) = refl
    go (no other) = absurd (other here)

pub put_else : (f : ℕ → ℕ) (i value j : ℕ) → j ≢ i → put f i value j ≡ f j
unfolding put
put_else f i value j other = go (ℕ_discrete j i)
  where
    go : (d : Dec (j ≡ i)) → pick d value (f j) ≡ f j
    go (yes here) = absurd (other here)
    go (no _) = refl

-- f, but with the value `to` wherever f has `from`
pub redirect : (ℕ → ℕ) → ℕ → ℕ → ℕ → ℕ
redirect f from to n = pick (ℕ_discrete (f n) from) to (f n)

pub redirect_hit : (f : ℕ → ℕ) (from to n : ℕ) → f n ≡ from → redirect f from to n ≡ to
unfolding redirect
redirect_hit f from to n hit = go (ℕ_discrete (f n) from)
  where
    go : (d : Dec (f n ≡ from)) → pick d to (f n) ≡ to
    go (yes _) = refl
    go (no miss) = absurd (miss hit)

pub redirect_miss : (f : ℕ → ℕ) (from to n : ℕ) → f n ≢ from → redirect f from to n ≡ f n
unfolding redirect
redirect_miss f from to n miss = go (ℕ_discrete (f n) from)
  where
    go : (d : Dec (f n ≡ from)) → pick d to (f n) ≡ f n
    go (yes hit) = absurd (miss hit)
    go (no _) = refl
