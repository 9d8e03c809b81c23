-- How many elements pass at a place of a heap and below it: the places of one level below a place stand side by side.
use Rattle.std.proofs.Common.{◌≡◌, ℕ, zero, suc, ◌+◌, ◌-◌, ◌*◌, ◌^◌, ◌<◌, ◌≤◌, Bool, true, false, cond, List, [], length, get_or, take, drop, refl, ◌∙◌, ap, arith, length-take, length-drop, drop-cons}
use Rattle.std.specs.Prelude.{count_by, All}
use Rattle.std.proofs.lemmas.List.{drop-drop, drop_all, get_or-take, get_or-drop}
use Rattle.std.proofs.lemmas.List.Sums.{sum_by-take-drop, sum_by-cons, count_by-le-length}
use Rattle.std.proofs.Math.Nat.{pow-succ'}
use Rattle.fol_keyed.proofs.Keyed.{count_none}
use Rattle.fol_queues.specs.Below.{passing_below}

module _ {X : Type 0} (p : X → Bool) (xs : List X) where
  -- how many pass from a place on
  from : ℕ → ℕ
  from k = count_by p (drop k xs)

  -- how many pass at so many places from one on
  abbrev span : ℕ → ℕ → ℕ
  span lo w = count_by p (take w (drop lo xs))

  span_from : (lo w : ℕ) → span lo w + from (lo + w) ≡ from lo
  unfolding from
  span_from lo w =
      let e : drop w (drop lo xs) ≡ drop (lo + w) xs = drop-drop w lo xs in
      let s : span lo w + count_by p (drop w (drop lo xs)) ≡ count_by p (drop lo xs) = sum_by-take-drop (λ z. cond (p z) 1 0) (drop lo xs) w in
      rw e at s

  from_falls : (j k : ℕ) → j ≤ k → from k ≤ from j
  from_falls j k l =
      let e : from (j + (k - j)) ≡ from k = ap from (omega arith) in
      omega (arith, span_from j (k - j))

  -- how many pass at so many places from one on and below these, down to so many levels
  wide : ℕ → ℕ → ℕ → ℕ
  wide zero lo w = 0
  wide (suc n) lo w = span lo w + wide n (2 * lo + 1) (2 * w)

  wide_split : (n lo a b : ℕ) → wide n lo (a + b) ≡ wide n lo a + wide n (lo + a) b
  unfolding wide
  wide_split zero lo a b = refl
  wide_split (suc n) lo a b =
      let up : wide n (2 * lo + 1) (2 * a + 2 * b) ≡ wide n (2 * lo + 1) (2 * a) + wide n (2 * lo + 1 + 2 * a) (2 * b) = wide_split n (2 * lo + 1) (2 * a) (2 * b) in
      let v : wide n (2 * lo + 1) (2 * (a + b)) ≡ wide n (2 * lo + 1) (2 * a + 2 * b) = ap (λ k. wide n (2 * lo + 1) k) (omega arith) in
      let w : wide n (2 * (lo + a) + 1) (2 * b) ≡ wide n (2 * lo + 1 + 2 * a) (2 * b) = ap (λ k. wide n k (2 * b)) (omega arith) in
      let f : from (lo + (a + b)) ≡ from (lo + a + b) = ap from (omega arith) in
      omega (arith, span_from lo (a + b), span_from lo a, span_from (lo + a) b)

  passing_wide : (n i : ℕ) → passing_below p xs n i ≡ wide n i 1
  unfolding passing_below wide
  passing_wide zero i = refl
  passing_wide (suc n) i =
      let split : wide n (2 * i + 1) 2 ≡ wide n (2 * i + 1) 1 + wide n (2 * i + 1 + 1) 1 = wide_split n (2 * i + 1) 1 1 in
      let w : wide n (2 * i + 1 + 1) 1 ≡ wide n (2 * i + 2) 1 = ap (λ k. wide n k 1) (omega arith) in
      omega (arith, passing_wide n (2 * i + 1), passing_wide n (2 * i + 2))

  wide_bound : (n lo w : ℕ) → w ≤ lo + 1 → wide n lo w ≤ from lo
  unfolding wide
  wide_bound zero lo w l = omega arith
  wide_bound (suc n) lo w l = omega (arith, wide_bound n (2 * lo + 1) (2 * w) (omega arith), from_falls (lo + w) (2 * lo + 1) (omega arith), span_from lo w)

  wide_whole : (n lo w : ℕ) → lo + 1 ≡ w → length xs + 1 ≤ w * 2 ^ n → wide n lo w ≡ from lo
  unfolding wide from
  wide_whole zero lo w e l = let none : drop lo xs ≡ [] = drop_all lo xs (omega arith) in rw none refl
  wide_whole (suc n) lo w e l =
      let power : 2 ^ suc n ≡ 2 * 2 ^ n = pow-succ' 2 n in
      let twice : w * 2 ^ suc n ≡ 2 * w * 2 ^ n = rw power (omega arith) in
      let f : from (lo + w) ≡ from (2 * lo + 1) = ap from (omega arith) in
      omega (arith, wide_whole n (2 * lo + 1) (2 * w) (omega arith) (omega arith), span_from lo w)

  -- with enough levels all places are below the first one
  pub passing_whole : (n : ℕ) → length xs + 1 ≤ 2 ^ n → passing_below p xs n 0 ≡ count_by p xs
  unfolding from
  passing_whole n l = passing_wide n 0 ∙ wide_whole n 0 1 refl (omega arith)

  -- and never more than there are
  pub passing_bound : (n i : ℕ) → passing_below p xs n i ≤ length xs
  unfolding from
  passing_bound n i = omega (arith, passing_wide n i, wide_bound n i 1 (omega arith), count_by-le-length p (drop i xs), length-drop i xs)

  pub passing_zero : (n i : ℕ) → n ≡ 0 → passing_below p xs n i ≡ 0
  unfolding passing_below
  passing_zero n i e = rw e refl

  -- one that passes, and those below it
  pub passing_some : (n m i : ℕ) (d : X) → n ≡ suc m → i < length xs → p (get_or xs i d) ≡ true → passing_below p xs n i ≡ 1 + passing_below p xs m (2 * i + 1) + passing_below p xs m (2 * i + 2)
  unfolding passing_below
  passing_some n m i d e l t =
      rw (e, drop-cons xs i d l) (rw (sum_by-cons (λ z. cond (p z) 1 0) (get_or xs i d) [], t) refl)

  -- where a child passes only if its parent does, none passes below one that does not
  pub passing_none : ((i k : ℕ) (d : X) → i * 2 + 1 ≤ k → k ≤ i * 2 + 2 → k < length xs → p (get_or xs i d) ≡ false → p (get_or xs k d) ≡ false)
      → (n i : ℕ) → ((d : X) → i < length xs → p (get_or xs i d) ≡ false) → passing_below p xs n i ≡ 0
  unfolding passing_below
  passing_none down zero i h = refl
  passing_none down (suc n) i h =
      let none : All (λ z. p z ≡ false) (take 1 (drop i xs)) = λ k d l. only k d (omega (arith, length-take 1 (drop i xs))) l in
      omega (
        arith,
        count_none p (take 1 (drop i xs)) none,
        passing_none down n (2 * i + 1) (λ d l. down i (2 * i + 1) d (omega arith) (omega arith) l (h d (omega arith))),
        passing_none down n (2 * i + 2) (λ d l. down i (2 * i + 2) d (omega arith) (omega arith) l (h d (omega arith))),
      )
    where
      only : (k : ℕ) (d : X) → k < 1 → k < length (take 1 (drop i xs)) → p (get_or (take 1 (drop i xs)) k d) ≡ false
      only k d l m =
          let same : i + k ≡ i = omega arith in
          let short : i < length xs = omega (arith, length-take 1 (drop i xs), length-drop i xs) in
          rw (get_or-take 1 (drop i xs) k d l, get_or-drop i xs k d, same) (h d short)
