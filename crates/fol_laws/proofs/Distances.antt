-- Facts on the distance of two sections.
use Rattle.std.proofs.Common.{◌≡◌, ℕ, suc, ◌+◌, ◌-◌, ◌≤◌, arith, inl, inr}
use Rattle.std.specs.Prelude.{ℤ, pos, ◌+ℤ◌, ◌-ℤ◌, nat_abs}
use Rattle.std.proofs.lemmas.Bool.{cases_lt}
use borrow.Author.Differences.{ints}
use Rattle.fol_model.specs.declared.places.SectionPos.{SectionPos}
use Rattle.fol_model.specs.Geometry.{distance}

abs_swap : (x y : ℤ) → nat_abs (x -ℤ y) ≡ nat_abs (y -ℤ x)
abs_swap x y = omega (arith, ints)

abs_triangle : (x y z : ℤ) → nat_abs (x -ℤ z) ≤ nat_abs (x -ℤ y) + nat_abs (y -ℤ z)
abs_triangle x y z = omega (arith, ints)

pub distance_swap : (a b : SectionPos) → distance a b ≡ distance b a
unfolding distance
distance_swap a b = simp (abs_swap a.x b.x, abs_swap a.z b.z)

pub triangle : (a b c : SectionPos) → distance a c ≤ distance a b + distance b c
unfolding distance
triangle a b c = omega (arith, abs_triangle a.x b.x c.x, abs_triangle a.z b.z c.z)

pub self_distance : (s : SectionPos) → distance s s ≡ 0
unfolding distance
self_distance s = omega (arith, ints)

-- one step nearer to y
toward : (x y : ℤ) → (w : ℤ) × (nat_abs (x -ℤ w) ≤ 1) × (nat_abs (y -ℤ w) ≤ nat_abs (y -ℤ x) - 1)
toward x y = elim (cases_lt (nat_abs (y -ℤ (x +ℤ pos 1))) (nat_abs (y -ℤ x))) [
  | inl l ↦ (x +ℤ pos 1, omega (arith, ints), omega arith)
  | inr l ↦ elim (cases_lt (nat_abs (y -ℤ (x -ℤ pos 1))) (nat_abs (y -ℤ x))) [
    | inl m ↦ (x -ℤ pos 1, omega (arith, ints), omega arith)
    | inr m ↦ (x, omega (arith, ints), omega (arith, ints))
  ]
]

-- a section one step nearer to n
pub nearer : (n q : SectionPos) (k : ℕ) → distance n q ≤ suc k → (p : SectionPos) × (distance n p ≤ k) × (distance q p ≤ 1)
unfolding distance
nearer n q k d =
    let x = toward q.x n.x in let z = toward q.z n.z in
    (record { x = x.0; z = z.0 }, omega (arith, x.2, z.2), omega (arith, x.1, z.1))

pub no_distance : (n q : SectionPos) → distance n q ≤ 0 → n ≡ q
unfolding distance
no_distance n q d =
    let x : n.x ≡ q.x = omega (arith, ints) in
    let z : n.z ≡ q.z = omega (arith, ints) in λ i. record { x = x i; z = z i }
