-- The numbers of the blocks that lie in some chunks.
use Rattle.std.proofs.Common.{◌≡◌, ℕ, ◌+◌, ◌≤◌, ◌||◌, Bool, true, false, not, List, [], ◌∷◌, refl, sym, ◌∙◌, ap, ◌⊎◌, inl, inr, arith}
use Rattle.std.specs.Prelude.{sum_by, nat_eq, if◌then◌else◌}
use Rattle.std.specs.List.{count_by}
use Rattle.std.proofs.lemmas.Bool.{cases_Bool, or_cases, eqb-true}
use Rattle.std.proofs.lemmas.List.Sums.{sum_by-cons}
use Rattle.std.proofs.Math.Path.{fun_ext}
use Rattle.fol_model.specs.declared.openings.BlockAt.{BlockAt}
use Rattle.fol_model.specs.declared.places.BlockPos.{BlockPos}
use Rattle.fol_model.specs.declared.places.ChunkPos.{ChunkPos}
use Rattle.fol_model.specs.Geometry.{chunk_of, same_block}
use Rattle.fol_model.specs.World.{block_in}
use Rattle.fol_keyed.specs.Members.{is_listed}
use Rattle.fol_keyed.proofs.Places.{same_block-true}
use Rattle.fol_blocks.specs.Kept.{is_bare, one_if_filled}
use Rattle.fol_blocks.specs.Weights.{only, lies_in, lies_outside, one_at, stands_at}
use Rattle.fol_blocks.proofs.Weighing.{number_sum, only-no, only-yes}
use Rattle.fol_blocks.proofs.Wholes.{one_is}

-- a weight of the blocks of one place, where the test answers alike at all of them
module _ (b : BlockPos) (p : BlockAt → Bool) (c : Bool) (g : BlockAt → ℕ) (alike : (x : BlockAt) → same_block x.at b ≡ true → p x ≡ c) (alone : (x : BlockAt) → same_block x.at b ≡ false → g x ≡ 0) where
  at_one : (x : BlockAt) → only p g x ≡ (if c then g x else 0)
  at_one x =
      elim (cases_Bool (same_block x.at b)) [
        | inl e ↦ by_case c (alike x e)
        | inr e ↦
            let none : only p g x ≡ 0 = elim (cases_Bool (p x)) [ inl t ↦ only-yes p g x t ∙ alone x e | inr t ↦ only-no p g x t ] in
            none ∙ sym (nothing c (alone x e))
      ]
    where
      by_case : (d : Bool) → p x ≡ d → only p g x ≡ (if d then g x else 0)
      by_case true t = only-yes p g x t
      by_case false t = only-no p g x t

      nothing : (d : Bool) → g x ≡ 0 → (if d then g x else 0) ≡ 0
      nothing true z = z
      nothing false z = refl

  at_all : (xs : List BlockAt) → sum_by (only p g) xs ≡ (if c then sum_by g xs else 0)
  at_all [] = empty c
    where
      empty : (d : Bool) → sum_by g [] ≡ (if d then sum_by g [] else 0)
      empty true = refl
      empty false = refl
  at_all (x ∷ xs) = more c (at_one x) (at_all xs)
    where
      more : (d : Bool) → only p g x ≡ (if d then g x else 0) → sum_by (only p g) xs ≡ (if d then sum_by g xs else 0) → sum_by (only p g) (x ∷ xs) ≡ (if d then sum_by g (x ∷ xs) else 0)
      more true e f = omega (arith, e, f, sum_by-cons g x xs, sum_by-cons (only p g) x xs)
      more false e f = omega (arith, e, f, sum_by-cons (only p g) x xs)

module _ (chunks : List ChunkPos) (b : BlockPos) (xs : List BlockAt) where
  in_alike : (x : BlockAt) → same_block x.at b ≡ true → lies_in chunks x ≡ is_listed chunks (chunk_of b)
  in_alike x e = ap (λ q. is_listed chunks (chunk_of q)) (same_block-true x.at b e)

  number_alone : (x : BlockAt) → same_block x.at b ≡ false → only (stands_at b) (λ y. y.id) x ≡ 0
  number_alone x e = only-no (stands_at b) (λ y. y.id) x e

  one_alone : (x : BlockAt) → same_block x.at b ≡ false → one_at b x ≡ 0
  one_alone x e = rw e refl

  number_inside : sum_by (only (lies_in chunks) (only (stands_at b) (λ x. x.id))) xs ≡ (if is_listed chunks (chunk_of b) then sum_by (only (stands_at b) (λ x. x.id)) xs else 0)
  number_inside = at_all b (lies_in chunks) (is_listed chunks (chunk_of b)) (only (stands_at b) (λ x. x.id)) in_alike number_alone xs

  number_outside : sum_by (only (lies_outside chunks) (only (stands_at b) (λ x. x.id))) xs ≡ (if not (is_listed chunks (chunk_of b)) then sum_by (only (stands_at b) (λ x. x.id)) xs else 0)
  number_outside = at_all b (lies_outside chunks) (not (is_listed chunks (chunk_of b))) (only (stands_at b) (λ x. x.id)) (λ x e. ap not (in_alike x e)) number_alone xs

  one_inside : sum_by (only (lies_in chunks) (one_at b)) xs ≡ (if is_listed chunks (chunk_of b) then sum_by (one_at b) xs else 0)
  one_inside = at_all b (lies_in chunks) (is_listed chunks (chunk_of b)) (one_at b) in_alike one_alone xs

-- the blocks outside the chunks
pub numbers_left : (chunks : List ChunkPos) (xs ys : List BlockAt) → ((b : BlockPos) → sum_by (one_at b) xs ≤ 1) → ((b : BlockPos) → sum_by (one_at b) ys ≤ 1) → ((f : BlockAt → ℕ) → sum_by f ys ≡ sum_by (only (lies_outside chunks) f) xs)
    → block_in ys ≡ λ b. if not (is_listed chunks (chunk_of b)) then block_in xs b else 0
numbers_left chunks xs ys once after h = fun_ext (λ b.
    number_sum ys b (after b) ∙ h (only (stands_at b) (λ x. x.id)) ∙ number_outside chunks b xs
    ∙ ap (λ n. if not (is_listed chunks (chunk_of b)) then n else 0) (sym (number_sum xs b (once b))))

module _ (chunks : List ChunkPos) (xs ys : List BlockAt) (once : (b : BlockPos) → sum_by (one_at b) xs ≤ 1) (others : (b : BlockPos) → sum_by (one_at b) ys ≤ 1)
    (apart : (b : BlockPos) → (nat_eq (block_in xs b) 0 || nat_eq (if is_listed chunks (chunk_of b) then block_in ys b else 0) 0) ≡ true) where
  either : (b : BlockPos) → (block_in xs b ≡ 0) ⊎ ((if is_listed chunks (chunk_of b) then block_in ys b else 0) ≡ 0)
  either b =
      elim (or_cases (nat_eq (block_in xs b) 0) (nat_eq (if is_listed chunks (chunk_of b) then block_in ys b else 0) 0) (apart b)) [
        | inl t ↦ inl (eqb-true (block_in xs b) 0 t)
        | inr t ↦ inr (eqb-true (if is_listed chunks (chunk_of b) then block_in ys b else 0) 0 t)
      ]

  -- where no place has a number in both, no place has a block in both
  pub ones_apart : count_by is_bare xs ≡ 0 → count_by is_bare ys ≡ 0 → (b : BlockPos) → sum_by (one_at b) xs + sum_by (only (lies_in chunks) (one_at b)) ys ≤ 1
  ones_apart full full' b =
      elim (either b) [
        | inl z ↦
            let none : one_if_filled (block_in xs b) ≡ 0 = rw z refl in
            omega (arith, none, one_is xs b full (once b), inside)
        | inr z ↦ omega (arith, once b, gone (is_listed chunks (chunk_of b)) z ∙ refl, one_inside chunks b ys)
      ]
    where
      inside : sum_by (only (lies_in chunks) (one_at b)) ys ≤ 1
      inside = omega (arith, one_inside chunks b ys, less (is_listed chunks (chunk_of b)))
        where
          less : (c : Bool) → (if c then sum_by (one_at b) ys else 0) ≤ 1
          less true = others b
          less false = omega arith

      gone : (c : Bool) → (if c then block_in ys b else 0) ≡ 0 → (if c then sum_by (one_at b) ys else 0) ≡ 0
      gone true z = one_is ys b full' (others b) ∙ rw z refl
      gone false z = refl

  -- the blocks of one, and those of the other that lie in the chunks
  pub numbers_joined : (zs : List BlockAt) → ((b : BlockPos) → sum_by (one_at b) zs ≤ 1) → ((f : BlockAt → ℕ) → sum_by f zs ≡ sum_by f xs + sum_by (only (lies_in chunks) f) ys)
      → block_in zs ≡ λ b. if nat_eq (block_in xs b) 0 then (if is_listed chunks (chunk_of b) then block_in ys b else 0) else block_in xs b
  numbers_joined zs after h = fun_ext (λ b.
      let here : ℕ = if is_listed chunks (chunk_of b) then block_in ys b else 0 in
      let inside : sum_by (only (lies_in chunks) (only (stands_at b) (λ x. x.id))) ys ≡ (if is_listed chunks (chunk_of b) then block_in ys b else 0) =
      number_inside chunks b ys ∙ ap (λ n. if is_listed chunks (chunk_of b) then n else 0) (sym (number_sum ys b (others b))) in
      let all : block_in zs b ≡ block_in xs b + (if is_listed chunks (chunk_of b) then block_in ys b else 0) =
      omega (arith, number_sum zs b (after b), h (only (stands_at b) (λ x. x.id)), number_sum xs b (once b), inside) in
      elim (cases_Bool (nat_eq (block_in xs b) 0)) [
        | inl t ↦ rw t (omega (arith, all, eqb-true (block_in xs b) 0 t))
        | inr t ↦
            rw t (elim (either b) [
              | inl z ↦ let w : nat_eq (block_in xs b) 0 ≡ true = rw z refl in let v : true ≡ false = sym w ∙ t in absurd cc
              | inr z ↦ omega (arith, all, z)
            ])
      ])
