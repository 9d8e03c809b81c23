-- The weights of blocks in the first chunks of a list.
use Rattle.std.proofs.Common.{◌≡◌, ℕ, ◌+◌, ◌<◌, ◌≤◌, ◌||◌, Bool, true, false, not, List, [], ◌∷◌, length, get_or, take, drop, refl, sym, ◌∙◌, ap, inl, inr, arith, length-take}
use Rattle.std.specs.Prelude.{ℤ, Contains, sum_by, if◌then◌else◌}
use Rattle.std.specs.List.{count_by}
use Rattle.std.specs.List.Sorted.{IsStrictlySortedBy}
use Rattle.std.specs.Cmp.{tied_itself}
use Rattle.std.specs.declared.cmp.Ordering.TheVariants.{Less, Equal}
use Rattle.std.proofs.lemmas.Bool.{cases_Bool}
use Rattle.std.proofs.lemmas.List.{get_or-take, take_more, take-append-drop}
use Rattle.std.proofs.lemmas.List.Folds.{list_any-append}
use Rattle.std.proofs.lemmas.List.Sums.{sum_by-cons}
use Rattle.std.proofs.lemmas.Map.Keys.{Less-from_sorted}
use Rattle.std.proofs.lemmas.Map.Views.{Contains-from_any}
use Rattle.fol_model.specs.declared.openings.BlockAt.{BlockAt}
use Rattle.fol_model.specs.declared.places.ChunkPos.{ChunkPos}
use Rattle.fol_model.specs.Geometry.{chunk_of, same_chunk}
use Rattle.fol_model.specs.Universe.{chunk_cmp}
use Rattle.fol_keyed.specs.Members.{is_listed}
use Rattle.fol_keyed.proofs.Keyed.{at_own}
use Rattle.fol_keyed.proofs.Places.{same_chunk-true, chunk_cmp_total}
use Rattle.fol_blocks.specs.Cells.{AreCells, blocks_at, blocks_in, is_astray, lies_at}
use Rattle.fol_blocks.specs.Weights.{only, lies_in, lies_outside}
use Rattle.fol_blocks.proofs.CellSums.{chunk_sum}
use Rattle.fol_blocks.proofs.Weighing.{count_is, length_sum, only-yes, only-no, split, sum_le, sum_same, sum_two}

pub listed_more : (chunks : List ChunkPos) (i : ℕ) (d q : ChunkPos) → i < length chunks → is_listed (take (i + 1) chunks) q ≡ (is_listed (take i chunks) q || same_chunk q (get_or chunks i d))
listed_more chunks i d q l =
    rw (take_more chunks i d l, list_any-append (same_chunk q) (take i chunks) (get_or chunks i d ∷ [])) (last (is_listed (take i chunks) q) (same_chunk q (get_or chunks i d)))
  where
    last : (a b : Bool) → (a || (b || false)) ≡ (a || b)
    last true b = refl
    last false true = refl
    last false false = refl

-- a chunk of a list in order is none of those before it
pub not_before : (chunks : List ChunkPos) (i : ℕ) (d : ChunkPos) → IsStrictlySortedBy chunk_cmp chunks → i < length chunks → is_listed (take i chunks) (get_or chunks i d) ≡ false
not_before chunks i d s l =
    elim (cases_Bool (is_listed (take i chunks) (get_or chunks i d))) [
      | inr e ↦ e
      | inl e ↦
          let c : Contains (take i chunks) (get_or chunks i d) = Contains-from_any same_chunk-true (get_or chunks i d) (take i chunks) e in
          let n : c.0 < i = omega (arith, c.1, length-take i chunks) in
          let there : get_or chunks c.0 (get_or chunks i d) ≡ get_or chunks i d = sym (get_or-take i chunks c.0 (get_or chunks i d) n) ∙ c.2 in
          let below : chunk_cmp (get_or chunks c.0 (get_or chunks i d)) (get_or chunks i (get_or chunks i d)) ≡ Less = Less-from_sorted chunk_cmp chunks c.0 i (get_or chunks i d) s n l in
          let same : get_or chunks i (get_or chunks i d) ≡ get_or chunks i d = sym (at_own chunks i d l) in
          let less : chunk_cmp (get_or chunks i d) (get_or chunks i d) ≡ Less = rw (there, same) at below in
          let tied : chunk_cmp (get_or chunks i d) (get_or chunks i d) ≡ Equal = tied_itself chunk_cmp_total (get_or chunks i d) in
          let w : Less ≡ Equal = sym less ∙ tied in
          absurd cc
    ]

-- ---- a test of either
module _ (n : ℕ) where
  either_more : (a b : Bool) → (if (a || b) then n else 0) ≡ (if a then n else 0) + (if not a then (if b then n else 0) else 0)
  either_more true b = omega arith
  either_more false true = omega arith
  either_more false false = refl

  pub either_apart : (a b : Bool) → (a ≡ true → b ≡ false) → (if (a || b) then n else 0) ≡ (if a then n else 0) + (if b then n else 0)
  either_apart true true h = let w : true ≡ false = h refl in absurd cc
  either_apart true false h = omega arith
  either_apart false true h = omega arith
  either_apart false false h = refl

  neither : (a b : Bool) → (if not (a || b) then n else 0) ≡ (if not a then (if not b then n else 0) else 0)
  neither true b = refl
  neither false true = refl
  neither false false = refl

module _ (chunks : List ChunkPos) (i : ℕ) (d : ChunkPos) (l : i < length chunks) (f : BlockAt → ℕ) (xs : List BlockAt) where
  abbrev key : ℤ × ℤ
  key = ((get_or chunks i d).x, (get_or chunks i d).z)

  more_at : (x : BlockAt) → only (lies_in (take (i + 1) chunks)) f x ≡ only (lies_in (take i chunks)) f x + only (lies_outside (take i chunks)) (only (lies_at key) f) x
  unfolding only
  more_at x = rw (listed_more chunks i d (chunk_of x.at) l) (either_more (f x) (is_listed (take i chunks) (chunk_of x.at)) (same_chunk (chunk_of x.at) (get_or chunks i d)))

  less_at : (x : BlockAt) → only (lies_outside (take (i + 1) chunks)) f x ≡ only (lies_outside (take i chunks)) (only (is_astray key) f) x
  unfolding only
  less_at x = rw (listed_more chunks i d (chunk_of x.at) l) (neither (f x) (is_listed (take i chunks) (chunk_of x.at)) (same_chunk (chunk_of x.at) (get_or chunks i d)))

  apart_at : is_listed (take i chunks) (get_or chunks i d) ≡ false → (x : BlockAt) → only (lies_in (take (i + 1) chunks)) f x ≡ only (lies_in (take i chunks)) f x + only (lies_at key) f x
  unfolding only
  apart_at new x =
      rw (listed_more chunks i d (chunk_of x.at) l)
      (either_apart (f x) (is_listed (take i chunks) (chunk_of x.at)) (same_chunk (chunk_of x.at) (get_or chunks i d))
      (λ h.
      elim (cases_Bool (same_chunk (chunk_of x.at) (get_or chunks i d))) [
        | inr e ↦ e
        | inl e ↦
            let w : is_listed (take i chunks) (chunk_of x.at) ≡ false = ap (is_listed (take i chunks)) (same_chunk-true (chunk_of x.at) (get_or chunks i d) e) ∙ new in
            let v : true ≡ false = sym h ∙ w in
            absurd cc
      ]))

  -- one chunk more
  pub in_more : sum_by (only (lies_in (take (i + 1) chunks)) f) xs ≡ sum_by (only (lies_in (take i chunks)) f) xs + sum_by (only (lies_outside (take i chunks)) (only (lies_at key) f)) xs
  in_more = sum_two (only (lies_in (take i chunks)) f) (only (lies_outside (take i chunks)) (only (lies_at key) f)) (only (lies_in (take (i + 1) chunks)) f) more_at xs

  pub out_more : sum_by (only (lies_outside (take (i + 1) chunks)) f) xs ≡ sum_by (only (lies_outside (take i chunks)) (only (is_astray key) f)) xs
  out_more = sum_same (only (lies_outside (take (i + 1) chunks)) f) (only (lies_outside (take i chunks)) (only (is_astray key) f)) less_at xs

  -- one chunk more, of chunks in order
  in_next : IsStrictlySortedBy chunk_cmp chunks → sum_by (only (lies_in (take (i + 1) chunks)) f) xs ≡ sum_by (only (lies_in (take i chunks)) f) xs + sum_by (only (lies_at key) f) xs
  in_next s = sum_two (only (lies_in (take i chunks)) f) (only (lies_at key) f) (only (lies_in (take (i + 1) chunks)) f) (apart_at (not_before chunks i d s l)) xs

module _ (f : BlockAt → ℕ) where
  nothing_in : (x : BlockAt) → only (lies_in []) f x ≡ 0
  nothing_in x = only-no (lies_in []) f x refl

  -- no chunk
  pub in_none : (xs : List BlockAt) → sum_by (only (lies_in []) f) xs ≡ 0
  in_none [] = refl
  in_none (x ∷ xs) = omega (arith, nothing_in x, in_none xs, sum_by-cons (only (lies_in []) f) x xs)

  pub out_none : (xs : List BlockAt) → sum_by (only (lies_outside []) f) xs ≡ sum_by f xs
  out_none xs = omega (arith, split (lies_in []) f xs, in_none xs)

  -- the first chunks of a list have no more than all
  in_all : (chunks : List ChunkPos) (n : ℕ) (x : BlockAt) → only (lies_in (take n chunks)) f x ≤ only (lies_in chunks) f x
  in_all chunks n x =
      elim (cases_Bool (is_listed (take n chunks) (chunk_of x.at))) [
        | inr e ↦ rw (only-no (lies_in (take n chunks)) f x e) (omega arith)
        | inl e ↦
            let parts : is_listed chunks (chunk_of x.at) ≡ (is_listed (take n chunks) (chunk_of x.at) || is_listed (drop n chunks) (chunk_of x.at)) =
            ap (λ (q : List ChunkPos). is_listed q (chunk_of x.at)) (sym (take-append-drop n chunks)) ∙ list_any-append (same_chunk (chunk_of x.at)) (take n chunks) (drop n chunks) in
            let all : is_listed chunks (chunk_of x.at) ≡ true = parts ∙ ap (λ b. b || is_listed (drop n chunks) (chunk_of x.at)) e in
            omega (arith, only-yes (lies_in (take n chunks)) f x e, only-yes (lies_in chunks) f x all)
      ]

  pub in_le : (chunks : List ChunkPos) (n : ℕ) (xs : List BlockAt) → sum_by (only (lies_in (take n chunks)) f) xs ≤ sum_by (only (lies_in chunks) f) xs
  in_le chunks n xs = sum_le (only (lies_in (take n chunks)) f) (only (lies_in chunks) f) (in_all chunks n) xs

-- the blocks of one chunk more
pub count_next : (es : List ((ℤ × ℤ) × List BlockAt)) (chunks : List ChunkPos) (i n : ℕ) (d : ChunkPos) → AreCells es → IsStrictlySortedBy chunk_cmp chunks → i < length chunks → n ≡ count_by (lies_in (take i chunks)) (blocks_in es)
    → n + length (blocks_at es ((get_or chunks i d).x, (get_or chunks i d).z)) ≡ count_by (lies_in (take (i + 1) chunks)) (blocks_in es)
count_next es chunks i n d a s l h =
    let here : List BlockAt = blocks_at es ((get_or chunks i d).x, (get_or chunks i d).z) in
    omega (
      arith,
      count_is (lies_in (take i chunks)) (blocks_in es),
      count_is (lies_in (take (i + 1) chunks)) (blocks_in es),
      in_next chunks i d l (λ x. 1) (blocks_in es) s,
      chunk_sum es a ((get_or chunks i d).x, (get_or chunks i d).z) (λ x. 1),
      length_sum here,
    )

pub in_all_count : (chunks : List ChunkPos) (n : ℕ) (xs : List BlockAt) → count_by (lies_in (take n chunks)) xs ≤ count_by (lies_in chunks) xs
in_all_count chunks n xs = omega (arith, count_is (lies_in (take n chunks)) xs, count_is (lies_in chunks) xs, in_le (λ x. 1) chunks n xs)

abbrev pub key_of : List ChunkPos → ℕ → ChunkPos → ℤ × ℤ
key_of chunks i d = ((get_or chunks i d).x, (get_or chunks i d).z)

-- what is left outside the first chunks counts the blocks of the next
pub count_more : (chunks : List ChunkPos) (i : ℕ) (d : ChunkPos) (xs ys : List BlockAt) → i < length chunks → ((f : BlockAt → ℕ) → sum_by f ys ≡ sum_by (only (lies_outside (take i chunks)) f) xs)
    → count_by (lies_in (take i chunks)) xs + count_by (lies_at (key_of chunks i d)) ys ≡ count_by (lies_in (take (i + 1) chunks)) xs
count_more chunks i d xs ys l left =
    omega (
      arith,
      count_is (lies_in (take i chunks)) xs,
      count_is (lies_in (take (i + 1) chunks)) xs,
      count_is (lies_at (key_of chunks i d)) ys,
      left (only (lies_at (key_of chunks i d)) (λ x. 1)),
      in_more chunks i d l (λ x. 1) xs,
    )
