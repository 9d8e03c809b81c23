-- The blocks of a region after a change of one block.
use Rattle.std.proofs.Common.{◌≡◌, ℕ, zero, suc, ◌⊎◌, ◌+◌, ◌<◌, ◌≤◌, true, false, cond, List, [], ◌∷◌, ◌++◌, length, refl, sym, ◌∙◌, ap, inl, inr, arith}
use Rattle.std.specs.Prelude.{sum_by, nat_lt}
use Rattle.std.specs.List.{count_by}
use Rattle.std.proofs.lemmas.Bool.{cases_Bool, eqb-true, ltb-true, ltb-false}
use Rattle.std.proofs.lemmas.List.Sums.{sum_by-append, sum_by-cons}
use Rattle.std.proofs.Math.Path.{fun_ext}
use Rattle.fol_model.specs.declared.openings.BlockAt.{BlockAt}
use Rattle.fol_model.specs.declared.places.BlockPos.{BlockPos}
use Rattle.fol_model.specs.Geometry.{same_block}
use Rattle.fol_model.specs.ActionStep.{at_block}
use Rattle.fol_model.specs.World.{block_in}
use Rattle.fol_keyed.proofs.Places.{same_block-true, same_block-self}
use Rattle.fol_blocks.specs.Kept.{is_bare, one_if_filled}
use Rattle.fol_blocks.specs.Weights.{is_filled, only, one_at, stands_at, stands_elsewhere, Clears, Puts, SameBlocks, Sets}
use Rattle.fol_blocks.proofs.Weighing.{count_is, elsewhere_all, length_sum, number_none, number_sum, only-no, only-yes, split, sum_same}

-- ---- two lists, one of which changes
pub clears_both : (xs ys us vs : List BlockAt) (b : BlockPos) → Clears xs us b → Clears ys vs b → Clears (xs ++ ys) (us ++ vs) b
clears_both xs ys us vs b h k f = omega (arith, h f, k f, sum_by-append f us vs, sum_by-append (only (stands_elsewhere b) f) xs ys)

pub puts_left : (xs ys us : List BlockAt) (y : BlockAt) → Puts xs us y → sum_by (one_at y.at) ys ≡ 0 → Puts (xs ++ ys) (us ++ ys) y
puts_left xs ys us y h n f = omega (arith, h f, elsewhere_all ys y.at f n, sum_by-append f us ys, sum_by-append (only (stands_elsewhere y.at) f) xs ys)

pub puts_right : (xs ys us vs : List BlockAt) (y : BlockAt) → SameBlocks xs us → sum_by (one_at y.at) xs ≡ 0 → Puts ys vs y → Puts (xs ++ ys) (us ++ vs) y
puts_right xs ys us vs y e n h f = omega (arith, e f, h f, elsewhere_all xs y.at f n, sum_by-append f us vs, sum_by-append (only (stands_elsewhere y.at) f) xs ys)

pub same_left : (xs ys us : List BlockAt) → SameBlocks xs us → SameBlocks (xs ++ ys) (us ++ ys)
same_left xs ys us h f = omega (arith, h f, sum_by-append f us ys, sum_by-append f xs ys)

-- where a block takes the place of one, and there are as many after it, one was there
pub one_was : (xs ys : List BlockAt) (y : BlockAt) → Puts xs ys y → length ys ≡ length xs → sum_by (one_at y.at) xs ≡ 1
one_was xs ys y h n =
    omega (arith, h (λ x. 1), n, length_sum xs, length_sum ys, count_is (stands_at y.at) xs, split (stands_at y.at) (λ x. 1) xs)

-- ---- all blocks
sum_zero : (f : BlockAt → ℕ) → ((x : BlockAt) → f x ≡ 0) → (xs : List BlockAt) → sum_by f xs ≡ 0
sum_zero f e [] = refl
sum_zero f e (x ∷ xs) = omega (arith, e x, sum_zero f e xs, sum_by-cons f x xs)

module _ (b : BlockPos) (f : BlockAt → ℕ) where
  -- nothing elsewhere stands at the place
  gone : (xs : List BlockAt) → sum_by (only (stands_elsewhere b) (only (stands_at b) f)) xs ≡ 0
  gone xs = sum_zero (only (stands_elsewhere b) (only (stands_at b) f)) each xs
    where
      each : (x : BlockAt) → only (stands_elsewhere b) (only (stands_at b) f) x ≡ 0
      each x =
          elim (cases_Bool (same_block x.at b)) [
            | inl e ↦ only-no (stands_elsewhere b) (only (stands_at b) f) x (rw e refl)
            | inr e ↦ only-yes (stands_elsewhere b) (only (stands_at b) f) x (rw e refl) ∙ only-no (stands_at b) f x e
          ]

  -- what stands at another place stands elsewhere
  stays : (q : BlockPos) → same_block b q ≡ false → (xs : List BlockAt) → sum_by (only (stands_elsewhere b) (only (stands_at q) f)) xs ≡ sum_by (only (stands_at q) f) xs
  stays q apart xs = sum_same (only (stands_elsewhere b) (only (stands_at q) f)) (only (stands_at q) f) each xs
    where
      each : (x : BlockAt) → only (stands_elsewhere b) (only (stands_at q) f) x ≡ only (stands_at q) f x
      each x =
          elim (cases_Bool (same_block x.at b)) [
            | inr e ↦ only-yes (stands_elsewhere b) (only (stands_at q) f) x (rw e refl)
            | inl e ↦
                let other : same_block x.at q ≡ false = ap (λ p. same_block p q) (same_block-true x.at b e) ∙ apart in
                only-no (stands_elsewhere b) (only (stands_at q) f) x (rw e refl) ∙ sym (only-no (stands_at q) f x other)
          ]

-- the sum over one place after a change
module _ (xs ys : List BlockAt) (y : BlockAt) (h : Sets xs ys y) where
  at_own : (f : BlockAt → ℕ) → sum_by (only (stands_at y.at) f) ys ≡ only is_filled f y
  at_own f =
      let own : only is_filled (only (stands_at y.at) f) y ≡ only is_filled f y =
      elim (cases_Bool (is_filled y)) [
        | inl e ↦ only-yes is_filled (only (stands_at y.at) f) y e ∙ only-yes (stands_at y.at) f y (same_block-self y.at) ∙ sym (only-yes is_filled f y e)
        | inr e ↦ only-no is_filled (only (stands_at y.at) f) y e ∙ sym (only-no is_filled f y e)
      ] in
      omega (arith, h (only (stands_at y.at) f), own, gone y.at f xs)

  at_other : (f : BlockAt → ℕ) (q : BlockPos) → same_block y.at q ≡ false → sum_by (only (stands_at q) f) ys ≡ sum_by (only (stands_at q) f) xs
  at_other f q apart =
      let own : only is_filled (only (stands_at q) f) y ≡ 0 =
      elim (cases_Bool (is_filled y)) [
        | inl e ↦ only-yes is_filled (only (stands_at q) f) y e ∙ only-no (stands_at q) f y apart
        | inr e ↦ only-no is_filled (only (stands_at q) f) y e
      ] in
      omega (arith, h (only (stands_at q) f), own, stays y.at f q apart xs)

  pub once_set : ((q : BlockPos) → sum_by (one_at q) xs ≤ 1) → (q : BlockPos) → sum_by (one_at q) ys ≤ 1
  once_set once q =
      elim (cases_Bool (same_block y.at q)) [
        | inl e ↦
            let few : only is_filled (λ x. 1) y ≤ 1 = elim (cases_Bool (is_filled y)) [ inl t ↦ rw (only-yes is_filled (λ x. 1) y t) (omega arith) | inr t ↦ rw (only-no is_filled (λ x. 1) y t) (omega arith) ] in
            let own : sum_by (one_at y.at) ys ≤ 1 = omega (arith, few, count_is (stands_at y.at) ys, at_own (λ x. 1)) in
            rw (same_block-true y.at q e) at own
        | inr e ↦ omega (arith, once q, count_is (stands_at q) ys, count_is (stands_at q) xs, at_other (λ x. 1) q e)
      ]

  pub full_set : count_by is_bare xs ≡ 0 → count_by is_bare ys ≡ 0
  full_set full =
      let own : only is_filled (λ x. cond (is_bare x) 1 0) y ≡ 0 =
      elim (cases_Bool (is_filled y)) [
        | inl e ↦ only-yes is_filled (λ x. cond (is_bare x) 1 0) y e ∙ (elim (cases_Bool (is_bare y)) [ inl t ↦ absurd (omega (arith, ltb-true 0 y.id e, eqb-true y.id 0 t)) | inr t ↦ rw t refl ])
        | inr e ↦ only-no is_filled (λ x. cond (is_bare x) 1 0) y e
      ] in
      omega (arith, h (λ x. cond (is_bare x) 1 0), own, full, split (stands_at y.at) (λ x. cond (is_bare x) 1 0) xs)

  pub numbers_set : ((q : BlockPos) → sum_by (one_at q) xs ≤ 1) → block_in ys ≡ at_block (block_in xs) y.at y.id
  numbers_set once = fun_ext (λ q.
      elim (cases_Bool (same_block y.at q)) [
        | inl e ↦
            let own : only is_filled (λ x. x.id) y ≡ y.id =
            elim (cases_Bool (is_filled y)) [ inl t ↦ only-yes is_filled (λ x. x.id) y t | inr t ↦ only-no is_filled (λ x. x.id) y t ∙ omega (arith, ltb-false 0 y.id t) ] in
            let number : block_in ys y.at ≡ y.id = number_sum ys y.at (once_set once y.at) ∙ at_own (λ x. x.id) ∙ own in
            rw e (rw (same_block-true y.at q e) at number)
        | inr e ↦ rw e (number_sum ys q (once_set once q) ∙ at_other (λ x. x.id) q e ∙ sym (number_sum xs q (once q)))
      ])

-- where each block has a number, a place has one exactly where a block stands
pub one_is : (xs : List BlockAt) (b : BlockPos) → count_by is_bare xs ≡ 0 → sum_by (one_at b) xs ≤ 1 → sum_by (one_at b) xs ≡ one_if_filled (block_in xs b)
one_is [] b full once = refl
one_is (x ∷ xs) b full once =
    elim (cases_Bool (same_block x.at b)) [
      | inl e ↦
          let w : one_at b x ≡ 1 = rw e refl in
          let own : nat_lt 0 x.id ≡ true =
          elim (cases_Bool (nat_lt 0 x.id)) [
            | inl t ↦ t
            | inr t ↦
                let zero : x.id ≡ 0 = omega (arith, ltb-false 0 x.id t) in
                let bare : cond {A = ℕ} (is_bare x) 1 0 ≡ 1 = rw zero refl in
                absurd (omega (arith, bare, full, sum_by-cons (λ (z : BlockAt). cond (is_bare z) 1 0) x xs))
          ] in
          let number : one_if_filled (block_in (x ∷ xs) b) ≡ 1 = rw (e, own) refl in
          omega (arith, number, w, once, sum_by-cons (one_at b) x xs)
      | inr e ↦
          let w : one_at b x ≡ 0 = rw e refl in
          let rest : sum_by (one_at b) xs ≡ one_if_filled (block_in xs b) =
          one_is xs b (omega (arith, full, sum_by-cons (λ (z : BlockAt). cond (is_bare z) 1 0) x xs)) (omega (arith, w, once, sum_by-cons (one_at b) x xs)) in
          let number : one_if_filled (block_in (x ∷ xs) b) ≡ one_if_filled (block_in xs b) = rw e refl in
          omega (arith, number, w, rest, sum_by-cons (one_at b) x xs)
    ]

pub one_at_most : (n : ℕ) → one_if_filled n ≤ 1
one_at_most n = elim (cases_Bool (nat_lt 0 n)) [ inl t ↦ rw t (omega arith) | inr t ↦ rw t (omega arith) ]

pub len_set : (xs ys : List BlockAt) (y : BlockAt) → Sets xs ys y → count_by is_bare xs ≡ 0 → ((q : BlockPos) → sum_by (one_at q) xs ≤ 1) → length ys + one_if_filled (block_in xs y.at) ≡ length xs + one_if_filled y.id
len_set xs ys y h full once =
    let own : only is_filled (λ x. 1) y ≡ one_if_filled y.id =
    elim (cases_Bool (is_filled y)) [ inl t ↦ only-yes is_filled (λ x. 1) y t ∙ rw t refl | inr t ↦ only-no is_filled (λ x. 1) y t ∙ rw t refl ] in
    omega (arith, h (λ x. 1), own, length_sum xs, length_sum ys, split (stands_at y.at) (λ x. 1) xs, count_is (stands_at y.at) xs, one_is xs y.at full (once y.at))

-- the same blocks
module _ (xs ys : List BlockAt) (h : SameBlocks xs ys) where
  pub len_same : length ys ≡ length xs
  len_same = length_sum ys ∙ h (λ x. 1) ∙ sym (length_sum xs)

  pub numbers_same : ((q : BlockPos) → sum_by (one_at q) xs ≤ 1) → block_in ys ≡ block_in xs
  numbers_same once = fun_ext (λ q. number_sum ys q (omega (arith, h (one_at q), once q)) ∙ h (only (stands_at q) (λ x. x.id)) ∙ sym (number_sum xs q (once q)))

pub sets_put : (xs ys : List BlockAt) (y : BlockAt) → Puts xs ys y → 0 < y.id → Sets xs ys y
sets_put xs ys y h p f =
    let own : only is_filled f y ≡ f y = elim (cases_Bool (is_filled y)) [ inl t ↦ only-yes is_filled f y t | inr t ↦ absurd (omega (arith, ltb-false 0 y.id t)) ] in
    omega (arith, h f, own)

pub sets_clear : (xs ys : List BlockAt) (y : BlockAt) → Clears xs ys y.at → y.id ≡ 0 → Sets xs ys y
sets_clear xs ys y h z f =
    let own : only is_filled f y ≡ 0 = elim (cases_Bool (is_filled y)) [ inl t ↦ absurd (omega (arith, ltb-true 0 y.id t)) | inr t ↦ only-no is_filled f y t ] in
    omega (arith, h f, own)

-- the number of a place in two lists, of which one has a block there
module _ (xs ys : List BlockAt) (b : BlockPos) (once : sum_by (one_at b) (xs ++ ys) ≤ 1) where
  in_both : block_in (xs ++ ys) b ≡ block_in xs b + block_in ys b
  in_both =
      omega (
        arith,
        once,
        sum_by-append (one_at b) xs ys,
        sum_by-append (only (stands_at b) (λ x. x.id)) xs ys,
        number_sum (xs ++ ys) b once,
        number_sum xs b (omega (arith, once, sum_by-append (one_at b) xs ys)),
        number_sum ys b (omega (arith, once, sum_by-append (one_at b) xs ys)),
      )

  pub number_first : 0 < block_in xs b → block_in xs b ≡ block_in (xs ++ ys) b
  number_first p =
      elim (cases_zero (sum_by (one_at b) ys)) [
        | inl z ↦ omega (arith, in_both, number_none ys b z)
        | inr q ↦
            let z : sum_by (one_at b) xs ≡ 0 = omega (arith, q, once, sum_by-append (one_at b) xs ys) in
            absurd (omega (arith, p, number_none xs b z))
      ]
    where
      cases_zero : (n : ℕ) → (n ≡ 0) ⊎ (1 ≤ n)
      cases_zero zero = inl refl
      cases_zero (suc n) = inr (omega arith)

  pub number_then : block_in xs b ≡ 0 → block_in ys b ≡ block_in (xs ++ ys) b
  number_then z = omega (arith, in_both, z)
