-- How the weights of blocks sum.
use Rattle.std.proofs.Common.{◌≡◌, ℕ, ◌+◌, ◌≤◌, Bool, true, false, cond, not, List, [], ◌∷◌, ◌++◌, length, get_or, refl, sym, ◌∙◌, ap, inl, inr, arith}
use Rattle.std.specs.Prelude.{Contains, sum_by, slice_set}
use Rattle.std.specs.List.{count_by, filter, insert, remove, IsDistinct, AllByRecursion}
use Rattle.std.specs.List.Sorted.{IsStrictlySortedBy}
use Rattle.std.proofs.lemmas.Bool.{cases_Bool}
use Rattle.std.proofs.lemmas.List.Sorted.{IsPermutation-remove, sum_by-IsPermutation}
use Rattle.std.proofs.lemmas.List.Sums.{sum_by-append, sum_by-cons, sum_by-set}
use Rattle.fol_model.specs.declared.openings.BlockAt.{BlockAt}
use Rattle.fol_model.specs.declared.places.BlockPos.{BlockPos}
use Rattle.fol_model.specs.Geometry.{same_block}
use Rattle.fol_model.specs.Universe.{block_cmp}
use Rattle.fol_model.specs.World.{block_in}
use Rattle.fol_keyed.specs.Apart.{Untied}
use Rattle.fol_keyed.proofs.Keyed.{contains_cases, contains_more, at_own}
use Rattle.fol_keyed.proofs.Places.{same_block-true, same_block-self, block_cmp_total, block_cmp_tells}
use Rattle.fol_keyed.proofs.Sorted.{differ_from_sorted, none_between, sorted_insert, sorted_remove, sorted_set}
use Rattle.fol_blocks.specs.Pages.{Found, Lacking}
use Rattle.fol_blocks.specs.Order.{by_place}
use Rattle.fol_blocks.specs.Weights.{only, one_at, stands_at, stands_elsewhere, OneMore, Clears, Puts}

-- ---- weights
-- a weight that is the sum of two
pub sum_two : {X : Type 0} (f g h : X → ℕ) → ((x : X) → h x ≡ f x + g x) → (xs : List X) → sum_by h xs ≡ sum_by f xs + sum_by g xs
sum_two f g h e [] = refl
sum_two f g h e (x ∷ xs) = omega (arith, e x, sum_two f g h e xs, sum_by-cons f x xs, sum_by-cons g x xs, sum_by-cons h x xs)

pub sum_le : (f g : BlockAt → ℕ) → ((x : BlockAt) → f x ≤ g x) → (xs : List BlockAt) → sum_by f xs ≤ sum_by g xs
sum_le f g e [] = omega arith
sum_le f g e (x ∷ xs) = omega (arith, e x, sum_le f g e xs, sum_by-cons f x xs, sum_by-cons g x xs)

pub sum_same : (f g : BlockAt → ℕ) → ((x : BlockAt) → f x ≡ g x) → (xs : List BlockAt) → sum_by f xs ≡ sum_by g xs
sum_same f g e [] = refl
sum_same f g e (x ∷ xs) = omega (arith, e x, sum_same f g e xs, sum_by-cons f x xs, sum_by-cons g x xs)

module _ (p : BlockAt → Bool) (f : BlockAt → ℕ) where
  pub only-yes : (x : BlockAt) → p x ≡ true → only p f x ≡ f x
  unfolding only
  only-yes x e = rw e refl

  pub only-no : (x : BlockAt) → p x ≡ false → only p f x ≡ 0
  unfolding only
  only-no x e = rw e refl

  only-le : (x : BlockAt) → only p f x ≤ f x
  only-le x = elim (cases_Bool (p x)) [ inl e ↦ rw (only-yes x e) (omega arith) | inr e ↦ rw (only-no x e) (omega arith) ]

  both : (x : BlockAt) → f x ≡ only p f x + only (λ y. not (p y)) f x
  unfolding only
  both x = elim (cases_Bool (p x)) [ inl e ↦ rw e (omega arith) | inr e ↦ rw e (omega arith) ]

  -- the blocks that pass, and those that do not
  pub split : (xs : List BlockAt) → sum_by (only p f) xs + sum_by (only (λ x. not (p x)) f) xs ≡ sum_by f xs
  split xs = sym (sum_two (only p f) (only (λ x. not (p x)) f) f both xs)

  -- where none passes, they weigh nothing
  pub none : (xs : List BlockAt) → count_by p xs ≡ 0 → sum_by (only p f) xs ≡ 0
  none [] h = refl
  none (x ∷ xs) h =
      elim (cases_Bool (p x)) [
        | inl e ↦ let w : cond {A = ℕ} (p x) 1 0 ≡ 1 = rw e refl in absurd (omega (arith, w, sum_by-cons (λ (y : BlockAt). cond (p y) 1 0) x xs))
        | inr e ↦ omega (arith, only-no x e, sum_by-cons (only p f) x xs, none xs (omega (arith, sum_by-cons (λ (y : BlockAt). cond (p y) 1 0) x xs)))
      ]

  pub filtered : (xs : List BlockAt) → sum_by f (filter p xs) ≡ sum_by (only p f) xs
  filtered [] = refl
  filtered (x ∷ xs) =
      elim (cases_Bool (p x)) [
        | inl e ↦ rw e (omega (arith, only-yes x e, filtered xs, sum_by-cons f x (filter p xs), sum_by-cons (only p f) x xs))
        | inr e ↦ rw e (omega (arith, only-no x e, filtered xs, sum_by-cons (only p f) x xs))
      ]

-- where all pass, they have their weight
pub all_pass : (p : BlockAt → Bool) (f : BlockAt → ℕ) (xs : List BlockAt) → count_by (λ x. not (p x)) xs ≡ 0 → sum_by (only p f) xs ≡ sum_by f xs
all_pass p f xs h = omega (arith, split p f xs, none (λ x. not (p x)) f xs h)

-- a count is a sum
each : (p : BlockAt → Bool) (x : BlockAt) → cond (p x) 1 0 ≡ only p (λ y. 1) x
unfolding only
each p x = refl

pub count_is : (p : BlockAt → Bool) (xs : List BlockAt) → count_by p xs ≡ sum_by (only p (λ x. 1)) xs
count_is p xs = sum_same (λ x. cond (p x) 1 0) (only p (λ x. 1)) (each p) xs

pub length_sum : (xs : List BlockAt) → length xs ≡ sum_by (λ x. 1) xs
length_sum [] = refl
length_sum (x ∷ xs) = omega (arith, length_sum xs, sum_by-cons (λ (y : BlockAt). 1) x xs)

-- ---- blocks at a place
pub counted : (xs : List BlockAt) (x : BlockAt) → Contains xs x → 1 ≤ sum_by (one_at x.at) xs
counted [] x (k, l, e) = absurd (omega arith)
counted (y ∷ ys) x c =
    elim (contains_cases x y ys c) [
      | inl e ↦ let w : one_at x.at y ≡ 1 = ap (one_at x.at) e ∙ rw (same_block-self x.at) refl in omega (arith, w, sum_by-cons (one_at x.at) y ys)
      | inr m ↦ omega (arith, counted ys x m, sum_by-cons (one_at x.at) y ys)
    ]

pub untied : (xs ys : List BlockAt) → ((at : BlockPos) → sum_by (one_at at) xs + sum_by (one_at at) ys ≤ 1) → Untied by_place xs ys
untied xs ys h x y m n e =
    let same : x.at ≡ y.at = block_cmp_tells x.at y.at e in
    let one : 1 ≤ sum_by (one_at y.at) xs = let P : BlockPos → Type 0 = λ q. 1 ≤ sum_by (one_at q) xs in rw same at (counted xs x m) in
    omega (arith, one, counted ys y n, h y.at)

none_here : (xs : List BlockAt) (b : BlockPos) → ((x : BlockAt) → Contains xs x → x.at ≡ b → ⊥) → sum_by (one_at b) xs ≡ 0
none_here [] b h = refl
none_here (x ∷ xs) b h =
    elim (cases_Bool (same_block x.at b)) [
      | inl e ↦ absurd (h x (0, omega arith, refl) (same_block-true x.at b e))
      | inr e ↦ let w : one_at b x ≡ 0 = rw e refl in omega (arith, w, none_here xs b (λ y m. h y (contains_more y x xs m)), sum_by-cons (one_at b) x xs)
    ]

-- no two blocks with one place
abbrev pub Differ : List BlockAt → Type 0
Differ xs = IsDistinct (λ (a b : BlockAt). same_block a.at b.at) xs

distinct_once : (xs : List BlockAt) → Differ xs → (b : BlockPos) → sum_by (one_at b) xs ≤ 1
unfolding IsDistinct
distinct_once [] d b = omega arith
distinct_once (x ∷ xs) d b =
    elim (cases_Bool (same_block x.at b)) [
      | inl e ↦
          let same : x.at ≡ b = same_block-true x.at b e in
          let rest : sum_by (one_at b) xs ≡ 0 = rw same at (others x xs d.0) in
          let w : one_at b x ≡ 1 = rw e refl in
          omega (arith, w, rest, sum_by-cons (one_at b) x xs)
      | inr e ↦ let w : one_at b x ≡ 0 = rw e refl in omega (arith, w, distinct_once xs d.1 b, sum_by-cons (one_at b) x xs)
    ]
  where
    others : (x : BlockAt) (xs : List BlockAt) → AllByRecursion (λ z. same_block x.at z.at ≡ false) xs → sum_by (one_at x.at) xs ≡ 0
    others x [] h = refl
    others x (z ∷ zs) h =
        elim (cases_Bool (same_block z.at x.at)) [
          | inl e ↦ let t : true ≡ false = sym (ap (λ q. same_block x.at q) (same_block-true z.at x.at e) ∙ same_block-self x.at) ∙ h.0 in absurd cc
          | inr e ↦ let w : one_at x.at z ≡ 0 = rw e refl in omega (arith, w, others x zs h.1, sum_by-cons (one_at x.at) z zs)
        ]

pub once_distinct : (xs : List BlockAt) → ((b : BlockPos) → sum_by (one_at b) xs ≤ 1) → Differ xs
unfolding IsDistinct
once_distinct [] h = tt
once_distinct (x ∷ xs) h =
    let w : one_at x.at x ≡ 1 = rw (same_block-self x.at) refl in
    (others x xs (omega (arith, w, h x.at, sum_by-cons (one_at x.at) x xs)), once_distinct xs (λ b. omega (arith, h b, sum_by-cons (one_at b) x xs)))
  where
    others : (x : BlockAt) (xs : List BlockAt) → sum_by (one_at x.at) xs ≡ 0 → AllByRecursion (λ z. same_block x.at z.at ≡ false) xs
    others x [] h = tt
    others x (z ∷ zs) h = (
      elim (cases_Bool (same_block x.at z.at)) [
        | inl e ↦
            let same : x.at ≡ z.at = same_block-true x.at z.at e in
            let w : one_at x.at z ≡ 1 = rw (ap (λ q. same_block q x.at) (sym same) ∙ same_block-self x.at) refl in
            absurd (omega (arith, w, h, sum_by-cons (one_at x.at) z zs))
        | inr e ↦ e
      ],
      others x zs (omega (arith, h, sum_by-cons (one_at x.at) z zs)),
    )

-- the number of a place that has one block at most
pub number_sum : (xs : List BlockAt) (b : BlockPos) → sum_by (one_at b) xs ≤ 1 → block_in xs b ≡ sum_by (only (stands_at b) (λ x. x.id)) xs
number_sum [] b h = refl
number_sum (x ∷ xs) b h =
    elim (cases_Bool (same_block x.at b)) [
      | inl e ↦
          let w : one_at b x ≡ 1 = rw e refl in
          let rest : sum_by (only (stands_at b) (λ y. y.id)) xs ≡ 0 = none (stands_at b) (λ y. y.id) xs (omega (arith, w, h, sum_by-cons (one_at b) x xs)) in
          rw e (omega (arith, rest, only-yes (stands_at b) (λ y. y.id) x e, sum_by-cons (only (stands_at b) (λ y. y.id)) x xs))
      | inr e ↦
          let w : one_at b x ≡ 0 = rw e refl in
          let rest : block_in xs b ≡ sum_by (only (stands_at b) (λ y. y.id)) xs = number_sum xs b (omega (arith, w, h, sum_by-cons (one_at b) x xs)) in
          rw e (omega (arith, rest, only-no (stands_at b) (λ y. y.id) x e, sum_by-cons (only (stands_at b) (λ y. y.id)) x xs))
    ]

-- ---- one list in order of place
module _ (xs : List BlockAt) where
  pub differ : IsStrictlySortedBy by_place xs → Differ xs
  differ s = differ_from_sorted (λ (x : BlockAt). x.at) block_cmp block_cmp_total same_block same_block-true xs s

  pub once_sorted : IsStrictlySortedBy by_place xs → (b : BlockPos) → sum_by (one_at b) xs ≤ 1
  once_sorted s = distinct_once xs (differ s)

  pub absent : (i : ℕ) (b : BlockPos) → Lacking xs b i → sum_by (one_at b) xs ≡ 0
  absent i b p = none_here xs b (none_between (λ (x : BlockAt). x.at) block_cmp block_cmp_total xs i b p.1)

  pub order_inserted : (i : ℕ) (y : BlockAt) → IsStrictlySortedBy by_place xs → Lacking xs y.at i → IsStrictlySortedBy by_place (insert xs i y)
  order_inserted i y s p = sorted_insert (λ (x : BlockAt). x.at) block_cmp block_cmp_total xs i y s p.0 p.1

  pub order_replaced : (i : ℕ) (y : BlockAt) → IsStrictlySortedBy by_place xs → Found xs y.at i → IsStrictlySortedBy by_place (slice_set xs i y)
  order_replaced i y s p = sorted_set (λ (x : BlockAt). x.at) block_cmp block_cmp_total xs i y s p.1 p.0

  pub order_removed : (i : ℕ) → IsStrictlySortedBy by_place xs → IsStrictlySortedBy by_place (remove xs i)
  order_removed i s = sorted_remove (λ (x : BlockAt). x.at) block_cmp block_cmp_total xs i s

  -- all but the blocks at a place that has none
  pub elsewhere_all : (b : BlockPos) (f : BlockAt → ℕ) → sum_by (one_at b) xs ≡ 0 → sum_by (only (stands_elsewhere b) f) xs ≡ sum_by f xs
  elsewhere_all b f h = omega (arith, split (stands_at b) f xs, none (stands_at b) f xs h)

  pub clears_absent : (b : BlockPos) → sum_by (one_at b) xs ≡ 0 → Clears xs xs b
  clears_absent b h f = sym (elsewhere_all b f h)

  pub puts_more : (ys : List BlockAt) (y : BlockAt) → sum_by (one_at y.at) xs ≡ 0 → OneMore xs ys y → Puts xs ys y
  puts_more ys y h m f = m f ∙ ap (λ (n : ℕ). f y + n) (sym (elsewhere_all y.at f h))

  module _ (i : ℕ) (b : BlockPos) (d : BlockAt) (s : IsStrictlySortedBy by_place xs) (k : Found xs b i) where
    abbrev here : BlockAt
    here = get_or xs i d

    without : (f : BlockAt → ℕ) → sum_by f xs ≡ f here + sum_by f (remove xs i)
    without f = sym (sum_by-IsPermutation f xs (here ∷ remove xs i) (IsPermutation-remove xs i here k.0 (at_own xs i d k.0))) ∙ sum_by-cons f here (remove xs i)

    one_here : one_at b here ≡ 1
    one_here = rw (ap (λ q. same_block q b) (k.1 d) ∙ same_block-self b) refl

    at_here : (f : BlockAt → ℕ) → sum_by (only (stands_at b) f) xs ≡ f here
    at_here f =
        let left : sum_by (one_at b) (remove xs i) ≡ 0 = omega (arith, without (one_at b), one_here, once_sorted s b) in
        omega (arith, without (only (stands_at b) f), only-yes (stands_at b) f here (ap (λ q. same_block q b) (k.1 d) ∙ same_block-self b), none (stands_at b) f (remove xs i) left)

    pub counted_here : 1 ≤ sum_by (one_at b) xs
    counted_here = omega (arith, without (one_at b), one_here)

    pub number_here : block_in xs b ≡ here.id
    number_here = number_sum xs b (once_sorted s b) ∙ at_here (λ x. x.id)

    pub removed : Clears xs (remove xs i) b
    removed f = omega (arith, without f, at_here f, split (stands_at b) f xs)

  pub replaced : (i : ℕ) (y : BlockAt) → IsStrictlySortedBy by_place xs → Found xs y.at i → Puts xs (slice_set xs i y) y
  replaced i y s k f = omega (arith, sum_by-set f xs i y y k.0, at_here i y.at y s k f, split (stands_at y.at) f xs)

pub number_none : (xs : List BlockAt) (b : BlockPos) → sum_by (one_at b) xs ≡ 0 → 0 ≡ block_in xs b
number_none xs b h = sym (number_sum xs b (omega arith) ∙ none (stands_at b) (λ x. x.id) xs h)

pub only_less : (p : BlockAt → Bool) (f : BlockAt → ℕ) (xs : List BlockAt) → sum_by (only p f) xs ≤ sum_by f xs
only_less p f xs = sum_le (only p f) f (only-le p f) xs

-- how many pass, and how many do not
pub count_split : (p : BlockAt → Bool) (xs : List BlockAt) → count_by p xs + sum_by (only (λ x. not (p x)) (λ x. 1)) xs ≡ length xs
count_split p xs = omega (arith, count_is p xs, split p (λ x. 1) xs, length_sum xs)

pub count_append : (p : BlockAt → Bool) (xs ys : List BlockAt) → count_by p (xs ++ ys) ≡ count_by p xs + count_by p ys
count_append p xs ys = sum_by-append (λ (x : BlockAt). cond (p x) 1 0) xs ys
