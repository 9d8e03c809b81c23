-- Where a search in pages ends.
use Rattle.std.proofs.Common.{◌≡◌, ℕ, zero, suc, ◌+◌, ◌-◌, ◌<◌, ◌≤◌, true, false, List, [], ◌∷◌, ◌++◌, length, get_or, refl, sym, ◌∙◌, ap, subst, inl, inr, arith}
use Rattle.std.specs.Prelude.{All, nat_lt}
use Rattle.std.specs.Global.{Vec}
use Rattle.std.specs.List.{AllWithin}
use Rattle.std.specs.List.Sorted.{IsPartitionPoint, IsPartitionedBy, IsStrictlySortedBy}
use Rattle.std.specs.Ordering.{is_gt}
use Rattle.std.specs.declared.cmp.Ordering.{Ordering}
use Rattle.std.specs.declared.cmp.Ordering.TheVariants.{Less, Equal, Greater}
use Rattle.std.proofs.lemmas.Bool.{cases_Bool, ltb-true, ltb-false}
use Rattle.std.proofs.lemmas.List.{drop_at, get_or_default, take_at}
use Rattle.std.proofs.lemmas.Map.Keys.{Less-from_sorted}
use Rattle.fol_model.specs.declared.openings.BlockAt.{BlockAt}
use Rattle.fol_model.specs.declared.places.BlockPos.{BlockPos}
use Rattle.fol_model.specs.Universe.{block_cmp}
use Rattle.fol_keyed.proofs.Places.{block_cmp_total, block_cmp_tells}
use Rattle.fol_keyed.proofs.Sorted.{all_above, sorted_drop, sorted_take}
use Rattle.fol_blocks.specs.Pages.{ArePages, Found, HasSpot, IsAround, IsPage, Lacking, TakesSpot, blocks_on, start_of, starts_by}
use Rattle.fol_blocks.specs.declared.pages.Spot.{Spot}
use Rattle.fol_blocks.specs.declared.pages.TheConstants.{MOST_IN_PAGE}
use Rattle.fol_blocks.specs.Order.{by_place}
use Rattle.fol_blocks.proofs.OnPages.{on_page, start_all, start_most, start_next, start_rises}

-- what is below one that is not above a place is below the place
below : (p q r : BlockPos) → block_cmp p q ≡ Less → is_gt (block_cmp q r) ≡ false → block_cmp p r ≡ Less
below p q r l h = look (block_cmp q r) refl
  where
    look : (o : Ordering) → block_cmp q r ≡ o → block_cmp p r ≡ Less
    look Less e = block_cmp_total.trans p q r l e
    look Equal e = ap (block_cmp p) (sym (block_cmp_tells q r e)) ∙ l
    look Greater e = let t : true ≡ false = sym (ap is_gt e) ∙ h in absurd cc

not_gt : (o : Ordering) → o ≡ Greater → is_gt o ≡ false → ⊥
not_gt o e h = let t : true ≡ false = sym (ap is_gt e) ∙ h in absurd cc

starts_true : (at : BlockPos) (xs : List BlockAt) (e : BlockAt) → 0 < length xs → starts_by at xs ≡ true → is_gt (block_cmp (get_or xs 0 e).at at) ≡ false
starts_true at [] e l h = absurd (omega arith)
starts_true at (x ∷ xs) e l h = elim (cases_Bool (is_gt (block_cmp x.at at))) [ inl t ↦ let w : false ≡ true = rw t at h in absurd cc | inr t ↦ t ]

starts_false : (at : BlockPos) (xs : List BlockAt) (e : BlockAt) → starts_by at xs ≡ false → is_gt (block_cmp (get_or xs 0 e).at at) ≡ true
starts_false at [] e h = let w : true ≡ false = h in absurd cc
starts_false at (x ∷ xs) e h = elim (cases_Bool (is_gt (block_cmp x.at at))) [ inl t ↦ t | inr t ↦ let w : true ≡ false = rw t at h in absurd cc ]

-- ---- the blocks of one page
order_front : (xs ys : List BlockAt) → IsStrictlySortedBy by_place (xs ++ ys) → IsStrictlySortedBy by_place xs
order_front xs ys s = subst (IsStrictlySortedBy by_place) (take_at xs ys (length xs) refl) (sorted_take (λ (x : BlockAt). x.at) block_cmp block_cmp_total (length xs) (xs ++ ys) s)

order_back : (xs ys : List BlockAt) → IsStrictlySortedBy by_place (xs ++ ys) → IsStrictlySortedBy by_place ys
order_back xs ys s = subst (IsStrictlySortedBy by_place) (drop_at xs ys (length xs) refl) (sorted_drop (λ (x : BlockAt). x.at) block_cmp block_cmp_total (length xs) (xs ++ ys) s)

pub order_on : (pages : List (Vec BlockAt)) (i : ℕ) (d : Vec BlockAt) → IsStrictlySortedBy by_place (blocks_on pages) → i < length pages → IsStrictlySortedBy by_place (get_or pages i d).items
order_on [] i d s l = absurd (omega arith)
order_on (p ∷ ps) zero d s l = order_front p.items (blocks_on ps) s
order_on (p ∷ ps) (suc i) d s l = order_on ps i d (order_back p.items (blocks_on ps) s) (omega arith)

next_start : (pages : List (Vec BlockAt)) (i : ℕ) (d : Vec BlockAt) → i < length pages → start_of pages (i + 1) ≡ start_of pages i + length (get_or pages i d).items
next_start pages i d l = let one : i + 1 ≡ suc i = omega arith in ap (start_of pages) one ∙ start_next pages i d l

-- ---- which page
module _ (pages : List (Vec BlockAt)) (a : ArePages pages) (at : BlockPos) where
  module _ (i : ℕ) (d : Vec BlockAt) (l : i < length pages) where
    abbrev page : List BlockAt
    page = (get_or pages i d).items

    start_less : start_of pages i < length (blocks_on pages)
    start_less = let some : 0 < length page = (a.sizes i d l).0 in omega (arith, next_start pages i d l, start_most pages (i + 1), some)

    first_of : (e : BlockAt) → get_or (blocks_on pages) (start_of pages i) e ≡ get_or page 0 e
    first_of e = let zero : start_of pages i ≡ start_of pages i + 0 = omega arith in ap (λ k. get_or (blocks_on pages) k e) zero ∙ on_page pages i 0 d e l (a.sizes i d l).0

    -- what stands before a page that starts by the place
    all_before : starts_by at page ≡ true → AllWithin (λ x. block_cmp x.at at ≡ Less) (blocks_on pages) 0 (start_of pages i)
    all_before h = λ m e z n.
        let q : is_gt (block_cmp (get_or (blocks_on pages) (start_of pages i) e).at at) ≡ false = rw (first_of e) (starts_true at page e (a.sizes i d l).0 h) in
        below (get_or (blocks_on pages) m e).at (get_or (blocks_on pages) (start_of pages i) e).at at (Less-from_sorted by_place (blocks_on pages) m (start_of pages i) e a.order n start_less) q

    -- what stands on a page that does not, and behind it
    all_behind : starts_by at page ≡ false → AllWithin (λ x. block_cmp x.at at ≡ Greater) (blocks_on pages) (start_of pages i) (length (blocks_on pages))
    all_behind h = λ m e z n.
        let q : is_gt (block_cmp (get_or (blocks_on pages) (start_of pages i) e).at at) ≡ true = rw (first_of e) (starts_false at page e h) in
        all_above (λ (x : BlockAt). x.at) block_cmp block_cmp_total (blocks_on pages) (start_of pages i) e at a.order start_less q m e z n

  pub pages_parted : IsPartitionedBy (λ p. starts_by at p.items) pages
  pages_parted = λ i j d l m h.
      elim (cases_Bool (nat_lt i j)) [
        | inr t ↦ let same : i ≡ j = omega (arith, ltb-false i j t) in rw same h
        | inl t ↦
            elim (cases_Bool (starts_by at (get_or pages i d).items)) [
              | inl w ↦ w
              | inr w ↦ absurd (clash i j d (omega arith) m (ltb-true i j t) w h)
            ]
      ]
    where
      clash : (i j : ℕ) (d : Vec BlockAt) → i < length pages → j < length pages → i < j → starts_by at (get_or pages i d).items ≡ false → starts_by at (get_or pages j d).items ≡ true → ⊥
      clash i j d l m n w h = some (get_or pages i d).items (a.sizes i d l).0
        where
          some : (xs : List BlockAt) → 0 < length xs → ⊥
          some [] k = absurd (omega arith)
          some (e ∷ xs) k =
              let rise : start_of pages i ≤ start_of pages j = omega (arith, start_rises pages i j d a.sizes n m) in
              not_gt (block_cmp (get_or (blocks_on pages) (start_of pages j) e).at at) (all_behind i d l w (start_of pages j) e rise (start_less j d m))
              (rw (first_of j d m e) (starts_true at (get_or pages j d).items e (a.sizes j d m).0 h))

  pub around_first : length pages < 2 → IsAround pages at 0
  around_first l = record {
    before = λ m e z n. absurd (omega arith);
    behind = λ m e z n. absurd (omega (arith, z, n, start_all pages 1 (omega arith)));
  }

  around_at : (d : Vec BlockAt) (k : ℕ) → k ≤ length pages → IsPartitionPoint (λ p. starts_by at p.items ≡ true) (λ p. starts_by at p.items ≡ false) pages k → IsAround pages at (k - 1)
  around_at d k l p = record {
    before = λ m e z n.
        elim (cases_Bool (nat_lt 0 (k - 1))) [
          | inl t ↦ let low : 0 < k - 1 = ltb-true 0 (k - 1) t in all_before (k - 1) d (omega arith) (p.0 (k - 1) d (omega arith) (omega arith)) m e z n
          | inr t ↦ let none : k - 1 ≡ 0 = omega (arith, ltb-false 0 (k - 1) t) in absurd (omega (arith, n, ap (start_of pages) none))
        ];
    behind = λ m e z n.
        elim (cases_Bool (nat_lt (k - 1 + 1) (length pages))) [
          | inl t ↦
              let in_pages : k - 1 + 1 < length pages = ltb-true (k - 1 + 1) (length pages) t in
              all_behind (k - 1 + 1) d in_pages (p.1 (k - 1 + 1) d (omega arith) in_pages) m e z n
          | inr t ↦ absurd (omega (arith, z, n, start_all pages (k - 1 + 1) (ltb-false (k - 1 + 1) (length pages) t)))
        ];
  }

pub around_found : (pages : List (Vec BlockAt)) → ArePages pages → (at : BlockPos) (k : ℕ) → k ≤ length pages → IsPartitionPoint (λ p. starts_by at p.items ≡ true) (λ p. starts_by at p.items ≡ false) pages k → IsAround pages at (k - 1)
around_found [] a at k l p = let none : k - 1 ≡ 0 = omega arith in rw none (around_first [] a at (omega arith))
around_found (d ∷ ps) a at k l p = around_at (d ∷ ps) a at d k l p

-- ---- where on the page
module _ (pages : List (Vec BlockAt)) (at : BlockPos) (i j : ℕ) (d : Vec BlockAt) (l : i < length pages) where
  abbrev blocks : List BlockAt
  blocks = (get_or pages i d).items

  pub found_on : Found blocks at j → Found (blocks_on pages) at (start_of pages i + j)
  found_on f = (omega (arith, f.0, next_start pages i d l, start_most pages (i + 1)), λ e. ap (λ (x : BlockAt). x.at) (on_page pages i j d e l f.0) ∙ f.1 e)

  -- a block of the page
  there : (k : ℕ) (e : BlockAt) → start_of pages i ≤ k → k < start_of pages (i + 1) → get_or (blocks_on pages) k e ≡ get_or blocks (k - start_of pages i) e
  there k e m n =
      let whole : k ≡ start_of pages i + (k - start_of pages i) = omega arith in
      ap (λ q. get_or (blocks_on pages) q e) whole ∙ on_page pages i (k - start_of pages i) d e l (omega (arith, next_start pages i d l))

  pub lacking_on : IsAround pages at i → Lacking blocks at j → Lacking (blocks_on pages) at (start_of pages i + j)
  lacking_on r f = (
    omega (arith, f.0, next_start pages i d l, start_most pages (i + 1)),
    (
      λ k e z n.
          elim (cases_Bool (nat_lt k (start_of pages i))) [
            | inl t ↦ r.before k e z (ltb-true k (start_of pages i) t)
            | inr t ↦
                let from : start_of pages i ≤ k = ltb-false k (start_of pages i) t in
                rw (there k e from (omega (arith, f.0, next_start pages i d l))) (f.1.0 (k - start_of pages i) e (omega arith) (omega arith))
          ],
      λ k e z n.
          elim (cases_Bool (nat_lt k (start_of pages (i + 1)))) [
            | inl t ↦
                let to : k < start_of pages (i + 1) = ltb-true k (start_of pages (i + 1)) t in
                rw (there k e (omega arith) to) (f.1.1 (k - start_of pages i) e (omega arith) (omega (arith, next_start pages i d l)))
            | inr t ↦ r.behind k e (ltb-false k (start_of pages (i + 1)) t) n
          ],
    ),
  )

-- behind all pages
pub lacking_behind : (pages : List (Vec BlockAt)) (at : BlockPos) (i : ℕ) → length pages ≤ i → IsAround pages at i → Lacking (blocks_on pages) at (start_of pages i + 0)
lacking_behind pages at i l r = (
  omega (arith, start_all pages i l),
  (λ k e z n. r.before k e z (omega arith), λ k e z n. absurd (omega (arith, z, n, start_all pages i l))),
)

-- ---- spots
-- a page is what it is, whatever stands for one that is not there
same_page : (pages : List (Vec BlockAt)) (i : ℕ) (d e : Vec BlockAt) → i < length pages → length (get_or pages i e).items ≡ length (get_or pages i d).items
same_page pages i d e l = ap (λ (p : Vec BlockAt). length p.items) (get_or_default pages i e d l)

pub has_spot : (pages : List (Vec BlockAt)) (i j : ℕ) (d : Vec BlockAt) → i < length pages → j < length (get_or pages i d).items → HasSpot pages (record { page = i; index = j })
has_spot pages i j d l m = (l, λ e. omega (arith, same_page pages i d e l))

pub takes_spot : (pages : List (Vec BlockAt)) (i j : ℕ) (d : Vec BlockAt) → i < length pages → j ≤ length (get_or pages i d).items → TakesSpot pages (record { page = i; index = j })
takes_spot pages i j d l m = (omega arith, λ e k. omega (arith, same_page pages i d e l), λ k. absurd (omega arith))

-- behind a full last page
pub behind_full : (pages : List (Vec BlockAt)) (s : Spot) → All IsPage pages → TakesSpot pages s → s.page + 1 ≡ length pages → s.index ≡ MOST_IN_PAGE → start_of pages s.page + s.index ≡ length (blocks_on pages)
behind_full [] s a t l e = absurd (omega arith)
behind_full (d ∷ ps) s a t l e =
    omega (arith, e, t.1 d (omega arith), (a s.page d (omega arith)).1, next_start (d ∷ ps) s.page d (omega arith), start_all (d ∷ ps) (s.page + 1) (omega arith))
