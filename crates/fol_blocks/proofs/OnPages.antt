-- Blocks in pages, and the list of them all.
use Rattle.std.proofs.Common.{◌≡◌, ℕ, zero, suc, ◌+◌, ◌-◌, ◌<◌, ◌≤◌, List, [], ◌∷◌, ◌++◌, length, get_or, take, drop, refl, sym, ◌∙◌, ap, arith, append_assoc, length-append}
use Rattle.std.specs.Prelude.{All, slice_set, sum_by}
use Rattle.std.specs.Global.{Vec}
use Rattle.std.specs.List.{insert, remove}
use Rattle.std.proofs.lemmas.List.{append-nil, set-append_left, set-append_right, take_all, take_more}
use Rattle.std.proofs.lemmas.List.Concat.{flat_map-append, get_or-flat_map}
use Rattle.std.proofs.lemmas.List.Elements.{All-append, All-cons, All-drop, All-same, All-set, All-take}
use Rattle.std.proofs.lemmas.List.Sums.{sum_by-append}
use Rattle.std.proofs.lemmas.List.Edits.{insert-append_left, insert-append_right, remove-append_left, remove-append_right}
use Rattle.fol_model.specs.declared.openings.BlockAt.{BlockAt}
use Rattle.fol_blocks.specs.declared.pages.TheConstants.{HALF_PAGE}
use Rattle.fol_blocks.specs.Pages.{IsPage, blocks_on, start_of}

-- ---- where pages begin
-- the blocks of a page stand behind those of the pages before it
pub on_page : (pages : List (Vec BlockAt)) (i j : ℕ) (d : Vec BlockAt) (e : BlockAt) → i < length pages → j < length (get_or pages i d).items → get_or (blocks_on pages) (start_of pages i + j) e ≡ get_or (get_or pages i d).items j e
on_page pages i j d e l m = get_or-flat_map (λ (p : Vec BlockAt). p.items) pages i j d e l m

pub start_next : (pages : List (Vec BlockAt)) (i : ℕ) (d : Vec BlockAt) → i < length pages → start_of pages (suc i) ≡ start_of pages i + length (get_or pages i d).items
start_next [] i d l = absurd (omega arith)
start_next (p ∷ ps) zero d l = omega (arith, length-append p.items [])
start_next (p ∷ ps) (suc i) d l = omega (arith, length-append p.items (blocks_on (take (suc i) ps)), length-append p.items (blocks_on (take i ps)), start_next ps i d (omega arith))

pub start_most : (pages : List (Vec BlockAt)) (i : ℕ) → start_of pages i ≤ length (blocks_on pages)
start_most pages zero = omega arith
start_most [] (suc i) = omega arith
start_most (p ∷ ps) (suc i) = omega (arith, length-append p.items (blocks_on (take i ps)), length-append p.items (blocks_on ps), start_most ps i)

pub start_all : (pages : List (Vec BlockAt)) (i : ℕ) → length pages ≤ i → start_of pages i ≡ length (blocks_on pages)
start_all pages i l = ap (λ ps. length (blocks_on ps)) (take_all i pages l)

-- no page is empty, so each begins behind those before it
pub start_rises : (pages : List (Vec BlockAt)) (i j : ℕ) (d : Vec BlockAt) → All IsPage pages → i < j → j < length pages → start_of pages i < start_of pages j
start_rises [] i j d a l m = absurd (omega arith)
start_rises (p ∷ ps) i zero d a l m = absurd (omega arith)
start_rises (p ∷ ps) zero (suc j) d a l m = let some : 0 < length p.items = (a 0 p (omega arith)).0 in omega (arith, some, length-append p.items (blocks_on (take j ps)))
start_rises (p ∷ ps) (suc i) (suc j) d a l m =
    omega (arith, length-append p.items (blocks_on (take i ps)), length-append p.items (blocks_on (take j ps)), start_rises ps i j d (λ k e n. a (suc k) e (omega arith)) (omega arith) (omega arith))

-- ---- what is done to one page
module _ (F : List BlockAt → ℕ → List BlockAt) (R : List BlockAt → ℕ → Type 0)
    (left : (xs ys : List BlockAt) (j : ℕ) → R xs j → F (xs ++ ys) j ≡ F xs j ++ ys)
    (right : (xs ys : List BlockAt) (k j : ℕ) → k ≡ length xs + j → F (xs ++ ys) k ≡ xs ++ F ys j) where
  edited : (pages : List (Vec BlockAt)) (i j : ℕ) (d w : Vec BlockAt) → i < length pages → R (get_or pages i d).items j → w.items ≡ F (get_or pages i d).items j → blocks_on (slice_set pages i w) ≡ F (blocks_on pages) (start_of pages i + j)
  edited [] i j d w l r e = absurd (omega arith)
  edited (p ∷ ps) zero j d w l r e =
      let at : j ≡ 0 + j = omega arith in
      ap (λ xs. xs ++ blocks_on ps) e ∙ sym (left p.items (blocks_on ps) j r) ∙ ap (F (p.items ++ blocks_on ps)) at
  edited (p ∷ ps) (suc i) j d w l r e =
      ap (λ xs. p.items ++ xs) (edited ps i j d w (omega arith) r e)
      ∙ sym (right p.items (blocks_on ps) (start_of (p ∷ ps) (suc i) + j) (start_of ps i + j) (omega (arith, length-append p.items (blocks_on (take i ps)))))

module _ (pages : List (Vec BlockAt)) (i j : ℕ) (d w : Vec BlockAt) where
  pub replaced_on : (y : BlockAt) → i < length pages → j < length (get_or pages i d).items → w.items ≡ slice_set (get_or pages i d).items j y → blocks_on (slice_set pages i w) ≡ slice_set (blocks_on pages) (start_of pages i + j) y
  replaced_on y l m e = edited (λ xs k. slice_set xs k y) (λ xs k. k < length xs) (λ xs ys k h. set-append_left xs ys k y h) right pages i j d w l m e
    where
      right : (xs ys : List BlockAt) (k n : ℕ) → k ≡ length xs + n → slice_set (xs ++ ys) k y ≡ xs ++ slice_set ys n y
      right xs ys k n h = let at : k - length xs ≡ n = omega arith in set-append_right xs ys (length xs) k y refl (omega arith) ∙ ap (λ q. xs ++ slice_set ys q y) at

  pub inserted_on : (y : BlockAt) → i < length pages → j ≤ length (get_or pages i d).items → w.items ≡ insert (get_or pages i d).items j y → blocks_on (slice_set pages i w) ≡ insert (blocks_on pages) (start_of pages i + j) y
  inserted_on y l m e = edited (λ xs k. insert xs k y) (λ xs k. k ≤ length xs) (λ xs ys k h. insert-append_left xs ys k y h) right pages i j d w l m e
    where
      right : (xs ys : List BlockAt) (k n : ℕ) → k ≡ length xs + n → insert (xs ++ ys) k y ≡ xs ++ insert ys n y
      right xs ys k n h = let at : k - length xs ≡ n = omega arith in insert-append_right xs ys (length xs) k y refl (omega arith) ∙ ap (λ q. xs ++ insert ys q y) at

  -- another page with the same blocks
  pub kept_on : i < length pages → w.items ≡ (get_or pages i d).items → blocks_on (slice_set pages i w) ≡ blocks_on pages
  kept_on l e = edited (λ xs k. xs) (λ xs k. k ≡ k) (λ xs ys k h. refl) (λ xs ys k n h. refl) pages i j d w l refl e

-- a block is taken out
remove_right : (xs ys : List BlockAt) (k n : ℕ) → k ≡ length xs + n → remove (xs ++ ys) k ≡ xs ++ remove ys n
remove_right xs ys k n h = let at : k - length xs ≡ n = omega arith in remove-append_right xs ys (length xs) k refl (omega arith) ∙ ap (λ q. xs ++ remove ys q) at

pub removed_on : (pages : List (Vec BlockAt)) (i j : ℕ) (d w : Vec BlockAt) → i < length pages → j < length (get_or pages i d).items → w.items ≡ remove (get_or pages i d).items j → blocks_on (slice_set pages i w) ≡ remove (blocks_on pages) (start_of pages i + j)
removed_on pages i j d w l m e = edited remove (λ xs k. k < length xs) (λ xs ys k h. remove-append_left xs ys k h) remove_right pages i j d w l m e

-- the only block of a page is taken out with the page
pub dropped_on : (pages : List (Vec BlockAt)) (i j : ℕ) (d : Vec BlockAt) → i < length pages → length (get_or pages i d).items ≡ 1 → j < length (get_or pages i d).items → blocks_on (remove pages i) ≡ remove (blocks_on pages) (start_of pages i + j)
dropped_on [] i j d l o m = absurd (omega arith)
dropped_on (p ∷ ps) zero j d l o m =
    let at : 0 + j ≡ 0 = omega arith in
    sym (ap (remove (p.items ++ blocks_on ps)) at ∙ remove-append_left p.items (blocks_on ps) 0 (omega arith) ∙ ap (λ xs. xs ++ blocks_on ps) (alone p.items o))
  where
    alone : (xs : List BlockAt) → length xs ≡ 1 → remove xs 0 ≡ []
    alone [] h = absurd (omega arith)
    alone (x ∷ []) h = refl
    alone (x ∷ y ∷ xs) h = absurd (omega arith)
dropped_on (p ∷ ps) (suc i) j d l o m =
    ap (λ xs. p.items ++ xs) (dropped_on ps i j d (omega arith) o m)
    ∙ sym (remove_right p.items (blocks_on ps) (start_of (p ∷ ps) (suc i) + j) (start_of ps i + j) (omega (arith, length-append p.items (blocks_on (take i ps)))))

-- a page is added behind the others
pushed_on : (pages : List (Vec BlockAt)) (w : Vec BlockAt) → blocks_on (pages ++ w ∷ []) ≡ blocks_on pages ++ w.items
pushed_on pages w = flat_map-append (λ (p : Vec BlockAt). p.items) pages (w ∷ []) ∙ ap (λ xs. blocks_on pages ++ xs) (append-nil w.items)

-- one page more
pub page_sum : (f : BlockAt → ℕ) (pages : List (Vec BlockAt)) (i : ℕ) (d : Vec BlockAt) → i < length pages → sum_by f (blocks_on (take (i + 1) pages)) ≡ sum_by f (blocks_on (take i pages)) + sum_by f (get_or pages i d).items
page_sum f pages i d l = ap (λ ps. sum_by f (blocks_on ps)) (take_more pages i d l) ∙ ap (sum_by f) (pushed_on (take i pages) (get_or pages i d)) ∙ sum_by-append f (blocks_on (take i pages)) (get_or pages i d).items

pub sum_most : (f : BlockAt → ℕ) (pages : List (Vec BlockAt)) (i : ℕ) → sum_by f (blocks_on (take i pages)) ≤ sum_by f (blocks_on pages)
sum_most f pages zero = omega arith
sum_most f [] (suc i) = omega arith
sum_most f (p ∷ ps) (suc i) = omega (arith, sum_by-append f p.items (blocks_on (take i ps)), sum_by-append f p.items (blocks_on ps), sum_most f ps i)

-- ---- a page is split in two
halves_blocks : (pages : List (Vec BlockAt)) (i : ℕ) (d a b : Vec BlockAt) → i < length pages → a.items ++ b.items ≡ (get_or pages i d).items → blocks_on (insert (slice_set pages i a) (suc i) b) ≡ blocks_on pages
halves_blocks [] i d a b l e = absurd (omega arith)
halves_blocks (p ∷ ps) zero d a b l e = sym (append_assoc a.items b.items (blocks_on ps)) ∙ ap (λ xs. xs ++ blocks_on ps) e
halves_blocks (p ∷ ps) (suc i) d a b l e = ap (λ xs. p.items ++ xs) (halves_blocks ps i d a b (omega arith) e)

module _ (pages : List (Vec BlockAt)) (i : ℕ) (d a b : Vec BlockAt) (l : i < length pages) (h : length a.items ≡ HALF_PAGE) (k : length b.items ≡ HALF_PAGE)
    (whole : a.items ++ b.items ≡ (get_or pages i d).items) (new : List (Vec BlockAt)) (e : new ≡ insert (slice_set pages i a) (i + 1) b) where
  same : new ≡ insert (slice_set pages i a) (suc i) b
  same = let one : i + 1 ≡ suc i = omega arith in e ∙ ap (λ n. insert (slice_set pages i a) n b) one

  pub split_blocks : blocks_on new ≡ blocks_on pages
  split_blocks = ap blocks_on same ∙ halves_blocks pages i d a b l whole

  pub split_sizes : All IsPage pages → All IsPage new
  split_sizes s =
      let left : IsPage a = (omega arith, omega arith) in
      let right : IsPage b = (omega arith, omega arith) in
      let set_all : All IsPage (slice_set pages i a) = All-set IsPage pages i a left s in
      All-same IsPage new (insert (slice_set pages i a) (i + 1) b) e
      (All-append IsPage (take (i + 1) (slice_set pages i a)) (b ∷ drop (i + 1) (slice_set pages i a)) (All-take IsPage (i + 1) (slice_set pages i a) set_all)
      (All-cons IsPage b (drop (i + 1) (slice_set pages i a)) right (All-drop IsPage (i + 1) (slice_set pages i a) set_all)))
