-- What the list of one chunk says of the blocks of all chunks.
use Rattle.std.proofs.Common.{◌≡◌, ℕ, ◌≤◌, Bool, true, false, cond, List, [], ◌∷◌, ◌++◌, length, refl, sym, ◌∙◌, ap, subst, inl, inr, arith, Option, Some, None}
use Rattle.std.specs.Prelude.{ℤ, Contains, sum_by, Result, Ok, Err, OnOk, OnErr}
use Rattle.std.specs.Cmp.{IsEquivalence, decided}
use Rattle.std.specs.List.{count_by, flat_map, IsDistinct, AllByRecursion}
use Rattle.std.specs.List.Sorted.{IsStrictlySortedBy}
use Rattle.std.specs.Map.{keys_of, values_of}
use Rattle.std.proofs.lemmas.Bool.{cases_Bool}
use Rattle.std.proofs.lemmas.List.Sums.{sum_by-append, sum_by-cons}
use Rattle.std.proofs.lemmas.Map.Views.{lookup-from_Contains}
use Rattle.fol_model.specs.declared.openings.BlockAt.{BlockAt}
use Rattle.fol_model.specs.declared.places.BlockPos.{BlockPos}
use Rattle.fol_model.specs.declared.places.ChunkPos.{ChunkPos}
use Rattle.fol_model.specs.Geometry.{chunk_of, same_chunk}
use Rattle.fol_model.specs.World.{block_in}
use Rattle.fol_keyed.proofs.Keyed.{contains_more}
use Rattle.fol_keyed.proofs.Places.{same_block-true, same_chunk-true, same_chunk-self}
use Rattle.fol_blocks.specs.Order.{by_place}
use Rattle.fol_blocks.specs.Cells.{AreCells, IsCell, blocks_at, blocks_in, cell_at, chunk_at, is_astray, items_of, key_at, lies_at, same_key}
use Rattle.fol_blocks.specs.Weights.{only, one_at, stands_at, Clears, OneMore, Puts}
use Rattle.fol_blocks.proofs.Weighing.{all_pass, count_is, length_sum, none, number_sum, once_sorted, split, sum_le}

-- ---- keys
pub key_same : (a b : ℤ × ℤ) → same_key a b ≡ true → a ≡ b
unfolding same_chunk
key_same a b h = ap (λ (c : ChunkPos). (c.x, c.z)) (same_chunk-true (chunk_at a) (chunk_at b) h)

pub key_self : (a : ℤ × ℤ) → same_key a a ≡ true
unfolding same_chunk
key_self a = same_chunk-self (chunk_at a)

pub key_laws : IsEquivalence same_key
key_laws = decided same_key (λ a b. (key_same a b, λ e. let P : ℤ × ℤ → Type 0 = λ k. same_key a k ≡ true in subst P e (key_self a)))

key_true : (key : ℤ × ℤ) (x : BlockAt) → lies_at key x ≡ true → key_at x.at ≡ key
key_true key x h = ap (λ (c : ChunkPos). (c.x, c.z)) (same_chunk-true (chunk_of x.at) (chunk_at key) h)

key_here : (key : ℤ × ℤ) (x : BlockAt) → key ≡ key_at x.at → lies_at key x ≡ true
key_here key x e = ap (λ (k : ℤ × ℤ). same_chunk (chunk_of x.at) (chunk_at k)) e ∙ same_chunk-self (chunk_of x.at)

-- what stands at a place lies in the chunk of the place
place_lies : (key : ℤ × ℤ) (b : BlockPos) → key ≡ key_at b → (x : BlockAt) → stands_at b x ≡ true → lies_at key x ≡ true
place_lies key b e x h = key_here key x (e ∙ ap key_at (sym (same_block-true x.at b h)))

-- ---- one cell
module _ (key : ℤ × ℤ) (xs : List BlockAt) (c : IsCell key xs) where
  all_here : (f : BlockAt → ℕ) → sum_by (only (lies_at key) f) xs ≡ sum_by f xs
  all_here f = all_pass (lies_at key) f xs c.chunk

  -- nothing of another chunk
  none_other : (other : ℤ × ℤ) (p : BlockAt → Bool) (f : BlockAt → ℕ) → ((x : BlockAt) → p x ≡ true → lies_at other x ≡ true) → same_key other key ≡ false → sum_by (only p f) xs ≡ 0
  none_other other p f lie apart =
      none p f xs (omega (arith, sum_le (λ x. cond (p x) 1 0) (λ x. cond (is_astray key x) 1 0) astray xs, c.chunk))
    where
      astray : (x : BlockAt) → cond {A = ℕ} (p x) 1 0 ≤ cond (is_astray key x) 1 0
      astray x =
          elim (cases_Bool (p x)) [
            | inr e ↦ rw e (omega arith)
            | inl e ↦
                elim (cases_Bool (lies_at key x)) [
                  | inr n ↦ rw (e, n) (omega arith)
                  | inl t ↦
                      let same : other ≡ key = sym (key_true other x (lie x e)) ∙ key_true key x t in
                      let w : true ≡ false = sym (key_self key) ∙ ap (λ k. same_key k key) (sym same) ∙ apart in
                      absurd cc
                ]
          ]

  cell_put : (ys : List BlockAt) (y : BlockAt) → key ≡ key_at y.at → IsStrictlySortedBy by_place ys → Puts xs ys y → IsCell key ys
  cell_put ys y e s h = record {
    order = s;
    chunk =
        let own : cond {A = ℕ} (is_astray key y) 1 0 ≡ 0 = rw (key_here key y e) refl in
        omega (arith, own, h (λ x. cond (is_astray key x) 1 0), split (stands_at y.at) (λ x. cond (is_astray key x) 1 0) xs, c.chunk);
  }

  pub cell_more : (ys : List BlockAt) (y : BlockAt) → key ≡ key_at y.at → IsStrictlySortedBy by_place ys → OneMore xs ys y → IsCell key ys
  cell_more ys y e s h = record {
    order = s;
    chunk =
        let own : cond {A = ℕ} (is_astray key y) 1 0 ≡ 0 = rw (key_here key y e) refl in
        omega (arith, own, h (λ x. cond (is_astray key x) 1 0), c.chunk);
  }

  pub cell_clear : (ys : List BlockAt) (b : BlockPos) → IsStrictlySortedBy by_place ys → Clears xs ys b → IsCell key ys
  cell_clear ys b s h = record {
    order = s;
    chunk = omega (arith, h (λ x. cond (is_astray key x) 1 0), split (stands_at b) (λ x. cond (is_astray key x) 1 0) xs, c.chunk);
  }

pub no_cell : (key : ℤ × ℤ) → IsCell key []
unfolding IsStrictlySortedBy
no_cell key = record { order = tt; chunk = refl }

-- ---- all cells
abbrev pub weigh : (BlockAt → ℕ) → List BlockAt → ℕ
weigh f v = sum_by f v

pub flat_sum : (f : BlockAt → ℕ) (es : List ((ℤ × ℤ) × List BlockAt)) → sum_by f (blocks_in es) ≡ sum_by (weigh f) (values_of es)
flat_sum f [] = refl
flat_sum f (e ∷ es) = omega (arith, sum_by-append f e.1 (blocks_in es), sum_by-cons (weigh f) e.1 (values_of es), flat_sum f es)

module _ (key : ℤ × ℤ) (p : BlockAt → Bool) (f : BlockAt → ℕ) (lie : (x : BlockAt) → p x ≡ true → lies_at key x ≡ true) where
  nowhere : (es : List ((ℤ × ℤ) × List BlockAt)) → ((e : (ℤ × ℤ) × List BlockAt) → Contains es e → IsCell e.0 e.1) → AllByRecursion (λ k. same_key key k ≡ false) (keys_of es) → sum_by (only p f) (blocks_in es) ≡ 0
  nowhere [] h a = refl
  nowhere (e ∷ es) h a =
      omega (arith, sum_by-append (only p f) e.1 (blocks_in es), none_other e.0 e.1 (h e (0, omega arith, refl)) key p f lie a.0, nowhere es (λ d m. h d (contains_more d e es m)) a.1)

  in_one : (es : List ((ℤ × ℤ) × List BlockAt)) → ((e : (ℤ × ℤ) × List BlockAt) → Contains es e → IsCell e.0 e.1) → IsDistinct same_key (keys_of es) → sum_by (only p f) (blocks_in es) ≡ sum_by (only p f) (blocks_at es key)
  unfolding IsDistinct
  in_one [] h d = refl
  in_one (e ∷ es) h d =
      elim (cases_Bool (same_key key e.0)) [
        | inl t ↦
            let Q : ℤ × ℤ → Type 0 = λ k. AllByRecursion (λ q. same_key k q ≡ false) (keys_of es) in
            let rest : sum_by (only p f) (blocks_in es) ≡ 0 = nowhere es (λ c m. h c (contains_more c e es m)) (subst Q (sym (key_same key e.0 t)) d.0) in
            rw t (omega (arith, sum_by-append (only p f) e.1 (blocks_in es), rest))
        | inr n ↦
            rw n (omega (arith, sum_by-append (only p f) e.1 (blocks_in es), none_other e.0 e.1 (h e (0, omega arith, refl)) key p f lie n, in_one es (λ c m. h c (contains_more c e es m)) d.1))
      ]

module _ (es : List ((ℤ × ℤ) × List BlockAt)) (a : AreCells es) where
  each_cell : (e : (ℤ × ℤ) × List BlockAt) → Contains es e → IsCell e.0 e.1
  each_cell e m = a.cells e.0 e.1 (lookup-from_Contains key_laws e.0 e.1 es a.keys m)

  -- what passes lies in one chunk
  in_cell : (key : ℤ × ℤ) (p : BlockAt → Bool) (f : BlockAt → ℕ) → ((x : BlockAt) → p x ≡ true → lies_at key x ≡ true) → sum_by (only p f) (blocks_in es) ≡ sum_by (only p f) (blocks_at es key)
  in_cell key p f lie = in_one key p f lie es each_cell a.keys

  cell_here : (key : ℤ × ℤ) → IsCell key (blocks_at es key)
  cell_here key = look (cell_at es key) refl
    where
      look : (o : Option (List BlockAt)) → cell_at es key ≡ o → IsCell key (items_of o)
      look None e = no_cell key
      look (Some v) e = a.cells key v e

  -- the blocks of a chunk
  pub chunk_sum : (key : ℤ × ℤ) (f : BlockAt → ℕ) → sum_by (only (lies_at key) f) (blocks_in es) ≡ sum_by f (blocks_at es key)
  chunk_sum key f = in_cell key (lies_at key) f (λ x t. t) ∙ all_here key (blocks_at es key) (cell_here key) f

  pub len_chunk : (key : ℤ × ℤ) → length (blocks_at es key) ≤ length (blocks_in es)
  len_chunk key = omega (arith, chunk_sum key (λ x. 1), split (lies_at key) (λ x. 1) (blocks_in es), length_sum (blocks_in es), length_sum (blocks_at es key))

  pub chunk_count : (key : ℤ × ℤ) → count_by (lies_at key) (blocks_in es) ≡ length (blocks_at es key)
  chunk_count key = omega (arith, count_is (lies_at key) (blocks_in es), chunk_sum key (λ x. 1), length_sum (blocks_at es key))

  -- the blocks of a place
  pub place_sum : (key : ℤ × ℤ) (b : BlockPos) (f : BlockAt → ℕ) → key ≡ key_at b → sum_by (only (stands_at b) f) (blocks_in es) ≡ sum_by (only (stands_at b) f) (blocks_at es key)
  place_sum key b f e = in_cell key (stands_at b) f (place_lies key b e)

  pub place_count : (key : ℤ × ℤ) (b : BlockPos) → key ≡ key_at b → sum_by (one_at b) (blocks_in es) ≡ sum_by (one_at b) (blocks_at es key)
  place_count key b e = count_is (stands_at b) (blocks_in es) ∙ place_sum key b (λ x. 1) e ∙ sym (count_is (stands_at b) (blocks_at es key))

  once_cells : (b : BlockPos) → sum_by (one_at b) (blocks_in es) ≤ 1
  once_cells b = omega (arith, place_count (key_at b) b refl, once_sorted (blocks_at es (key_at b)) (cell_here (key_at b)).order b)

  pub number_cells : (key : ℤ × ℤ) (b : BlockPos) → key ≡ key_at b → block_in (blocks_at es key) b ≡ block_in (blocks_in es) b
  number_cells key b e =
      number_sum (blocks_at es key) b (once_sorted (blocks_at es key) (cell_here key).order b)
      ∙ sym (place_sum key b (λ x. x.id) e)
      ∙ sym (number_sum (blocks_in es) b (once_cells b))

pub items_there : (es : List ((ℤ × ℤ) × List BlockAt)) (key : ℤ × ℤ) (v : List BlockAt) → cell_at es key ≡ Some v → blocks_at es key ≡ v
items_there es key v e = ap items_of e

pub items_none : (es : List ((ℤ × ℤ) × List BlockAt)) (key : ℤ × ℤ) → cell_at es key ≡ None → blocks_at es key ≡ []
items_none es key e = ap items_of e

-- a list of one chunk stays such a list where a block may have been put, added or taken out
module _ (key : ℤ × ℤ) (xs ys : List BlockAt) (c : IsCell key xs) where
  cell_same : ys ≡ xs → IsCell key ys
  cell_same e = let P : List BlockAt → Type 0 = λ l. IsCell key l in subst P (sym e) c

  pub cell_after_put : (y : BlockAt) (r : Bool) → key ≡ key_at y.at → IsStrictlySortedBy by_place ys → (r ≡ true → Puts xs ys y) → (r ≡ false → ys ≡ xs) → IsCell key ys
  cell_after_put y true e s h k = cell_put key xs c ys y e s (h refl)
  cell_after_put y false e s h k = cell_same (k refl)

  pub cell_after_add : {T E : Type 0} (y : BlockAt) (r : Result T E) → key ≡ key_at y.at → IsStrictlySortedBy by_place ys → OnOk r (OneMore xs ys y) → OnErr r (ys ≡ xs) → IsCell key ys
  cell_after_add y (Ok t) e s h k = cell_more key xs c ys y e s h
  cell_after_add y (Err t) e s h k = cell_same k

pub blocks_values : (es : List ((ℤ × ℤ) × List BlockAt)) → flat_map (λ v. v) (values_of es) ≡ blocks_in es
blocks_values [] = refl
blocks_values (e ∷ es) = ap (λ l. e.1 ++ l) (blocks_values es)

pub no_cells : AreCells []
unfolding IsDistinct
no_cells = record { keys = tt; cells = λ key cell e. let none : None ≡ Some cell = e in absurd cc }
