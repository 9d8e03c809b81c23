-- What a test keeps of all sections, and of the numbers below a number.
use Rattle.std.proofs.Common.{zero, suc, ◌≡◌, ℕ, ◌+◌, ◌≤◌, ◌<◌, refl, sym, ◌∙◌, ap, arith, Bool, true, false, cond, not, ◌&&◌, ◌||◌, List, [], ◌∷◌, inl, inr}
use Rattle.std.specs.Prelude.{filter, nat_eq, nat_lt}
use Rattle.std.specs.List.{AllByRecursion, list_any, count_by}
use Rattle.std.specs.List.Sorted.{IsStrictlySortedBy}
use Rattle.std.specs.Ordering.{nat_cmp}
use Rattle.std.specs.Cmp.{nat_cmp_is}
use Rattle.std.specs.declared.cmp.Ordering.TheVariants.{Less}
use Rattle.std.proofs.Math.Bool.{or-false}
use Rattle.std.proofs.Math.Path.{fun_ext}
use Rattle.std.proofs.lemmas.Bool.{cases_Bool, cases_eq, and_parts, or_cases, true≢false, eq-eqb, eqb-true, ne_eqb, lt-ltb, ltb-true, le-ltb, ltb-false}
use Rattle.std.proofs.lemmas.List.Folds.{list_any-append}
use Rattle.std.proofs.lemmas.List.Kept.{IsStrictlySortedBy-filter}
use Rattle.fol_model.specs.declared.places.SectionPos.{SectionPos}
use Rattle.fol_model.specs.Geometry.{is_section, same_section, is_among}
use Rattle.fol_model.specs.Universe.{all_sections, numbers_below, section_cmp}
use Rattle.fol_laws.proofs.ListCounts.{count_by-cons}
use Rattle.fol_laws.proofs.NumberOrder.{numbers_tell, numbers_sorted, number_rows_are, in_numbers}
use Rattle.fol_laws.proofs.SectionOrder.{sections_sorted, section_members}
use Rattle.fol_laws.proofs.AllSections.{some_section-is, some_section-gives}
use Rattle.fol_laws.proofs.SamePlaces.{same_section-true, same_section-self}
use Rattle.fol_laws.proofs.SortedRows.{AllBefore, sorted_append}
use Rattle.fol_laws.proofs.Tests.{same_answer}
use Rattle.fol_region_tables.specs.Links.{with_id, without_id}
use Rattle.fol_region_tables.specs.Rows.{IsRow, united}
use Rattle.std.proofs.lemmas.List.Elements.{filter-append}
use Rattle.fol_model.specs.Counting.{some_below}

module _ {X : Type 0} where
  pub filter_like : (p q : X → Bool) → ((x : X) → p x ≡ q x) → (xs : List X) → filter p xs ≡ filter q xs
  filter_like p q h xs = ap (λ (f : X → Bool). filter f xs) (fun_ext h)

  pub count_like : (p q : X → Bool) → ((x : X) → p x ≡ q x) → (xs : List X) → count_by p xs ≡ count_by q xs
  count_like p q h xs = ap (λ (f : X → Bool). count_by f xs) (fun_ext h)

  pub filter_twice : (p q : X → Bool) (xs : List X) → filter p (filter q xs) ≡ filter (λ x. p x && q x) xs
  filter_twice p q [] = refl
  filter_twice p q (x ∷ xs) = elim (cases_Bool (q x)) [
    | inl e ↦ elim (cases_Bool (p x)) [ inl f ↦ rw (e, f) (ap (λ ys. x ∷ ys) (filter_twice p q xs)) | inr f ↦ rw (e, f) (filter_twice p q xs) ]
    | inr e ↦ elim (cases_Bool (p x)) [ inl f ↦ rw (e, f) (filter_twice p q xs) | inr f ↦ rw (e, f) (filter_twice p q xs) ]
  ]

  -- tests that no element passes both
  pub count_either : (p q r : X → Bool) → ((x : X) → p x ≡ true → q x ≡ false) → ((x : X) → r x ≡ (p x || q x)) → (xs : List X) → count_by r xs ≡ count_by p xs + count_by q xs
  count_either p q r apart or [] = refl
  count_either p q r apart or (x ∷ xs) = elim (cases_Bool (p x)) [
    | inl e ↦ let f : q x ≡ false = apart x e in let g : r x ≡ true = or x ∙ ap (λ b. b || q x) e in
        omega (arith, count_by-cons p x xs, count_by-cons q x xs, count_by-cons r x xs, count_either p q r apart or xs, ap (λ b. cond {A = ℕ} b 1 0) e, ap (λ b. cond {A = ℕ} b 1 0) f, ap (λ b. cond {A = ℕ} b 1 0) g)
    | inr e ↦ let g : r x ≡ q x = or x ∙ ap (λ b. b || q x) e in
        omega (arith, count_by-cons p x xs, count_by-cons q x xs, count_by-cons r x xs, count_either p q r apart or xs, ap (λ b. cond {A = ℕ} b 1 0) e, ap (λ b. cond {A = ℕ} b 1 0) g)
  ]

  pub none_kept : (p : X → Bool) → ((x : X) → p x ≡ false) → (xs : List X) → filter p xs ≡ []
  none_kept p h [] = refl
  none_kept p h (x ∷ xs) = let e : p x ≡ false = h x in rw e (none_kept p h xs)

-- ---- sections
pub chosen : (p : SectionPos → Bool) → ((s : SectionPos) → p s ≡ true → is_section s ≡ true) → (s : SectionPos) → is_among (filter p all_sections) s ≡ p s
chosen p l s = section_members p all_sections s ∙ elim (cases_Bool (p s)) [
  | inl e ↦ rw e (some_section-is (same_section s) s (l s e) (same_section-self s))
  | inr e ↦ rw e refl
]

-- the members of such a list are within the limits
pub chosen_limits : (p : SectionPos → Bool) (s : SectionPos) → is_among (filter p all_sections) s ≡ true → is_section s ≡ true
chosen_limits p s h =
    let k = and_parts (p s) (is_among all_sections s) (sym (section_members p all_sections s) ∙ h) in
    let x = some_section-gives (same_section s) k.1 in
    let e = same_section-true s x.0 x.2 in rw e x.1

pub row_chosen : (p : SectionPos → Bool) → IsRow (filter p all_sections)
row_chosen p = record { in_order = IsStrictlySortedBy-filter section_cmp p all_sections sections_sorted; limits = chosen_limits p }

-- a list that is what a test keeps, and one of other sections
pub united_chosen : (p r : SectionPos → Bool) (xs : List SectionPos) → ((s : SectionPos) → p s ≡ true → is_section s ≡ true) → ((s : SectionPos) → r s ≡ (p s || is_among xs s)) → united (filter p all_sections) xs ≡ filter r all_sections
unfolding united
united_chosen p r xs l h = filter_like _ _ (λ s. ap (λ b. b || is_among xs s) (chosen p l s) ∙ sym (h s)) all_sections

-- ---- numbers
pub nat_members : (p : ℕ → Bool) (xs : List ℕ) (k : ℕ) → list_any (nat_eq k) (filter p xs) ≡ (p k && list_any (nat_eq k) xs)
nat_members p [] k = elim (p k) as (λ b. false ≡ (b && false)) [ true ↦ refl | false ↦ refl ]
nat_members p (x ∷ xs) k = elim (cases_Bool (p x)) [
  | inl e ↦ elim (cases_Bool (nat_eq k x)) [
    | inl f ↦ let g : p k ≡ true = ap p (eqb-true k x f) ∙ e in rw (e, f, g) refl
    | inr f ↦ rw (e, f) (nat_members p xs k)
  ]
  | inr e ↦ elim (cases_Bool (nat_eq k x)) [
    | inl f ↦ let g : p k ≡ false = ap p (eqb-true k x f) ∙ e in let m = nat_members p xs k in let n = rw g at m in rw (e, f, g) n
    | inr f ↦ rw (e, f) (nat_members p xs k)
  ]
]

below-gives : (n k : ℕ) → list_any (nat_eq k) (numbers_below n) ≡ true → k < n
unfolding numbers_below
below-gives zero k h = absurd (true≢false (sym h))
below-gives (suc n) k h = elim (or_cases (list_any (nat_eq k) (numbers_below n)) (list_any (nat_eq k) (n ∷ [])) (sym (list_any-append (nat_eq k) (numbers_below n) (n ∷ [])) ∙ h)) [
  | inl e ↦ omega (arith, below-gives n k e)
  | inr e ↦ elim (or_cases (nat_eq k n) false e) [ inl x ↦ let y = eqb-true k n x in omega arith | inr x ↦ absurd (true≢false (sym x)) ]
]

pub chosen_numbers : (p : ℕ → Bool) (n k : ℕ) → list_any (nat_eq k) (filter p (numbers_below n)) ≡ (p k && nat_lt k n)
chosen_numbers p n k = nat_members p (numbers_below n) k ∙ ap (λ b. p k && b) (same_answer _ _ (λ h. lt-ltb k n (below-gives n k h)) (λ h. in_numbers n k (ltb-true k n h)))

less : (a b : ℕ) → a < b → nat_cmp a b ≡ Less
less a b l = sym (nat_cmp_is a b Less l)

upper : (id : ℕ) (xs : List ℕ) → AllByRecursion (λ y. nat_cmp id y ≡ Less) (filter (λ k. nat_lt id k) xs)
upper id [] = tt
upper id (x ∷ xs) = elim (cases_Bool (nat_lt id x)) [ inl e ↦ rw e (less id x (ltb-true id x e), upper id xs) | inr e ↦ rw e (upper id xs) ]

after : (x id : ℕ) (ys : List ℕ) → nat_cmp x id ≡ Less → AllByRecursion (λ y. nat_cmp id y ≡ Less) ys → AllByRecursion (λ y. nat_cmp x y ≡ Less) ys
after x id [] l h = tt
after x id (y ∷ ys) l h = (numbers_tell.order.trans x id y l h.0, after x id ys l h.1)

lower : (id : ℕ) (ys : List ℕ) → AllByRecursion (λ y. nat_cmp id y ≡ Less) ys → (xs : List ℕ) → AllBefore nat_cmp (filter (λ k. nat_lt k id) xs) (id ∷ ys)
lower id ys h [] = tt
lower id ys h (x ∷ xs) = elim (cases_Bool (nat_lt x id)) [
  | inl e ↦ let l = less x id (ltb-true x id e) in rw e ((l, after x id ys l h), lower id ys h xs)
  | inr e ↦ rw e (lower id ys h xs)
]

-- a rising list with one more id rises
pub rising_with : (id : ℕ) (xs : List ℕ) → IsStrictlySortedBy nat_cmp xs → IsStrictlySortedBy nat_cmp (with_id id xs)
unfolding IsStrictlySortedBy
rising_with id xs sorted =
    let u = upper id xs in
    sorted_append nat_cmp (filter (λ k. nat_lt k id) xs) (id ∷ filter (λ k. nat_lt id k) xs) (IsStrictlySortedBy-filter nat_cmp (λ k. nat_lt k id) xs sorted)
    (u, IsStrictlySortedBy-filter nat_cmp (λ k. nat_lt id k) xs sorted) (lower id (filter (λ k. nat_lt id k) xs) u xs)

pub chosen_below : (p : ℕ → Bool) (n : ℕ) → ((k : ℕ) → p k ≡ true → k < n) → (k : ℕ) → list_any (nat_eq k) (filter p (numbers_below n)) ≡ p k
chosen_below p n below k = chosen_numbers p n k ∙ elim (cases_Bool (p k)) [
  | inl e ↦ let l : nat_lt k n ≡ true = lt-ltb k n (below k e) in rw (e, l) refl
  | inr e ↦ rw e refl
]

module _ (p : ℕ → Bool) (n id : ℕ) (l : id < n) (below : (k : ℕ) → p k ≡ true → k < n) where
  above : (k : ℕ) → (k ≡ id → ⊥) → nat_lt k id ≡ false → nat_lt id k ≡ true
  above k e f = elim (cases_eq k id) [
    | inl x ↦ absurd (e x)
    | inr x ↦ let g : id ≤ k = ltb-false k id f in lt-ltb id k (omega arith)
  ]

  decide : (k : ℕ) → ((nat_lt k id && p k) || (nat_eq k id || (nat_lt id k && p k))) ≡ (nat_eq id k || p k)
  decide k = elim (cases_eq k id) [
    | inl e ↦ let a : nat_eq k id ≡ true = eq-eqb k id e in let b : nat_eq id k ≡ true = eq-eqb id k (sym e) in let f : nat_lt k id ≡ false = le-ltb k id (omega arith) in rw (f, a, b) refl
    | inr e ↦ let a : nat_eq k id ≡ false = ne_eqb k id e in let b : nat_eq id k ≡ false = ne_eqb id k (λ x. e (sym x)) in elim (cases_Bool (nat_lt k id)) [
      | inl f ↦ let g : nat_lt id k ≡ false = le-ltb id k (omega (arith, ltb-true k id f)) in rw (f, g, a, b) (or-false (p k))
      | inr f ↦ let g : nat_lt id k ≡ true = above k e f in rw (f, g, a, b) refl
    ]
  ]

  members : (k : ℕ) → list_any (nat_eq k) (with_id id (filter p (numbers_below n))) ≡ (nat_eq id k || p k)
  members k =
      let xs : List ℕ = filter p (numbers_below n) in
      list_any-append (nat_eq k) (filter (λ j. nat_lt j id) xs) (id ∷ filter (λ j. nat_lt id j) xs)
      ∙ ap (λ b. b || (nat_eq k id || list_any (nat_eq k) (filter (λ j. nat_lt id j) xs))) (nat_members (λ j. nat_lt j id) xs k ∙ ap (λ b. nat_lt k id && b) (chosen_below p n below k))
      ∙ ap (λ b. (nat_lt k id && p k) || (nat_eq k id || b)) (nat_members (λ j. nat_lt id j) xs k ∙ ap (λ b. nat_lt id k && b) (chosen_below p n below k))
      ∙ decide k

  within : (k : ℕ) → (nat_eq id k || p k) ≡ true → k < n
  within k h = elim (or_cases (nat_eq id k) (p k) h) [ inl e ↦ let x = eqb-true id k e in omega arith | inr e ↦ below k e ]

  pub with_chosen : with_id id (filter p (numbers_below n)) ≡ filter (λ k. nat_eq id k || p k) (numbers_below n)
  with_chosen =
      let xs : List ℕ = filter p (numbers_below n) in
      let rows = rising_with id xs (IsStrictlySortedBy-filter nat_cmp p (numbers_below n) (numbers_sorted n)) in
      (number_rows_are n (λ k. nat_eq id k || p k) (with_id id xs) rows members within).0

pub without_chosen : (p : ℕ → Bool) (n id : ℕ) → without_id id (filter p (numbers_below n)) ≡ filter (λ k. not (nat_eq id k) && p k) (numbers_below n)
without_chosen p n id = filter_twice (λ k. not (nat_eq id k)) p (numbers_below n)

pub same_swap : (a b : ℕ) → nat_eq a b ≡ nat_eq b a
same_swap a b = elim (cases_eq a b) [
  | inl e ↦ eq-eqb a b e ∙ sym (eq-eqb b a (sym e))
  | inr n ↦ ne_eqb a b n ∙ sym (ne_eqb b a (λ e. n (sym e)))
]

-- ---- numbers that pass a test
pub filter_some : (p q : ℕ → Bool) (n : ℕ) → list_any q (filter p (numbers_below n)) ≡ some_below (λ w. p w && q w) n
unfolding numbers_below some_below
filter_some p q zero = refl
filter_some p q (suc n) =
    let e = filter-append p (numbers_below n) (n ∷ []) in
    let i = filter_some p q n in
    rw e (elim (cases_Bool (p n)) [
      | inl k ↦ rw k (list_any-append q (filter p (numbers_below n)) (n ∷ []) ∙ (rw i (elim (cases_Bool (q n)) [
        | inl x ↦ rw x (elim (cases_Bool (some_below (λ w. p w && q w) n)) [ inl y ↦ rw y refl | inr y ↦ rw y refl ])
        | inr x ↦ rw x (elim (cases_Bool (some_below (λ w. p w && q w) n)) [ inl y ↦ rw y refl | inr y ↦ rw y refl ])
      ])))
      | inr k ↦ rw k (list_any-append q (filter p (numbers_below n)) [] ∙ (rw i (elim (cases_Bool (some_below (λ w. p w && q w) n)) [ inl y ↦ rw y refl | inr y ↦ rw y refl ])))
    ])
