-- Lists whose elements have keys that differ: what a look-up by key finds.
use Rattle.std.proofs.Common.{◌≡◌, ℕ, zero, suc, ◌+◌, ◌<◌, ◌||◌, Bool, true, false, not, cond, List, [], ◌∷◌, ◌++◌, length, get_or, map, refl, sym, ◌∙◌, length-append, ap, subst, ◌⊎◌, inl, inr, arith, Option, Some, None}
use Rattle.std.specs.Prelude.{All, Contains, slice_set}
use Rattle.std.specs.List.{find, filter, count_by, IsDistinct, AllByRecursion, insert, remove}
use Rattle.std.specs.List.Sorted.{IsPermutation}
use Rattle.std.specs.Option.{option_or, option_map, is_none}
use Rattle.std.proofs.lemmas.Bool.{cases_Bool}
use Rattle.std.proofs.lemmas.List.Elements.{All-from_recursion, All-contains, All-head, All-tail, Contains-get_or, Contains-append_left, Contains-append_right, Contains-append_cases}
use Rattle.std.proofs.lemmas.List.Sorted.{Contains-permutation, IsPermutation-sym, IsPermutation-remove, IsPermutation-insert, IsPermutation-to_front, IsPermutation-trans, sum_by-IsPermutation, length_permutation}
use Rattle.std.proofs.lemmas.List.Sums.{sum_by-append, sum_by-cons}
use Rattle.std.proofs.lemmas.List.Folds.{find-append}
use Rattle.std.proofs.lemmas.Map.Keys.{IsDistinct-IsPermutation, IsDistinct-tail}
use Rattle.fol_keyed.specs.Options.{option_filter}
use Rattle.fol_keyed.specs.Parted.{Parted}

module _ {X : Type 0} where
  -- an element of a list is its first or one of the rest
  pub contains_cases : (x y : X) (ys : List X) → Contains (y ∷ ys) x → (y ≡ x) ⊎ Contains ys x
  contains_cases x y ys (zero, l, e) = inl e
  contains_cases x y ys (suc k, l, e) = inr (k, omega arith, e)

  pub contains_more : (x y : X) (ys : List X) → Contains ys x → Contains (y ∷ ys) x
  contains_more x y ys (k, l, e) = (suc k, omega arith, e)

  -- a look-up finds an element that passes
  pub find_element : (p : X → Bool) (xs : List X) (x : X) → find p xs ≡ Some x → Contains xs x × (p x ≡ true)
  find_element p [] x h = cc
  find_element p (y ∷ ys) x h =
      elim (cases_Bool (p y)) [
        | inl e ↦ let f : Some y ≡ Some x = rw e at h in let s : y ≡ x = cc in ((0, omega arith, s), ap p (sym s) ∙ e)
        | inr e ↦ let f : find p ys ≡ Some x = rw e at h in let r : Contains ys x × (p x ≡ true) = find_element p ys x f in (contains_more x y ys r.0, r.1)
      ]

  -- where an element passes, a look-up finds one
  pub found : (p : X → Bool) (xs : List X) (x : X) → Contains xs x → p x ≡ true → find p xs ≡ None → ⊥
  found p [] x (k, l, e) t h = omega arith
  found p (y ∷ ys) x c t h =
      elim (cases_Bool (p y)) [
        | inl e ↦ let f : Some y ≡ None = rw e at h in cc
        | inr e ↦
            elim (contains_cases x y ys c) [
              | inl s ↦ let b : true ≡ false = sym t ∙ ap p (sym s) ∙ e in cc
              | inr m ↦ found p ys x m t (rw e at h)
            ]
      ]

module _ {X : Type 0} where
  pub at_own : (xs : List X) (i : ℕ) (d : X) → i < length xs → get_or xs i d ≡ get_or xs i (get_or xs i d)
  at_own [] i d l = absurd (omega arith)
  at_own (x ∷ xs) zero d l = refl
  at_own (x ∷ xs) (suc i) d l = at_own xs i d (omega arith)

-- elements with keys, a test that tells keys apart, and the element of a key
module _ {X K : Type 0} (same : K → K → Bool) (same_is : (a b : K) → same a b ≡ true → a ≡ b) (same_self : (a : K) → same a a ≡ true) (key : X → K) where
  abbrev pub has_key : K → X → Bool
  has_key k x = same (key x) k

  abbrev pub Differ : List X → Type 0
  Differ xs = IsDistinct (λ a b. same (key a) (key b)) xs

  -- where keys differ, the look-up of an element's key finds that element
  pub find_own : (xs : List X) (x : X) → Differ xs → Contains xs x → find (has_key (key x)) xs ≡ Some x
  unfolding IsDistinct
  find_own [] x d (k, l, e) = absurd (omega arith)
  find_own (y ∷ ys) x d c =
      elim (contains_cases x y ys c) [
        | inl s ↦ let t : same (key y) (key x) ≡ true = ap (λ z. same (key z) (key x)) s ∙ same_self (key x) in rw t (ap (λ (z : X). Some z) s)
        | inr m ↦
            let f : same (key y) (key x) ≡ false = All-contains (λ z. same (key y) (key z) ≡ false) ys x (All-from_recursion (λ z. same (key y) (key z) ≡ false) ys d.0) m in
            rw f (find_own ys x d.1 m)
      ]

  -- an element that is found has the key
  pub find_key : (xs : List X) (k : K) (x : X) → find (has_key k) xs ≡ Some x → Contains xs x × (key x ≡ k)
  find_key xs k x h =
      let f : Contains xs x × (same (key x) k ≡ true) = find_element (has_key k) xs x h in
      (f.0, same_is (key x) k f.1)

  -- the look-up of an element's key finds it, also where the key is named otherwise
  pub find_of : (xs : List X) (k : K) (x : X) → Differ xs → Contains xs x → key x ≡ k → find (has_key k) xs ≡ Some x
  find_of xs k x d c e = let P : K → Type 0 = λ q. find (has_key q) xs ≡ Some x in subst P e (find_own xs x d c)

  -- a part of a list: it has exactly the elements that pass, so a look-up in it is the filtered look-up in the list
  pub find_part : (xs part : List X) (p : X → Bool) → Differ xs
      → ((x : X) → Contains part x → Contains xs x × (p x ≡ true))
      → ((x : X) → Contains xs x → Contains part x ⊎ (p x ≡ false))
      → (k : K) → find (has_key k) part ≡ option_filter p (find (has_key k) xs)
  find_part xs part p d down up k =
      let in_part : (o r : Option X) → find (has_key k) part ≡ o → find (has_key k) xs ≡ r → o ≡ option_filter p r = part_cases xs part p d down up k in
      in_part (find (has_key k) part) (find (has_key k) xs) refl refl
    where
      part_cases : (xs part : List X) (p : X → Bool) → Differ xs
          → ((x : X) → Contains part x → Contains xs x × (p x ≡ true))
          → ((x : X) → Contains xs x → Contains part x ⊎ (p x ≡ false))
          → (k : K) (o r : Option X) → find (has_key k) part ≡ o → find (has_key k) xs ≡ r → o ≡ option_filter p r
      part_cases xs part p d down up k (Some x) r h g =
          let f : Contains part x × (key x ≡ k) = find_key part k x h in
          let w : Contains xs x × (p x ≡ true) = down x f.0 in
          let e : r ≡ Some x = sym g ∙ find_of xs k x d w.0 f.1 in
          rw (e, w.1) refl
      part_cases xs part p d down up k None None h g = refl
      part_cases xs part p d down up k None (Some x) h g =
          let f : Contains xs x × (key x ≡ k) = find_key xs k x g in
          elim (up x f.0) [
            | inl c ↦ absurd (found (has_key k) part x c (ap (λ q. same (key x) q) (sym f.1) ∙ same_self (key x)) h)
            | inr e ↦ rw e refl
          ]

  -- the parts of a list with keys that differ have keys that differ
  pub differ_left : (xs ys : List X) → Differ (xs ++ ys) → Differ xs
  unfolding IsDistinct
  differ_left [] ys d = tt
  differ_left (x ∷ xs) ys d =
      let all : All (λ z. same (key x) (key z) ≡ false) (xs ++ ys) = All-from_recursion (λ z. same (key x) (key z) ≡ false) (xs ++ ys) d.0 in
      (front x xs ys d.0, differ_left xs ys d.1)
    where
      front : (x : X) (xs ys : List X) → AllByRecursion (λ z. same (key x) (key z) ≡ false) (xs ++ ys) → AllByRecursion (λ z. same (key x) (key z) ≡ false) xs
      front x [] ys h = tt
      front x (z ∷ zs) ys h = (h.0, front x zs ys h.1)

  pub differ_right : (xs ys : List X) → Differ (xs ++ ys) → Differ ys
  unfolding IsDistinct
  differ_right [] ys d = d
  differ_right (x ∷ xs) ys d = differ_right xs ys d.1

  -- two lists that share no key make one list with keys that differ
  pub differ_append : (xs ys : List X) → Differ xs → Differ ys → ((x y : X) → Contains xs x → Contains ys y → key x ≡ key y → ⊥) → Differ (xs ++ ys)
  unfolding IsDistinct
  differ_append [] ys d e apart = e
  differ_append (x ∷ xs) ys d e apart =
      (spread x xs ys d.0 (λ y m. no_key x y (apart x y (0, omega arith, refl) m)), differ_append xs ys d.1 e (λ a b m n. apart a b (contains_more a x xs m) n))
    where
      no_key : (x y : X) → (key x ≡ key y → ⊥) → same (key x) (key y) ≡ false
      no_key x y h = elim (cases_Bool (same (key x) (key y))) [ inl e ↦ absurd (h (same_is (key x) (key y) e)) | inr e ↦ e ]

      spread : (x : X) (xs ys : List X) → AllByRecursion (λ z. same (key x) (key z) ≡ false) xs → ((y : X) → Contains ys y → same (key x) (key y) ≡ false) → AllByRecursion (λ z. same (key x) (key z) ≡ false) (xs ++ ys)
      spread x [] [] h f = tt
      spread x [] (y ∷ ys) h f = (f y (0, omega arith, refl), spread x [] ys tt (λ z m. f z (contains_more z y ys m)))
      spread x (z ∷ zs) ys h f = (h.0, spread x zs ys h.1 f)

  -- where no look-up finds something in both lists, they share no key
  pub no_shared_key : (xs ys : List X) → Differ xs → Differ ys → ((k : K) → (is_none (find (has_key k) xs) || is_none (find (has_key k) ys)) ≡ true) → (x y : X) → Contains xs x → Contains ys y → key x ≡ key y → ⊥
  no_shared_key xs ys d e none x y m n same_key =
      let f : find (has_key (key y)) xs ≡ Some x = find_of xs (key y) x d m same_key in
      let g : find (has_key (key y)) ys ≡ Some y = find_own ys y e n in
      let t : (is_none (Some x) || is_none (Some y)) ≡ true = rw (f, g) at (none (key y)) in
      cc

  -- where no look-up of the key finds anything, the element may join
  pub differ_push : (xs : List X) (y : X) → Differ xs → find (has_key (key y)) xs ≡ None → Differ (xs ++ y ∷ [])
  unfolding IsDistinct
  differ_push xs y d none = differ_append xs (y ∷ []) d (one y) (λ x z m n e. found (has_key (key y)) xs x m (ap (λ q. same q (key y)) (e ∙ ap key (sym (alone y z n))) ∙ same_self (key y)) none)
    where
      one : (y : X) → Differ (y ∷ [])
      one y = (tt, tt)

      alone : (y z : X) → Contains (y ∷ []) z → y ≡ z
      alone y z c = elim (contains_cases z y [] c) [ inl e ↦ e | inr m ↦ absurd (omega (arith, m.1)) ]

  -- a look-up in a list with one more element at its end
  pub find_push : (xs : List X) (y : X) → find (has_key (key y)) xs ≡ None → (k : K) → find (has_key k) (xs ++ y ∷ []) ≡ cond (same (key y) k) (Some y) (find (has_key k) xs)
  find_push xs y none k =
      elim (cases_Bool (same (key y) k)) [
        | inl e ↦
            let f : find (has_key k) xs ≡ None = let P : K → Type 0 = λ q. find (has_key q) xs ≡ None in subst P (same_is (key y) k e) none in
            rw (find-append (has_key k) xs (y ∷ []), f, e) refl
        | inr e ↦ rw (find-append (has_key k) xs (y ∷ []), e) (or_nothing (find (has_key k) xs))
      ]
    where
      or_nothing : (o : Option X) → option_or o None ≡ o
      or_nothing None = refl
      or_nothing (Some x) = refl

  -- a change of the elements that keeps their keys
  pub find_map : (f : X → X) → ((x : X) → key (f x) ≡ key x) → (xs : List X) (k : K) → find (has_key k) (map f xs) ≡ option_map f (find (has_key k) xs)
  find_map f keeps [] k = refl
  find_map f keeps (x ∷ xs) k =
      elim (cases_Bool (same (key x) k)) [
        | inl e ↦ let g : same (key (f x)) k ≡ true = ap (λ q. same q k) (keeps x) ∙ e in rw (e, g) refl
        | inr e ↦ let g : same (key (f x)) k ≡ false = ap (λ q. same q k) (keeps x) ∙ e in rw (e, g) (find_map f keeps xs k)
      ]

  pub differ_map : (f : X → X) → ((x : X) → key (f x) ≡ key x) → (xs : List X) → Differ xs → Differ (map f xs)
  unfolding IsDistinct
  differ_map f keeps [] d = tt
  differ_map f keeps (x ∷ xs) d = (all x xs d.0, differ_map f keeps xs d.1)
    where
      all : (x : X) (xs : List X) → AllByRecursion (λ z. same (key x) (key z) ≡ false) xs → AllByRecursion (λ z. same (key (f x)) (key z) ≡ false) (map f xs)
      all x [] h = tt
      all x (y ∷ ys) h = (ap (λ q. same q (key (f y))) (keeps x) ∙ ap (λ q. same (key x) q) (keeps y) ∙ h.0, all x ys h.1)

  -- two lists that share no key, the elements of the second changed, make one list with keys that differ
  pub differ_joined : (f : X → X) → ((x : X) → key (f x) ≡ key x) → (xs ys : List X) → Differ xs → Differ ys → ((k : K) → (is_none (find (has_key k) xs) || is_none (find (has_key k) ys)) ≡ true)
      → Differ (xs ++ map f ys)
  differ_joined f keeps xs ys d e none =
      differ_append xs (map f ys) d (differ_map f keeps ys e) (no_shared_key xs (map f ys) d (differ_map f keeps ys e) none_mapped)
    where
      gone : (o : Option X) → is_none (option_map f o) ≡ is_none o
      gone None = refl
      gone (Some x) = refl

      none_mapped : (k : K) → (is_none (find (has_key k) xs) || is_none (find (has_key k) (map f ys))) ≡ true
      none_mapped k = rw (find_map f keeps ys k, gone (find (has_key k) ys)) (none k)

  pub differ_permuted : (xs ys : List X) → IsPermutation xs ys → Differ xs → Differ ys
  differ_permuted xs ys h d = IsDistinct-IsPermutation (λ a b. same (key a) (key b)) flips xs ys h d
    where
      flips : (a b : X) → same (key a) (key b) ≡ same (key b) (key a)
      flips a b =
          elim (cases_Bool (same (key a) (key b))) [
            | inl e ↦ let w : key a ≡ key b = same_is (key a) (key b) e in let P : K → Type 0 = λ q. same (key a) q ≡ same q (key a) in subst P w refl
            | inr e ↦
                elim (cases_Bool (same (key b) (key a))) [
                  | inl f ↦ let w : key b ≡ key a = same_is (key b) (key a) f in let P : K → Type 0 = λ q. same q (key b) ≡ same (key b) q in subst P w refl
                  | inr f ↦ e ∙ sym f
                ]
          ]

  -- a look-up finds the same where the elements stand in another order
  pub find_permuted : (xs ys : List X) → Differ xs → IsPermutation xs ys → (k : K) → find (has_key k) ys ≡ find (has_key k) xs
  find_permuted xs ys d h k = at_look (find (has_key k) xs) refl
    where
      none_or : (o : Option X) → (o ≡ None) ⊎ ((x : X) × (o ≡ Some x))
      none_or None = inl refl
      none_or (Some x) = inr (x, refl)

      at_look : (o : Option X) → find (has_key k) xs ≡ o → find (has_key k) ys ≡ find (has_key k) xs
      at_look None e = elim (none_or (find (has_key k) ys)) [
        | inl f ↦ f ∙ sym e
        | inr f ↦
            let c : Contains ys f.0 × (key f.0 ≡ k) = find_key ys k f.0 f.1 in
            let m : Contains xs f.0 = Contains-permutation ys xs f.0 (IsPermutation-sym xs ys h) c.0 in
            absurd (found (has_key k) xs f.0 m (ap (λ q. same (key f.0) q) (sym c.1) ∙ same_self (key f.0)) e)
      ]
      at_look (Some x) e =
          let c : Contains xs x × (key x ≡ k) = find_key xs k x e in
          find_of ys k x (differ_permuted xs ys h d) (Contains-permutation xs ys x h c.0) c.1 ∙ sym e

  -- a look-up in these two lists, in whatever order
  pub find_joined : (f : X → X) → ((x : X) → key (f x) ≡ key x) → (xs ys zs : List X) → Differ xs → Differ ys → ((k : K) → (is_none (find (has_key k) xs) || is_none (find (has_key k) ys)) ≡ true)
      → IsPermutation (xs ++ map f ys) zs → (k : K) → find (has_key k) zs ≡ option_or (find (has_key k) xs) (option_map f (find (has_key k) ys))
  find_joined f keeps xs ys zs d e none m k =
      find_permuted (xs ++ map f ys) zs (differ_joined f keeps xs ys d e none) m k
      ∙ find-append (has_key k) xs (map f ys)
      ∙ ap (λ o. option_or (find (has_key k) xs) o) (find_map f keeps ys k)

  found_or_not : (o : Option X) → (o ≡ None) ⊎ ((x : X) × (o ≡ Some x))
  found_or_not None = inl refl
  found_or_not (Some x) = inr (x, refl)

  -- a look-up of a key that no element has
  pub find_absent : (xs : List X) (k : K) → ((x : X) → Contains xs x → key x ≡ k → ⊥) → find (has_key k) xs ≡ None
  find_absent xs k h =
      elim (found_or_not (find (has_key k) xs)) [
        | inl e ↦ e
        | inr f ↦ let c : Contains xs f.0 × (key f.0 ≡ k) = find_key xs k f.0 f.1 in absurd (h f.0 c.0 c.1)
      ]

  -- a look-up of the key of the element at a place
  pub find_at : (xs : List X) (i : ℕ) (k : K) (d : X) → Differ xs → i < length xs → ((e : X) → key (get_or xs i e) ≡ k) → find (has_key k) xs ≡ Some (get_or xs i d)
  find_at xs i k d h l e = find_of xs k (get_or xs i d) h (Contains-get_or xs i d l) (e d)

  -- a look-up where the first element has its own key
  find_first : (x : X) (xs : List X) (k : K) → Differ (x ∷ xs) → same (key x) k ≡ true → find (has_key k) xs ≡ None
  unfolding IsDistinct
  find_first x xs k d t = find_absent xs k (λ y m e.
      let f : same (key x) (key y) ≡ false = All-contains (λ z. same (key x) (key z) ≡ false) xs y (All-from_recursion (λ z. same (key x) (key z) ≡ false) xs d.0) m in
      let w : same (key x) (key y) ≡ true = ap (λ q. same (key x) q) e ∙ t in
      cc)

  -- a look-up where the element at a place was removed
  pub find_removed : (xs : List X) (i : ℕ) (k q : K) (d : X) → Differ xs → i < length xs → ((e : X) → key (get_or xs i e) ≡ k) → find (has_key q) (remove xs i) ≡ cond (same k q) None (find (has_key q) xs)
  find_removed xs i k q d h l e =
      let m : IsPermutation xs (get_or xs i d ∷ remove xs i) = IsPermutation-remove xs i (get_or xs i d) l (at_own xs i d l) in
      let h' : Differ (get_or xs i d ∷ remove xs i) = differ_permuted xs (get_or xs i d ∷ remove xs i) m h in
      let w : cond (same (key (get_or xs i d)) q) (Some (get_or xs i d)) (find (has_key q) (remove xs i)) ≡ find (has_key q) xs = find_permuted xs (get_or xs i d ∷ remove xs i) h m q in
      elim (cases_Bool (same k q)) [
        | inl t ↦ rw t (find_first (get_or xs i d) (remove xs i) q h' (ap (λ z. same z q) (e d) ∙ t))
        | inr t ↦ let s : same (key (get_or xs i d)) q ≡ false = ap (λ z. same z q) (e d) ∙ t in rw t (rw s at w)
      ]

  -- a look-up where an element took the place of one with its key
  pub find_replaced : (xs : List X) (i : ℕ) (y : X) (q : K) → Differ xs → i < length xs → ((e : X) → key (get_or xs i e) ≡ key y) → find (has_key q) (slice_set xs i y) ≡ cond (same (key y) q) (Some y) (find (has_key q) xs)
  unfolding IsDistinct
  find_replaced [] i y q d l e = absurd (omega arith)
  find_replaced (x ∷ xs) zero y q d l e =
      elim (cases_Bool (same (key y) q)) [
        | inl t ↦ rw t refl
        | inr t ↦ let s : same (key x) q ≡ false = ap (λ z. same z q) (e x) ∙ t in rw (t, s) refl
      ]
  find_replaced (x ∷ xs) (suc i) y q d l e =
      let l' : i < length xs = omega arith in
      elim (cases_Bool (same (key x) q)) [
        | inl t ↦
            let m : Contains xs (get_or xs i x) = Contains-get_or xs i x l' in
            let f : same (key x) (key (get_or xs i x)) ≡ false = All-contains (λ z. same (key x) (key z) ≡ false) xs (get_or xs i x) (All-from_recursion (λ z. same (key x) (key z) ≡ false) xs d.0) m in
            let g : same (key x) (key y) ≡ false = ap (λ z. same (key x) z) (sym (e x)) ∙ f in
            rw (t, other_key x y q t g) refl
        | inr t ↦ rw t (find_replaced xs i y q d.1 l' e)
      ]
    where
      other_key : (x y : X) (q : K) → same (key x) q ≡ true → same (key x) (key y) ≡ false → same (key y) q ≡ false
      other_key x y q t g =
          elim (cases_Bool (same (key y) q)) [
            | inl s ↦ let w : same (key x) (key y) ≡ true = ap (λ z. same (key x) z) (same_is (key y) q s) ∙ t in let v : true ≡ false = sym w ∙ g in cc
            | inr s ↦ s
          ]

  -- a look-up where an element with a new key was put in
  pub find_inserted : (xs : List X) (i : ℕ) (y : X) (q : K) → Differ xs → find (has_key (key y)) xs ≡ None → find (has_key q) (insert xs i y) ≡ cond (same (key y) q) (Some y) (find (has_key q) xs)
  find_inserted xs i y q d none =
      let front : Differ (xs ++ y ∷ []) = differ_push xs y d none in
      let m : IsPermutation (xs ++ y ∷ []) (insert xs i y) = IsPermutation-trans (xs ++ y ∷ []) (y ∷ xs) (insert xs i y) (IsPermutation-to_front xs y) (IsPermutation-insert xs i y) in
      find_permuted (xs ++ y ∷ []) (insert xs i y) front m q ∙ find_push xs y none q

  -- a look-up in what passes a test
  pub find_filter : (p : X → Bool) (xs : List X) (k : K) → Differ xs → find (has_key k) (filter p xs) ≡ option_filter p (find (has_key k) xs)
  find_filter p [] k d = refl
  find_filter p (x ∷ xs) k d =
      let rest : find (has_key k) (filter p xs) ≡ option_filter p (find (has_key k) xs) = find_filter p xs k (IsDistinct-tail (λ a b. same (key a) (key b)) x xs d) in
      elim (cases_Bool (p x)) [
        | inl e ↦
            elim (cases_Bool (same (key x) k)) [
              | inl t ↦ rw (e, t, e) refl
              | inr t ↦ rw (e, t) rest
            ]
        | inr e ↦
            elim (cases_Bool (same (key x) k)) [
              | inl t ↦ let n : find (has_key k) xs ≡ None = find_first x xs k d t in let w : find (has_key k) (filter p xs) ≡ None = rw n at rest in rw (e, t, e) w
              | inr t ↦ rw (e, t) rest
            ]
      ]

  -- what is left and what was moved of a parted list are its filtered look-ups
  pub Differ_parted : (p : X → Bool) (xs left moved : List X) → Parted p xs left moved → Differ xs → Differ (moved ++ left)
  Differ_parted p xs left moved h d = differ_permuted xs (moved ++ left) h.all d

  pub find_left : (p : X → Bool) (xs left moved : List X) → Parted p xs left moved → Differ xs → (k : K) → find (has_key k) left ≡ option_filter (λ x. not (p x)) (find (has_key k) xs)
  find_left p xs left moved h d = find_part xs left (λ x. not (p x)) d
      (λ x m. (Contains-permutation (moved ++ left) xs x (IsPermutation-sym xs (moved ++ left) h.all) (Contains-append_right moved left x m), ap not (All-contains (λ z. p z ≡ false) left x h.no m)))
      (λ x m. either_part x (Contains-append_cases moved left x (Contains-permutation xs (moved ++ left) x h.all m)))
    where
      either_part : (x : X) → Contains moved x ⊎ Contains left x → Contains left x ⊎ (not (p x) ≡ false)
      either_part x (inl m) = inr (ap not (All-contains (λ z. p z ≡ true) moved x h.yes m))
      either_part x (inr m) = inl m

  pub find_moved : (p : X → Bool) (xs left moved : List X) → Parted p xs left moved → Differ xs → (k : K) → find (has_key k) moved ≡ option_filter p (find (has_key k) xs)
  find_moved p xs left moved h d = find_part xs moved p d
      (λ x m. (Contains-permutation (moved ++ left) xs x (IsPermutation-sym xs (moved ++ left) h.all) (Contains-append_left moved left x m), All-contains (λ z. p z ≡ true) moved x h.yes m))
      (λ x m. either_part x (Contains-append_cases moved left x (Contains-permutation xs (moved ++ left) x h.all m)))
    where
      either_part : (x : X) → Contains moved x ⊎ Contains left x → Contains moved x ⊎ (p x ≡ false)
      either_part x (inl m) = inl m
      either_part x (inr m) = inr (All-contains (λ z. p z ≡ false) left x h.no m)

module _ {X : Type 0} where
  pub count_all : (p : X → Bool) (xs : List X) → All (λ x. p x ≡ true) xs → count_by p xs ≡ length xs
  count_all p [] h = refl
  count_all p (x ∷ xs) h =
      let e : p x ≡ true = All-head (λ z. p z ≡ true) x xs h in
      rw (sum_by-cons (λ z. cond (p z) 1 0) x xs, e) (omega (arith, count_all p xs (All-tail (λ z. p z ≡ true) x xs h)))

  pub count_none : (p : X → Bool) (xs : List X) → All (λ x. p x ≡ false) xs → count_by p xs ≡ 0
  count_none p [] h = refl
  count_none p (x ∷ xs) h =
      let e : p x ≡ false = All-head (λ z. p z ≡ false) x xs h in
      rw (sum_by-cons (λ z. cond (p z) 1 0) x xs, e) (omega (arith, count_none p xs (All-tail (λ z. p z ≡ false) x xs h)))

  -- as many were moved as pass
  pub count_moved : (p : X → Bool) (xs left moved : List X) → Parted p xs left moved → length moved ≡ count_by p xs
  count_moved p xs left moved h =
      let a : count_by p (moved ++ left) ≡ count_by p xs = sum_by-IsPermutation (λ z. cond (p z) 1 0) xs (moved ++ left) h.all in
      let b : count_by p (moved ++ left) ≡ count_by p moved + count_by p left = sum_by-append (λ z. cond (p z) 1 0) moved left in
      omega (arith, count_all p moved h.yes, count_none p left h.no)

  pub length_parted : (p : X → Bool) (xs left moved : List X) → Parted p xs left moved → length moved + length left ≡ length xs
  length_parted p xs left moved h = omega (arith, length_permutation xs (moved ++ left) h.all, length-append moved left)
