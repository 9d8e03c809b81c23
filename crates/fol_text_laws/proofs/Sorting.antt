-- Putting elements in the order of their keys, and that there is one way to do so.
use Rattle.std.proofs.Common.{◌≡◌, ◌≢◌, cond, List, [], ◌∷◌, ◌++◌, ◌⊎◌, inl, inr, map, refl, sym, ap, subst, ◌∙◌}
use Rattle.std.specs.Cmp.{IsTotalOrder}
use Rattle.std.specs.List.{AllByRecursion}
use Rattle.std.specs.Ordering.{is_lt, ordering_reverse}
use Rattle.std.specs.declared.cmp.Ordering.{Ordering}
use Rattle.std.specs.declared.cmp.Ordering.TheVariants.{Less, Equal, Greater}
use Rattle.std.specs.List.Sorted.{IsStrictlySortedBy, IsPermutation}
use Rattle.std.proofs.lemmas.Cmp.{tied_itself}
use Rattle.std.proofs.lemmas.List.Elements.{All-from_recursion, recursion_from_All}
use Rattle.std.proofs.lemmas.List.Sorted.{IsPermutation-refl, IsPermutation-sym, IsPermutation-cons, IsPermutation-trans, IsPermutation-middle, IsPermutation-push_more, All-permutation}
use Rattle.std.proofs.lemmas.Map.Keys.{sorted_head, sorted_tail}

pub all_permuted : {X : Type 0} (P : X → Type 0) (xs ys : List X) → IsPermutation xs ys → AllByRecursion P xs → AllByRecursion P ys
all_permuted P xs ys p all = recursion_from_All P ys (All-permutation P xs ys p (All-from_recursion P xs all))

pub sorted_cons : {K : Type 0} (R : K → K → Ordering) (k : K) (ks : List K) → AllByRecursion (λ y. R k y ≡ Less) ks → IsStrictlySortedBy R ks → IsStrictlySortedBy R (k ∷ ks)
unfolding IsStrictlySortedBy
sorted_cons R k ks head tail = (head, tail)

pub sorted_none : {K : Type 0} (R : K → K → Ordering) → IsStrictlySortedBy R []
unfolding IsStrictlySortedBy
sorted_none R = tt

-- x before the first element that is not below it
abbrev pub insert_by : {X K : Type 0} → (X → K) → (K → K → Ordering) → X → List X → List X
insert_by key R x [] = x ∷ []
insert_by key R x (y ∷ ys) = cond (is_lt (R (key x) (key y))) (x ∷ y ∷ ys) (y ∷ insert_by key R x ys)

ordered : (o : Ordering) → (o ≡ Less) ⊎ ((o ≡ Equal) ⊎ (o ≡ Greater))
ordered Less = inl refl
ordered Equal = inr (inl refl)
ordered Greater = inr (inr refl)

pub insert_moves : {X K : Type 0} (key : X → K) (R : K → K → Ordering) (x : X) (xs : List X) → IsPermutation (x ∷ xs) (insert_by key R x xs)
insert_moves key R x [] = IsPermutation-refl (x ∷ [])
insert_moves key R x (y ∷ ys) =
    let here : IsPermutation (x ∷ y ∷ ys) (x ∷ y ∷ ys) = IsPermutation-refl (x ∷ y ∷ ys) in
    let later : IsPermutation (x ∷ y ∷ ys) (y ∷ insert_by key R x ys) =
    IsPermutation-trans (x ∷ y ∷ ys) (y ∷ x ∷ ys) (y ∷ insert_by key R x ys) (IsPermutation-middle (x ∷ []) y ys) (IsPermutation-cons y (x ∷ ys) (insert_by key R x ys) (insert_moves key R x ys)) in
    elim (R (key x) (key y)) as (λ o. IsPermutation (x ∷ y ∷ ys) (cond (is_lt o) (x ∷ y ∷ ys) (y ∷ insert_by key R x ys))) [
      | Less ↦ here
      | Equal ↦ later
      | Greater ↦ later
    ]

all_inserted : {X K : Type 0} (key : X → K) (R : K → K → Ordering) (P : K → Type 0) (x : X) (xs : List X) → P (key x) → AllByRecursion P (map key xs) → AllByRecursion P (map key (insert_by key R x xs))
all_inserted key R P x [] p all = (p, tt)
all_inserted key R P x (y ∷ ys) p all = elim (R (key x) (key y)) as (λ o. AllByRecursion P (map key (cond (is_lt o) (x ∷ y ∷ ys) (y ∷ insert_by key R x ys)))) [
  | Less ↦ (p, all)
  | Equal ↦ (all.0, all_inserted key R P x ys p all.1)
  | Greater ↦ (all.0, all_inserted key R P x ys p all.1)
]

above : {K : Type 0} (R : K → K → Ordering) → IsTotalOrder R → (a b : K) (ks : List K) → R a b ≡ Less → AllByRecursion (λ y. R b y ≡ Less) ks → AllByRecursion (λ y. R a y ≡ Less) ks
above R o a b [] l all = tt
above R o a b (k ∷ ks) l all = (o.trans a b k l all.0, above R o a b ks l all.1)

pub insert_keeps_order : {X K : Type 0} (key : X → K) (R : K → K → Ordering) → IsTotalOrder R → (x : X) (xs : List X) → AllByRecursion (λ y. R (key x) (key y) ≢ Equal) xs → IsStrictlySortedBy R (map key xs) → IsStrictlySortedBy R (map key (insert_by key R x xs))
insert_keeps_order key R o x [] apart up = sorted_cons R (key x) [] tt (sorted_none R)
insert_keeps_order key R o x (y ∷ ys) apart up = elim (ordered (R (key x) (key y))) [
  | inl less ↦ rw less (sorted_cons R (key x) (map key (y ∷ ys)) (less, above R o (key x) (key y) (map key ys) less (sorted_head R (key y) (map key ys) up)) up)
  | inr (inl equal) ↦ absurd (apart.0 equal)
  | inr (inr greater) ↦
      let back : R (key y) (key x) ≡ Less = o.antisymm (key y) (key x) ∙ ap ordering_reverse greater in
      rw greater (sorted_cons R (key y) (map key (insert_by key R x ys))
      (all_inserted key R (λ k. R (key y) k ≡ Less) x ys back (sorted_head R (key y) (map key ys) up))
      (insert_keeps_order key R o x ys apart.1 (sorted_tail R (key y) (map key ys) up)))
]

-- one more element, which none of xs ties with
pub sort_more : {X K : Type 0} (key : X → K) (R : K → K → Ordering) → IsTotalOrder R → (xs ys : List X) (x : X) → IsPermutation xs ys → IsStrictlySortedBy R (map key ys) → AllByRecursion (λ y. R (key x) (key y) ≢ Equal) xs
    → IsPermutation (xs ++ x ∷ []) (insert_by key R x ys) × IsStrictlySortedBy R (map key (insert_by key R x ys))
sort_more key R o xs ys x p up apart = (
  IsPermutation-push_more xs ys (insert_by key R x ys) x p (insert_moves key R x ys),
  insert_keeps_order key R o x ys (all_permuted (λ y. R (key x) (key y) ≢ Equal) xs ys p apart) up,
)

-- ---- one order

abbrev Among : {X : Type 0} → List X → X → Type 0
Among [] z = ⊥
Among (x ∷ xs) z = (x ≡ z) ⊎ Among xs z

weaker : {X : Type 0} (x : X) (xs ys : List X) → AllByRecursion (Among xs) ys → AllByRecursion (Among (x ∷ xs)) ys
weaker x xs [] all = tt
weaker x xs (y ∷ ys) all = (inr all.0, weaker x xs ys all.1)

itself : {X : Type 0} (xs : List X) → AllByRecursion (Among xs) xs
itself [] = tt
itself (x ∷ xs) = (inl refl, weaker x xs xs (itself xs))

among_permuted : {X : Type 0} (xs ys : List X) → IsPermutation xs ys → AllByRecursion (Among xs) ys
among_permuted xs ys p = all_permuted (Among xs) xs ys p (itself xs)

among_all : {X : Type 0} (P : X → Type 0) (xs : List X) (z : X) → AllByRecursion P xs → Among xs z → P z
among_all P [] z all a = absurd a
among_all P (x ∷ xs) z all (inl e) = subst P e all.0
among_all P (x ∷ xs) z all (inr a) = among_all P xs z all.1 a

unmapped : {X K : Type 0} (key : X → K) (P : K → Type 0) (xs : List X) → AllByRecursion P (map key xs) → AllByRecursion (λ x. P (key x)) xs
unmapped key P [] all = tt
unmapped key P (x ∷ xs) all = (all.0, unmapped key P xs all.1)

no_loop : {K : Type 0} (R : K → K → Ordering) → IsTotalOrder R → (a b : K) → R a b ≡ Less → R b a ≡ Less → ⊥
no_loop R o a b l m = let k : Less ≡ Greater = sym l ∙ o.antisymm a b ∙ ap ordering_reverse m in cc

no_self : {K : Type 0} (R : K → K → Ordering) → IsTotalOrder R → (a : K) → R a a ≡ Less → ⊥
no_self R o a l = let k : Less ≡ Equal = sym l ∙ tied_itself o a in cc

-- the first of both is the same
first_same : {X K : Type 0} (key : X → K) (R : K → K → Ordering) → IsTotalOrder R → (x y : X) (xs ys : List X) → AllByRecursion (λ z. R (key x) (key z) ≡ Less) xs → AllByRecursion (λ z. R (key y) (key z) ≡ Less) ys
    → (x ≡ y) ⊎ Among xs y → (y ≡ x) ⊎ Among ys x → x ≡ y
first_same key R o x y xs ys below_xs below_ys (inl e) b = e
first_same key R o x y xs ys below_xs below_ys (inr a) (inl e) = sym e
first_same key R o x y xs ys below_xs below_ys (inr a) (inr b) =
    absurd (no_loop R o (key x) (key y) (among_all (λ z. R (key x) (key z) ≡ Less) xs y below_xs a) (among_all (λ z. R (key y) (key z) ≡ Less) ys x below_ys b))

-- without the first, the others are among the others
others : {X K : Type 0} (key : X → K) (R : K → K → Ordering) → IsTotalOrder R → (x : X) (xs ys : List X) → AllByRecursion (λ z. R (key x) (key z) ≡ Less) ys → AllByRecursion (Among (x ∷ xs)) ys → AllByRecursion (Among xs) ys
others key R o x xs [] below all = tt
others key R o x xs (y ∷ ys) below all = (
  elim all.0 [
    | inl e ↦ absurd (no_self R o (key x) (subst (λ z. R (key x) (key z) ≡ Less) (sym e) below.0))
    | inr a ↦ a
  ],
  others key R o x xs ys below.1 all.1,
)

same_sorted : {X K : Type 0} (key : X → K) (R : K → K → Ordering) → IsTotalOrder R → (xs ys : List X) → IsStrictlySortedBy R (map key xs) → IsStrictlySortedBy R (map key ys) → AllByRecursion (Among xs) ys → AllByRecursion (Among ys) xs → xs ≡ ys
same_sorted key R o [] [] up vp a b = refl
same_sorted key R o [] (y ∷ ys) up vp a b = absurd a.0
same_sorted key R o (x ∷ xs) [] up vp a b = absurd b.0
same_sorted key R o (x ∷ xs) (y ∷ ys) up vp a b =
    let below_xs = unmapped key (λ k. R (key x) k ≡ Less) xs (sorted_head R (key x) (map key xs) up) in
    let below_ys = unmapped key (λ k. R (key y) k ≡ Less) ys (sorted_head R (key y) (map key ys) vp) in
    let e = first_same key R o x y xs ys below_xs below_ys a.0 b.0 in
    let c : AllByRecursion (Among xs) ys = others key R o x xs ys (subst (λ z. AllByRecursion (λ w. R (key z) (key w) ≡ Less) ys) (sym e) below_ys) a.1 in
    let d : AllByRecursion (Among ys) xs = others key R o y ys xs (subst (λ z. AllByRecursion (λ w. R (key z) (key w) ≡ Less) xs) e below_xs) b.1 in
    let rest = same_sorted key R o xs ys (sorted_tail R (key x) (map key xs) up) (sorted_tail R (key y) (map key ys) vp) c d in
    ap (λ z. z ∷ xs) e ∙ ap (λ l. y ∷ l) rest

-- two orders of the same elements by their keys, with no tie, are one
pub one_order : {X K : Type 0} (key : X → K) (R : K → K → Ordering) → IsTotalOrder R → (zs xs ys : List X) → IsPermutation zs xs → IsPermutation zs ys → IsStrictlySortedBy R (map key xs) → IsStrictlySortedBy R (map key ys) → xs ≡ ys
one_order key R o zs xs ys p q up vp =
    same_sorted key R o xs ys up vp
    (among_permuted xs ys (IsPermutation-trans xs zs ys (IsPermutation-sym zs xs p) q))
    (among_permuted ys xs (IsPermutation-trans ys zs xs (IsPermutation-sym zs ys q) p))
