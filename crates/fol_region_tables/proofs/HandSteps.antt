-- A region waits in place of another one.
use Rattle.std.proofs.Common.{◌≡◌, ℕ, ◌<◌, refl, sym, ◌∙◌, ap, arith, Bool, true, false, cond, not, ◌&&◌, ◌||◌, List, [], ◌∷◌, inl, inr}
use Rattle.std.specs.Prelude.{◌≢◌, nat_eq, Some, None}
use Rattle.std.specs.List.{list_any, count_by}
use Rattle.std.specs.Ordering.{nat_cmp, eq_by_cmp}
use Rattle.std.proofs.Math.Bool.{and-false}
use Rattle.std.proofs.Math.Path.{fun_ext}
use Rattle.std.proofs.lemmas.Bool.{cases_Bool, cases_eq, true≢false, eq-eqb, eqb-true, ne_eqb, or_left}
use Rattle.fol_model.specs.Universe.{numbers_below}
use Rattle.fol_laws.proofs.Listed as listed
use Rattle.fol_laws.proofs.NumberOrder.{numbers_tell, numbers_sorted, in_numbers}
use Rattle.fol_region_tables.specs.Links.{first_id}
use Rattle.fol_region_tables.specs.Book.{Book, IsBook, KeepsRoom, ahead_of, waits_of, handed_waits, merged_waits}
use Rattle.fol_region_tables.proofs.BookFacts.{waits_next}

module _ (w : ℕ → ℕ → Bool) (u t v : ℕ) (apart : u ≢ t) where
  pub handed_stays : (a : ℕ) → a ≢ u → a ≢ t → (b : ℕ) → handed_waits w u t v a b ≡ w a b
  handed_stays a n m b = let p : nat_eq a u ≡ false = ne_eqb a u n in let q : nat_eq a t ≡ false = ne_eqb a t m in rw (p, q) refl

  pub handed_u : (b : ℕ) → handed_waits w u t v u b ≡ (not (nat_eq v b) && w u b)
  handed_u b = let p : nat_eq u u ≡ true = eq-eqb u u refl in rw p refl

  pub handed_t : (b : ℕ) → handed_waits w u t v t b ≡ ((not (nat_eq v t) && nat_eq v b) || w t b)
  handed_t b = let p : nat_eq t u ≡ false = ne_eqb t u (λ e. apart (sym e)) in let q : nat_eq t t ≡ true = eq-eqb t t refl in rw (p, q) refl

-- ---- how far the loop has come
pub record Handing (first now : ℕ → ℕ → Bool) (u t : ℕ) : Type 0 where
  pub left : (b : ℕ) → now u b ≡ true → first u b ≡ true
  pub gone : (b : ℕ) → now t b ≡ (first t b || (not (nat_eq b t) && (first u b && not (now u b))))
  pub others : (a : ℕ) → a ≢ u → a ≢ t → (b : ℕ) → now a b ≡ first a b

pub handing_none : (w : ℕ → ℕ → Bool) (u t : ℕ) → Handing w w u t
handing_none w u t = record { left = λ b h. h; gone = λ b. none (w t b) (not (nat_eq b t)) (w u b); others = λ a n m b. refl }
  where
    none : (x y z : Bool) → x ≡ (x || (y && (z && not z)))
    none true y z = refl
    none false true true = refl
    none false true false = refl
    none false false z = refl

pub handing_more : (first now : ℕ → ℕ → Bool) (u t v : ℕ) → u ≢ t → Handing first now u t → now u v ≡ true → Handing first (handed_waits now u t v) u t
handing_more first now u t v apart h pair = record {
  left = λ b k. h.left b (and_right (not (nat_eq v b)) (now u b) (sym (handed_u now u t v apart b) ∙ k));
  gone = λ b. handed_t now u t v apart b ∙ ap (λ x. (not (nat_eq v t) && nat_eq v b) || x) (h.gone b) ∙ elim (cases_eq v b) [
    | inl e ↦ let p : nat_eq v b ≡ true = eq-eqb v b e in let f : first u b ≡ true = h.left b (ap (now u) (sym e) ∙ pair) in let n : now u b ≡ true = ap (now u) (sym e) ∙ pair in
        let hu : handed_waits now u t v u b ≡ false = handed_u now u t v apart b ∙ ap (λ x. not x && now u b) p in
        let s : nat_eq v t ≡ nat_eq b t = ap (λ j. nat_eq j t) e in
        rw (hu, p, f, n, s) (here (nat_eq b t) (first t b))
    | inr e ↦ let p : nat_eq v b ≡ false = ne_eqb v b e in
        let hu : handed_waits now u t v u b ≡ now u b = handed_u now u t v apart b ∙ ap (λ x. not x && now u b) p in
        rw (hu, p) (there (not (nat_eq v t)) (first t b || (not (nat_eq b t) && (first u b && not (now u b)))))
  ];
  others = λ a n m b. handed_stays now u t v apart a n m b ∙ h.others a n m b;
}
  where
    and_right : (x y : Bool) → (x && y) ≡ true → y ≡ true
    and_right true y k = k
    and_right false y k = absurd (true≢false (sym k))

    here : (x y : Bool) → ((not x && true) || (y || (not x && (true && false)))) ≡ (y || (not x && (true && true)))
    here true true = refl
    here true false = refl
    here false true = refl
    here false false = refl

    there : (x y : Bool) → ((x && false) || y) ≡ y
    there true y = refl
    there false y = refl

pub handing_all : (first now : ℕ → ℕ → Bool) (u t : ℕ) → u ≢ t → first t t ≡ false → Handing first now u t → ((b : ℕ) → now u b ≡ false) → now ≡ merged_waits first u t
handing_all first now u t apart awake h none = fun_ext (λ a. fun_ext (λ b. elim (cases_eq a t) [
  | inl e ↦ let p : nat_eq a t ≡ true = eq-eqb a t e in let n : now u b ≡ false = none b in
      let g = h.gone b in let g' = rw n at g in
      rw p (ap (λ j. now j b) e ∙ g' ∙ elim (cases_eq b t) [
        | inl f ↦ let q : nat_eq b t ≡ true = eq-eqb b t f in let w : first t b ≡ false = ap (first t) f ∙ awake in rw (q, w) refl
        | inr f ↦ let q : nat_eq b t ≡ false = ne_eqb b t f in rw q (same (first t b) (first u b))
      ])
  | inr e ↦ let p : nat_eq a t ≡ false = ne_eqb a t e in elim (cases_eq a u) [
    | inl f ↦ let q : nat_eq a u ≡ true = eq-eqb a u f in rw (p, q) (ap (λ j. now j b) f ∙ none b)
    | inr f ↦ let q : nat_eq a u ≡ false = ne_eqb a u f in rw (p, q) (h.others a f e b)
  ]
]))
  where
    same : (x y : Bool) → (x || (true && (y && true))) ≡ (true && (x || y))
    same true y = refl
    same false true = refl
    same false false = refl

-- one pair less of the region that ends
pub fewer_waits : (b : Book) → IsBook b → (u t v : ℕ) → u ≢ t → waits_of b u v ≡ true → count_by (handed_waits (waits_of b) u t v u) (numbers_below b.next) < count_by (waits_of b u) (numbers_below b.next)
fewer_waits b is u t v apart h =
    let l = waits_next b is u v h in
    let e = listed.count_change nat_cmp numbers_tell (waits_of b u) (handed_waits (waits_of b) u t v u) v
    (handed_u (waits_of b) u t v apart v ∙ ap (λ x. not x && waits_of b u v) (eq-eqb v v refl))
    (λ k n. sym (handed_u (waits_of b) u t v apart k ∙ ap (λ x. not x && waits_of b u k) (ne_eqb v k (λ x. true≢false (sym (ap (eq_by_cmp nat_cmp v) (sym x) ∙ listed.own nat_cmp numbers_tell v) ∙ n)))))
    (numbers_below b.next) (numbers_sorted b.next) (tied v b.next l) in
    omega (arith, e, ap (λ x. cond {A = ℕ} x 1 0) h)
  where
    or_last : (x y : Bool) → y ≡ true → (x || y) ≡ true
    or_last true y e = refl
    or_last false y e = e

    any_like : (p q : ℕ → Bool) → ((x : ℕ) → p x ≡ true → q x ≡ true) → (xs : List ℕ) → list_any p xs ≡ true → list_any q xs ≡ true
    any_like p q g [] k = k
    any_like p q g (x ∷ xs) k = elim (cases_Bool (p x)) [
      | inl e ↦ or_left (q x) (list_any q xs) (g x e)
      | inr e ↦ let m = rw e at k in or_last (q x) (list_any q xs) (any_like p q g xs m)
    ]

    tied : (v n : ℕ) → v < n → list_any (eq_by_cmp nat_cmp v) (numbers_below n) ≡ true
    tied v n l = any_like (nat_eq v) (eq_by_cmp nat_cmp v) (λ x e. ap (eq_by_cmp nat_cmp v) (sym (eqb-true v x e)) ∙ listed.own nat_cmp numbers_tell v) (numbers_below n) (in_numbers n v l)

-- the first of the list is waited for; where there is none, none is
pub first_waits : (b : Book) (u v : ℕ) → Some v ≡ first_id (ahead_of b u) → waits_of b u v ≡ true
unfolding waits_of
first_waits b u v e = go (ahead_of b u) e
  where
    go : (xs : List ℕ) → Some v ≡ first_id xs → list_any (nat_eq v) xs ≡ true
    go [] k = absurd (cc)
    go (x ∷ xs) k = let y : v ≡ x = cc in or_left (nat_eq v x) (list_any (nat_eq v) xs) (eq-eqb v x y)

pub none_waits : (b : Book) (u : ℕ) → None ≡ first_id (ahead_of b u) → (v : ℕ) → waits_of b u v ≡ false
unfolding waits_of
none_waits b u e v = go (ahead_of b u) e
  where
    go : (xs : List ℕ) → None ≡ first_id xs → list_any (nat_eq v) xs ≡ false
    go [] k = refl
    go (x ∷ xs) k = absurd (cc)

pub keeps_room-trans : (a b c : Book) → KeepsRoom a b → KeepsRoom b c → KeepsRoom a c
keeps_room-trans a b c h k = record {
  free = omega (arith, h.free, k.free);
  ahead = omega (arith, h.ahead, k.ahead);
  behind = omega (arith, h.behind, k.behind);
  ahead_room = k.ahead_room ∙ h.ahead_room;
  behind_room = k.behind_room ∙ h.behind_room;
}

-- ---- the pairs of a region that was merged
pub merged_none : (w : ℕ → ℕ → Bool) (u t : ℕ) → u ≢ t → (k : ℕ) → merged_waits w u t u k ≡ false
merged_none w u t n k = let p : nat_eq u t ≡ false = ne_eqb u t n in let q : nat_eq u u ≡ true = eq-eqb u u refl in rw (p, q) refl

pub merged_nobody : (w : ℕ → ℕ → Bool) (u t : ℕ) → ((a : ℕ) → w a u ≡ false) → (a : ℕ) → merged_waits w u t a u ≡ false
merged_nobody w u t last a = elim (cases_eq a t) [
  | inl e ↦ let p : nat_eq a t ≡ true = eq-eqb a t e in let x = last t in let y = last u in rw (p, x, y) (and-false (not (nat_eq u t)))
  | inr n ↦ let p : nat_eq a t ≡ false = ne_eqb a t n in let x = last a in rw (p, x) (and-false (not (nat_eq a u)))
]
