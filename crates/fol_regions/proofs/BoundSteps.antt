-- The numbers that are known of the regions.
use Rattle.std.proofs.Common.{◌≡◌, ℕ, zero, suc, ◌+◌, ◌-◌, ◌<◌, ◌≤◌, ◌∙◌, refl, sym, ap, arith, inl, inr, true, false, Bool, cond, List, [], ◌∷◌, ◌++◌, ◌||◌, length, get_or, set, take}
use Rattle.std.specs.Prelude.{◌≢◌, nat_eq, if◌then◌else◌, min, count_by}
use Rattle.std.proofs.lemmas.Bool.{cases_Bool, cases_eq, cases_lt, eq-eqb, eqb-true, ne_eqb, true≢false}
use Rattle.std.proofs.lemmas.List.Folds.{list_any_more}
use Rattle.std.proofs.lemmas.List.{get_or-append_right, get_or-set_same, get_or-set_other, get_or_append_left, get_or_default, get_or_past}
use Rattle.fol_laws.proofs.ListCounts.{count_by-cons}
use Rattle.fol_regions.specs.Added.{is_id}
use Rattle.fol_regions.specs.Changes.{into}
use Rattle.fol_regions.specs.DeadBounds.{most_in, most_of, place}
use Rattle.fol_regions.specs.declared.change.MergePair.{MergePair}
use Rattle.fol_regions.specs.declared.dead_bounds.Known.{Known}

abbrev pub nothing : Known
nothing = record { id = 0; most = 16384 }

pub most_none : (r : ℕ) → most_in [] r ≡ 16384
unfolding most_in
most_none r = elim (cases_Bool (nat_eq 0 r)) [ inl y ↦ rw y refl | inr y ↦ rw y refl ]

-- nothing is known of a region whose place lies past the end
pub most_past : (known : List Known) (r : ℕ) → length known ≤ place r → most_in known r ≡ 16384
unfolding most_in
most_past known r l = let past = get_or_past known (place r) nothing l in rw past (most_none r)

only_nothing : (i : ℕ) → get_or (nothing ∷ []) i nothing ≡ nothing
only_nothing zero = refl
only_nothing (suc i) = refl

-- nor in a row that is added
pub most_more : (known : List Known) (r : ℕ) → most_in (known ++ nothing ∷ []) r ≡ most_in known r
unfolding most_in
most_more known r = ap (most_of r) (elim (cases_lt (place r) (length known)) [
  | inl u ↦ get_or_append_left known (nothing ∷ []) nothing (place r) u
  | inr u ↦ get_or-append_right known (nothing ∷ []) (length known) (place r) nothing refl u ∙ only_nothing (place r - length known) ∙ sym (get_or_past known (place r) nothing u)
])

-- what is known in the place of a region
most_read : (known : List Known) (r at : ℕ) (k : Known) → at ≡ place r → at < length known → k ≡ get_or known at k → most_of r k ≡ most_in known r
unfolding most_in
most_read known r at k e l here = ap (most_of r) (here ∙ get_or_default known at k nothing l ∙ ap (λ i. get_or known i nothing) e)

pub most_known : (known : List Known) (r at : ℕ) (k : Known) → at ≡ place r → at < length known → k ≡ get_or known at k → k.id ≡ r → k.most ≡ most_in known r
most_known known r at k e l here is = let y : nat_eq k.id r ≡ true = eq-eqb _ _ is in rw y at (most_read known r at k e l here)

-- something is known of another region with the same place
pub most_unknown : (known : List Known) (r at : ℕ) (k : Known) → at ≡ place r → at < length known → k ≡ get_or known at k → k.id ≢ r → 16384 ≡ most_in known r
most_unknown known r at k e l here other = let y : nat_eq k.id r ≡ false = ne_eqb _ _ other in rw y at (most_read known r at k e l here)

module _ (known : List Known) (id n at : ℕ) (is : at ≡ place id) (l : at < length known) where
  put_at : (r : ℕ) → place r ≡ at → most_in (set known at (record { id = id; most = n })) r ≡ (if nat_eq id r then n else 16384)
  unfolding most_in
  put_at r e = ap (λ k. most_of r (get_or (set known at (record { id = id; most = n })) k nothing)) e ∙ ap (most_of r) (get_or-set_same known at (record { id = id; most = n }) nothing l)

  put_else : (r : ℕ) → place r ≢ at → most_in (set known at (record { id = id; most = n })) r ≡ most_in known r
  unfolding most_in
  put_else r e = ap (most_of r) (get_or-set_other known at (place r) (record { id = id; most = n }) nothing e)

  other_id : (r : ℕ) → place r ≢ at → nat_eq id r ≡ false
  other_id r e = ne_eqb id r (λ i. e (ap place (sym i) ∙ sym is))

  pub most_put : (r : ℕ) → min 16384 (if nat_eq id r then n else most_in known r) ≤ most_in (set known at (record { id = id; most = n })) r
  most_put r = elim (cases_eq (place r) at) [
    | inl e ↦ let p = put_at r e in elim (cases_Bool (nat_eq id r)) [
      | inl y ↦ let q = rw y at p in rw y (omega (arith, q))
      | inr y ↦ let q = rw y at p in rw y (omega (arith, q))
    ]
    | inr e ↦ let y = other_id r e in rw y (omega (arith, put_else r e))
  ]

  -- so many more of a region of which something is known
  pub most_raised : (k : Known) (more : ℕ) → k ≡ get_or known at k → k.id ≡ id → n ≡ min 16384 (k.most + more) → (r : ℕ)
      → min 16384 (most_in known r + (if nat_eq id r then more else 0)) ≤ most_in (set known at (record { id = id; most = n })) r
  most_raised k more here same e r = elim (cases_eq (place r) at) [
    | inl f ↦
        let p = put_at r f in
        elim (cases_Bool (nat_eq id r)) [
          | inl y ↦
              let q = rw y at p in
              let old = most_known known r at k (sym f) l here (same ∙ eqb-true id r y) in
              rw y (omega (arith, q, e, old))
          | inr y ↦ let q = rw y at p in rw y (omega (arith, q))
        ]
    | inr f ↦ let y = other_id r f in rw y (omega (arith, put_else r f))
  ]

-- nothing is known of a region
pub most_kept : (known : List Known) (id more r : ℕ) → 16384 ≡ most_in known id → min 16384 (most_in known r + (if nat_eq id r then more else 0)) ≤ most_in known r
most_kept known id more r e = elim (cases_Bool (nat_eq id r)) [
  | inl y ↦ let f : most_in known r ≡ 16384 = ap (most_in known) (sym (eqb-true id r y)) ∙ sym e in rw y (omega (arith, f))
  | inr y ↦ rw y (omega arith)
]

-- a region that was created more, of which it is known that none of its sections is dead
pub one_created : (ids : List ℕ) (i r before old new : ℕ) → i < length ids → (if is_id (take i ids) r then 0 else before) ≤ old → before ≤ 16384
    → min 16384 (if nat_eq (get_or ids i 0) r then 0 else old) ≤ new → (if is_id (take (i + 1) ids) r then 0 else before) ≤ new
one_created ids i r before old new l known few noted = go (is_id (take i ids) r) (nat_eq r (get_or ids i 0)) refl refl
  where
    go : (a b : Bool) → is_id (take i ids) r ≡ a → nat_eq r (get_or ids i 0) ≡ b → (if is_id (take (i + 1) ids) r then 0 else before) ≤ new
    go true b e f = let more : is_id (take (i + 1) ids) r ≡ true = list_any_more (nat_eq r) ids i 0 l ∙ ap (λ x. x || nat_eq r (get_or ids i 0)) e in rw more (omega arith)
    go false true e f = let more : is_id (take (i + 1) ids) r ≡ true = list_any_more (nat_eq r) ids i 0 l ∙ ap (λ x. x || nat_eq r (get_or ids i 0)) e ∙ f in rw more (omega arith)
    go false false e f =
        let more : is_id (take (i + 1) ids) r ≡ false = list_any_more (nat_eq r) ids i 0 l ∙ ap (λ x. x || nat_eq r (get_or ids i 0)) e ∙ f in
        let other : nat_eq (get_or ids i 0) r ≡ false = ne_eqb (get_or ids i 0) r (λ x. true≢false (sym (eq-eqb r (get_or ids i 0) (sym x)) ∙ f)) in
        let a = rw e at known in
        let b = rw other at noted in
        rw more (omega (arith, a, b, few))

-- ids that are all the same
pub count_alike : (xs : List ℕ) (x r : ℕ) → ((k d : ℕ) → k < length xs → get_or xs k d ≡ x) → count_by (λ id. nat_eq id r) xs ≡ (if nat_eq x r then length xs else 0)
count_alike [] x r same = elim (cases_Bool (nat_eq x r)) [ inl y ↦ rw y refl | inr y ↦ rw y refl ]
count_alike (y ∷ xs) x r same =
    let first : y ≡ x = same 0 0 (omega arith) in
    let step = count_by-cons (λ id. nat_eq id r) y xs in
    let rest = count_alike xs x r (λ k d l. same (suc k) d (omega arith)) in
    elim (cases_Bool (nat_eq x r)) [
      | inl h ↦ let one : nat_eq y r ≡ true = ap (λ i. nat_eq i r) first ∙ h in let others = rw h at rest in rw h (omega (arith, step, ap (λ b. cond {A = ℕ} b 1 0) one, others))
      | inr h ↦ let one : nat_eq y r ≡ false = ap (λ i. nat_eq i r) first ∙ h in let others = rw h at rest in rw h (omega (arith, step, ap (λ b. cond {A = ℕ} b 1 0) one, others))
    ]

pub first_into : (merges : List MergePair) (t : ℕ) (us : List ℕ) (d : MergePair) → merges ≡ into t us → 0 < length merges → (get_or merges 0 d).into ≡ t
first_into merges t [] d e l = absurd (omega (arith, ap length e))
first_into merges t (u ∷ us) d e l = rw e refl
