-- What becomes of the bags when regions join one region.
use Rattle.std.proofs.Common.{◌≡◌, ◌≢◌, ℕ, ◌≤◌, ◌<◌, refl, sym, ◌∙◌, ap, arith, Bool, true, false, inl, inr, ◌⊎◌, List, [], ◌∷◌, ◌++◌, ◌&&◌, max, filter}
use Rattle.std.specs.Prelude.{nat_eq}
use Rattle.std.specs.List.{AllByRecursion, list_any}
use Rattle.std.specs.List.Sorted.{IsStrictlySortedBy}
use Rattle.std.specs.Ordering.{nat_cmp}
use Rattle.std.specs.Cmp.{ranks}
use Rattle.std.specs.declared.cmp.Ordering.TheVariants.{Less}
use Rattle.std.proofs.lemmas.Bool.{cases_Bool, cases_lt, eqb-true, eqb-false, eq-eqb, ne_eqb, or_left, or_parts, or_cases, or_right, true≢false}
use Rattle.std.proofs.lemmas.List.Folds.{list_any-append}
use Rattle.fol_model.specs.ActionStep.{at_id}
use Rattle.fol_laws.proofs.FunctionsChanged.{at_here, at_other}
use Rattle.fol_regions.specs.Changes.{into}
use Rattle.fol_store.specs.Bag.{Bag, no_bag}
use Rattle.fol_world.specs.Bags.{CanJoin, joined_bag, joined_bags}

abbrev pub among : ℕ → List ℕ → Bool
among r us = list_any (nat_eq r) us

pub in_front : (r : ℕ) (xs ys : List ℕ) → among r xs ≡ true → among r (xs ++ ys) ≡ true
in_front r xs ys h = list_any-append (nat_eq r) xs ys ∙ or_left (among r xs) (among r ys) h

pub behind : (r : ℕ) (xs ys : List ℕ) → among r ys ≡ true → among r (xs ++ ys) ≡ true
behind r xs ys h = list_any-append (nat_eq r) xs ys ∙ or_right (among r xs) (among r ys) h

module _ (t u : ℕ) (f : ℕ → Bag) where
  abbrev one : ℕ → Bag
  one = joined_bag (record { «from» = u; into = t }) f

  one_other : (r : ℕ) → r ≢ t → r ≢ u → one r ≡ f r
  one_other r a b = at_other (at_id f u no_bag) t (record (f t) { owed = max (f t).owed (f u).owed; listed = false }) r a ∙ at_other f u no_bag r b

  one_gone : u ≢ t → one u ≡ no_bag
  one_gone d = at_other (at_id f u no_bag) t (record (f t) { owed = max (f t).owed (f u).owed; listed = false }) u d ∙ at_here f u no_bag

  one_into : one t ≡ record (f t) { owed = max (f t).owed (f u).owed; listed = false }
  one_into = at_here (at_id f u no_bag) t (record (f t) { owed = max (f t).owed (f u).owed; listed = false })

-- the regions us become part of t, and f becomes h
pub record JoinedInto (t : ℕ) (us : List ℕ) (f h : ℕ → Bag) : Type 0 where
  pub others : (r : ℕ) → r ≢ t → among r us ≡ false → h r ≡ f r
  pub gone : (r : ℕ) → r ≢ t → among r us ≡ true → h r ≡ no_bag
  pub here : (h t).here ≡ (f t).here
  pub taken : (h t).taken ≡ (f t).taken
  pub counter : (h t).tick ≡ (f t).tick
  pub chunks : (h t).chunks ≡ (f t).chunks
  pub since : (h t).since ≡ (f t).since
  pub own : (f t).owed ≤ (h t).owed
  pub theirs : (r : ℕ) → among r us ≡ true → (f r).owed ≤ (h t).owed
  pub some : ((h t).owed ≡ (f t).owed) ⊎ ((r : ℕ) × (among r us ≡ true) × ((h t).owed ≡ (f r).owed))
  pub listed : (h t).listed ≡ true → (us ≡ []) × ((f t).listed ≡ true)

max_cases : (a b : ℕ) → (max a b ≡ a) ⊎ (max a b ≡ b)
max_cases a b = elim (cases_lt a b) [ inl l ↦ inr (omega arith) | inr l ↦ inl (omega arith) ]

-- no number stands twice
abbrev pub Apart : List ℕ → Type 0
Apart [] = Unit {0}
Apart (u ∷ us) = (among u us ≡ false) × Apart us

below_none : (x : ℕ) (xs : List ℕ) → AllByRecursion (λ y. nat_cmp x y ≡ Less) xs → among x xs ≡ false
below_none x [] h = refl
below_none x (y ∷ ys) h =
    let e = ranks x y in
    let l : x < y = rw h.0 at e in
    let z : nat_eq x y ≡ false = ne_eqb _ _ (λ s. omega arith) in
    rw z (below_none x ys h.1)

pub sorted_apart : (xs : List ℕ) → IsStrictlySortedBy nat_cmp xs → Apart xs
unfolding IsStrictlySortedBy
sorted_apart [] h = tt
sorted_apart (x ∷ xs) h = (below_none x xs h.0, sorted_apart xs h.1)

module _ (t : ℕ) where
  pub joined_into : (us : List ℕ) (f : ℕ → Bag) → among t us ≡ false → Apart us → JoinedInto t us f (joined_bags (into t us) f)
  joined_into [] f d a = record {
    others = λ r n m. refl;
    gone = λ r n m. absurd (true≢false (sym m));
    here = refl;
    taken = refl;
    counter = refl;
    chunks = refl;
    since = refl;
    own = omega arith;
    theirs = λ r m. absurd (true≢false (sym m));
    some = inl refl;
    listed = λ w. (refl, w);
  }
  joined_into (u ∷ us) f d a =
      let n = or_parts (nat_eq t u) (among t us) d in
      let ut : u ≢ t = λ e. eqb-false t u n.0 (sym e) in
      let g : ℕ → Bag = joined_bag (record { «from» = u; into = t }) f in
      let k = joined_into us g n.1 a.1 in
      let at : g t ≡ record (f t) { owed = max (f t).owed (f u).owed; listed = false } = one_into t u f in
      let owed : (g t).owed ≡ max (f t).owed (f u).owed = ap (λ (b : Bag). b.owed) at in
      let same : (r : ℕ) → among r us ≡ true → g r ≡ f r = λ r m. one_other t u f r (λ e. true≢false (sym m ∙ rw e n.1)) (λ e. true≢false (sym m ∙ rw e a.0)) in
      record {
        others = λ r rt m. let p = or_parts (nat_eq r u) (among r us) m in k.others r rt p.1 ∙ one_other t u f r rt (eqb-false r u p.0);
        gone = λ r rt m. elim (or_cases (nat_eq r u) (among r us) m) [
          | inl e ↦ let same : r ≡ u = eqb-true r u e in rw same (k.others u ut a.0 ∙ one_gone t u f ut)
          | inr e ↦ k.gone r rt e
        ];
        here = k.here ∙ ap (λ (b : Bag). b.here) at;
        taken = k.taken ∙ ap (λ (b : Bag). b.taken) at;
        counter = k.counter ∙ ap (λ (b : Bag). b.tick) at;
        chunks = k.chunks ∙ ap (λ (b : Bag). b.chunks) at;
        since = k.since ∙ ap (λ (b : Bag). b.since) at;
        own = omega (arith, k.own, owed);
        theirs = λ r m. elim (or_cases (nat_eq r u) (among r us) m) [
          | inl e ↦ let same : r ≡ u = eqb-true r u e in rw same (omega (arith, k.own, owed))
          | inr e ↦ let z : (g r).owed ≡ (f r).owed = ap (λ (b : Bag). b.owed) (same r e) in omega (arith, k.theirs r e)
        ];
        some = elim k.some [
          | inl e ↦ elim (max_cases (f t).owed (f u).owed) [
            | inl m ↦ inl (e ∙ owed ∙ m)
            | inr m ↦ inr (u, (let z : nat_eq u u ≡ true = eq-eqb u u refl in rw z refl), e ∙ owed ∙ m)
          ]
          | inr x ↦ inr (x.0, or_right (nat_eq x.0 u) (among x.0 us) x.1, x.2 ∙ ap (λ (b : Bag). b.owed) (same x.0 x.1))
        ];
        listed = λ w. let z = k.listed w in absurd (true≢false (sym z.1 ∙ ap (λ (b : Bag). b.listed) at));
      }

  pub can_join : (us : List ℕ) (f : ℕ → Bag) → among t us ≡ false → Apart us → (f t).here ≡ true → ((r : ℕ) → among r us ≡ true → (f r).here ≡ true) → CanJoin (into t us) f
  can_join [] f d a h hs = tt
  can_join (u ∷ us) f d a h hs =
      let n = or_parts (nat_eq t u) (among t us) d in
      let ut : u ≢ t = λ e. eqb-false t u n.0 (sym e) in
      let z : nat_eq u u ≡ true = eq-eqb u u refl in
      let at = one_into t u f in (
        hs u (rw z refl),
        h,
        ut,
        can_join us (joined_bag (record { «from» = u; into = t }) f) n.1 a.1 (ap (λ (b : Bag). b.here) at ∙ h)
            (λ r m. ap (λ (b : Bag). b.here) (one_other t u f r (λ e. true≢false (sym m ∙ rw e n.1)) (λ e. true≢false (sym m ∙ rw e a.0))) ∙ hs r (or_right (nat_eq r u) (among r us) m)),
      )

pub in_filter : (p : ℕ → Bool) (xs : List ℕ) (k : ℕ) → among k (filter p xs) ≡ (p k && among k xs)
in_filter p [] k = elim (cases_Bool (p k)) [ inl e ↦ rw e refl | inr e ↦ rw e refl ]
in_filter p (x ∷ xs) k = let i = in_filter p xs k in elim (cases_Bool (nat_eq k x)) [
  | inl e ↦ let same : k ≡ x = eqb-true k x e in elim (cases_Bool (p x)) [
    | inl q ↦ let pk : p k ≡ true = rw same q in rw (q, e, pk) refl
    | inr q ↦ let pk : p k ≡ false = rw same q in rw (q, e, pk) (rw pk at i)
  ]
  | inr e ↦ elim (cases_Bool (p x)) [ inl q ↦ rw (q, e) i | inr q ↦ rw (q, e) i ]
]
