-- Members of lists of sections, and lists in order.
use Rattle.std.proofs.Common.{◌≡◌, ℕ, suc, ◌<◌, sym, ◌∙◌, arith, true, false, ◌||◌, inl, inr, List, [], ◌∷◌, ◌++◌, length, get_or}
use Rattle.std.specs.List.{All, AllByRecursion, IsDistinct}
use Rattle.std.specs.List.Sorted.{IsStrictlySortedBy}
use Rattle.std.specs.declared.cmp.Ordering.TheVariants.{Less}
use Rattle.std.proofs.lemmas.Bool.{cases_Bool, or_cases, or_left, or_right, true≢false}
use Rattle.std.proofs.lemmas.List.Folds.{list_any-append, list_any_at}
use Rattle.fol_model.specs.declared.places.SectionPos.{SectionPos}
use Rattle.fol_model.specs.Geometry.{same_section, is_among}
use Rattle.fol_model.specs.Universe.{section_cmp}
use Rattle.fol_model.proofs.PlaceKeys.{same_section-true, same_section-self}
use Rattle.fol_split.proofs.Places.{less_not_same}

pub all_at : (P : SectionPos → Type 0) (xs : List SectionPos) (t : SectionPos) → AllByRecursion P xs → is_among xs t ≡ true → P t
all_at P [] t h e = absurd (true≢false (sym e))
all_at P (x ∷ xs) t h e = elim (or_cases (same_section t x) (is_among xs t) e) [
  | inl s ↦ let k = same_section-true t x s in rw k h.0
  | inr r ↦ all_at P xs t h.1 r
]

pub all_from : (P : SectionPos → Type 0) (xs : List SectionPos) → ((t : SectionPos) → is_among xs t ≡ true → P t) → AllByRecursion P xs
all_from P [] h = tt
all_from P (x ∷ xs) h = (h x (or_left _ _ (same_section-self x)), all_from P xs (λ t e. h t (or_right (same_section t x) _ e)))

pub at_index : (xs : List SectionPos) (s : SectionPos) → is_among xs s ≡ true → (k : ℕ) × (k < length xs) × ((d : SectionPos) → get_or xs k d ≡ s)
at_index [] s h = absurd (true≢false (sym h))
at_index (x ∷ xs) s h = elim (or_cases (same_section s x) (is_among xs s) h) [
  | inl e ↦ (0, omega arith, λ d. sym (same_section-true s x e))
  | inr e ↦ let k = at_index xs s e in (suc k.0, omega (arith, k.1), k.2)
]

pub all_among : (P : SectionPos → Type 0) (xs : List SectionPos) (s : SectionPos) → All P xs → is_among xs s ≡ true → P s
all_among P xs s all h = let k = at_index xs s h in let e = k.2 s in let p = all k.0 s k.1 in rw e at p

pub among_at : (xs : List SectionPos) (k : ℕ) (d : SectionPos) → k < length xs → is_among xs (get_or xs k d) ≡ true
among_at xs k d l = list_any_at (same_section (get_or xs k d)) xs k d l (same_section-self (get_or xs k d))

module _ (xs ys : List SectionPos) (s : SectionPos) where
  pub among-append : is_among (xs ++ ys) s ≡ (is_among xs s || is_among ys s)
  among-append = list_any-append (same_section s) xs ys

  pub among_front : is_among xs s ≡ true → is_among (xs ++ ys) s ≡ true
  among_front h = among-append ∙ or_left (is_among xs s) _ h

  pub among_back : is_among ys s ≡ true → is_among (xs ++ ys) s ≡ true
  among_back h = among-append ∙ or_right (is_among xs s) _ h

-- ---- two lists in order, one behind the other
pub sorted-front : (xs ys : List SectionPos) → IsStrictlySortedBy section_cmp (xs ++ ys) → IsStrictlySortedBy section_cmp xs
unfolding IsStrictlySortedBy
sorted-front [] ys h = tt
sorted-front (x ∷ xs) ys h = (all_from (λ y. section_cmp x y ≡ Less) xs (λ t e. all_at (λ y. section_cmp x y ≡ Less) (xs ++ ys) t h.0 (among_front xs ys t e)), sorted-front xs ys h.1)

pub sorted-back : (xs ys : List SectionPos) → IsStrictlySortedBy section_cmp (xs ++ ys) → IsStrictlySortedBy section_cmp ys
unfolding IsStrictlySortedBy
sorted-back [] ys h = h
sorted-back (x ∷ xs) ys h = sorted-back xs ys h.1

pub sorted-across : (xs ys : List SectionPos) (s t : SectionPos) → IsStrictlySortedBy section_cmp (xs ++ ys) → is_among xs s ≡ true → is_among ys t ≡ true → section_cmp s t ≡ Less
unfolding IsStrictlySortedBy
sorted-across [] ys s t h p q = absurd (true≢false (sym p))
sorted-across (x ∷ xs) ys s t h p q = elim (or_cases (same_section s x) (is_among xs s) p) [
  | inl e ↦ let k = same_section-true s x e in rw k (all_at (λ y. section_cmp x y ≡ Less) (xs ++ ys) t h.0 (among_back xs ys t q))
  | inr e ↦ sorted-across xs ys s t h.1 e q
]

pub sorted-join : (xs ys : List SectionPos) → IsStrictlySortedBy section_cmp xs → IsStrictlySortedBy section_cmp ys
    → ((s t : SectionPos) → is_among xs s ≡ true → is_among ys t ≡ true → section_cmp s t ≡ Less) → IsStrictlySortedBy section_cmp (xs ++ ys)
unfolding IsStrictlySortedBy
sorted-join [] ys h k across = k
sorted-join (x ∷ xs) ys h k across = (
  all_from (λ y. section_cmp x y ≡ Less) (xs ++ ys) (λ t e. elim (or_cases (is_among xs t) (is_among ys t) (sym (among-append xs ys t) ∙ e)) [
    | inl l ↦ all_at (λ y. section_cmp x y ≡ Less) xs t h.0 l
    | inr r ↦ across x t (or_left _ _ (same_section-self x)) r
  ]),
  sorted-join xs ys h.1 k (λ s t p q. across s t (or_right (same_section s x) _ p) q),
)

-- ---- distinct lists
pub sorted-distinct : (xs : List SectionPos) → IsStrictlySortedBy section_cmp xs → IsDistinct same_section xs
unfolding IsStrictlySortedBy IsDistinct
sorted-distinct [] h = tt
sorted-distinct (x ∷ xs) h = (
  all_from (λ y. same_section x y ≡ false) xs (λ t e. elim (cases_Bool (same_section x t)) [
    | inl s ↦ absurd (less_not_same x t (all_at (λ y. section_cmp x y ≡ Less) xs t h.0 e) s)
    | inr f ↦ f
  ]),
  sorted-distinct xs h.1,
)

pub distinct-join : (xs ys : List SectionPos) → IsDistinct same_section xs → IsDistinct same_section ys
    → ((t : SectionPos) → is_among xs t ≡ true → is_among ys t ≡ true → ⊥) → IsDistinct same_section (xs ++ ys)
unfolding IsDistinct
distinct-join [] ys h k apart = k
distinct-join (x ∷ xs) ys h k apart = (
  all_from (λ y. same_section x y ≡ false) (xs ++ ys) (λ t e. elim (or_cases (is_among xs t) (is_among ys t) (sym (among-append xs ys t) ∙ e)) [
    | inl l ↦ all_at (λ y. same_section x y ≡ false) xs t h.0 l
    | inr r ↦ elim (cases_Bool (same_section x t)) [
      | inl s ↦ let q = same_section-true x t s in absurd (apart x (or_left _ _ (same_section-self x)) (rw q r))
      | inr f ↦ f
    ]
  ]),
  distinct-join xs ys h.1 k (λ t p q. apart t (or_right (same_section t x) _ p) q),
)
