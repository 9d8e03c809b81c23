-- The sections that stay are linked in classes, and each class has a part.
use Rattle.std.proofs.Common.{◌≡◌, ℕ, ◌≤◌, ◌<◌, refl, sym, ◌∙◌, ap, arith, Bool, true, false, inl, inr, ◌&&◌, not, List, [], ◌∷◌, length}
use Rattle.std.specs.Prelude.{nat_eq}
use Rattle.std.specs.List.{list_any, position_or_len}
use Rattle.std.proofs.Math.Path.{fun_ext}
use Rattle.std.proofs.lemmas.Bool.{cases_Bool, or_cases, or_left, or_right, true≢false, and_parts, and_from, eqb-true, eq-eqb, leb-true, le-leb, not_from_true, not_from_false}
use Rattle.fol_model.specs.declared.places.SectionPos.{SectionPos}
use Rattle.fol_model.specs.Geometry.{distance, is_section, same_section, is_within}
use Rattle.fol_model.specs.Universe.{all_sections}
use Rattle.fol_model.specs.GridState.{GridState}
use Rattle.fol_model.specs.Counting.{count_below}
use Rattle.fol_model.specs.Release.{remains, is_beside, through, is_linked, leader, is_leader, parts, part_of}
use Rattle.fol_laws.proofs.Distances.{distance_swap}
use Rattle.fol_laws.proofs.SamePlaces.{same_section-true, same_section-self}
use Rattle.fol_laws.proofs.Tests.{same_answer}
use Rattle.fol_laws.proofs.AllSections.{some_section-is, some_section-gives}
use Rattle.fol_laws.proofs.CountBelow.{count_below-at, count_below-lt}

-- ---- places in a list
pub position-below : (p : SectionPos → Bool) (xs : List SectionPos) → list_any p xs ≡ true → position_or_len p xs < length xs
position-below p [] h = absurd (true≢false (sym h))
position-below p (x ∷ xs) h = elim (cases_Bool (p x)) [
  | inl e ↦ let f : not (p x) ≡ false = not_from_true _ e in rw f (omega arith)
  | inr e ↦ let f : not (p x) ≡ true = not_from_false _ e in let k = position-below p xs (rw e at h) in rw f (omega arith)
]

module _ (g : GridState) (t : ℕ) where
  beside_swap : (a b : SectionPos) → is_beside g t a b ≡ true → is_beside g t b a ≡ true
  beside_swap a b h =
      let x = and_parts (remains g t a && remains g t b) (is_within a g.grid.merge b) h in
      let y = and_parts (remains g t a) (remains g t b) x.0 in
      let d : distance a b ≤ g.grid.merge = leb-true _ _ x.1 in
      and_from _ _ (and_from _ _ y.1 y.0) (le-leb (distance b a) g.grid.merge (rw distance_swap d))

  pub through_self : (ms : List SectionPos) (a : SectionPos) → through g t ms a a ≡ true
  unfolding through
  through_self [] a = or_left _ _ (same_section-self a)
  through_self (m ∷ ms) a = or_left _ _ (through_self ms a)

  pub through_beside : (ms : List SectionPos) (a b : SectionPos) → is_beside g t a b ≡ true → through g t ms a b ≡ true
  unfolding through
  through_beside [] a b h = or_right _ _ h
  through_beside (m ∷ ms) a b h = or_left _ _ (through_beside ms a b h)

  pub through_swap : (ms : List SectionPos) (a b : SectionPos) → through g t ms a b ≡ true → through g t ms b a ≡ true
  unfolding through
  through_swap [] a b h = elim (or_cases (same_section a b) (is_beside g t a b) h) [
    | inl e ↦ let s = same_section-true a b e in rw s (or_left _ _ (same_section-self b))
    | inr e ↦ or_right _ _ (beside_swap a b e)
  ]
  through_swap (m ∷ ms) a b h = elim (or_cases (through g t ms a b) (through g t ms a m && through g t ms m b) h) [
    | inl e ↦ or_left _ _ (through_swap ms a b e)
    | inr e ↦ let x = and_parts (through g t ms a m) (through g t ms m b) e in or_right _ _ (and_from _ _ (through_swap ms m b x.1) (through_swap ms a m x.0))
  ]

  -- to or from the section that is let in, nothing new is reached
  to_first : (m : SectionPos) (ms : List SectionPos) (a : SectionPos) → through g t (m ∷ ms) a m ≡ true → through g t ms a m ≡ true
  unfolding through
  to_first m ms a h = elim (or_cases (through g t ms a m) (through g t ms a m && through g t ms m m) h) [ inl e ↦ e | inr e ↦ (and_parts _ (through g t ms m m) e).0 ]

  from_first : (m : SectionPos) (ms : List SectionPos) (b : SectionPos) → through g t (m ∷ ms) m b ≡ true → through g t ms m b ≡ true
  unfolding through
  from_first m ms b h = elim (or_cases (through g t ms m b) (through g t ms m m && through g t ms m b) h) [ inl e ↦ e | inr e ↦ (and_parts (through g t ms m m) _ e).1 ]

  pub through_trans : (ms : List SectionPos) (v a b : SectionPos) → list_any (same_section v) ms ≡ true → through g t ms a v ≡ true → through g t ms v b ≡ true → through g t ms a b ≡ true
  unfolding through
  through_trans [] v a b i p q = absurd (true≢false (sym i))
  through_trans (m ∷ ms) v a b i p q = elim (or_cases (same_section v m) (list_any (same_section v) ms) i) [
    | inl e ↦ let s = same_section-true v m e in
        or_right (through g t ms a b) _ (and_from _ _ (to_first m ms a (rw s at p)) (from_first m ms b (rw s at q)))
    | inr e ↦ elim (or_cases (through g t ms a v) (through g t ms a m && through g t ms m v) p) [
      | inl x ↦ elim (or_cases (through g t ms v b) (through g t ms v m && through g t ms m b) q) [
        | inl y ↦ or_left _ _ (through_trans ms v a b e x y)
        | inr y ↦ let z = and_parts (through g t ms v m) (through g t ms m b) y in or_right _ _ (and_from _ _ (through_trans ms v a m e x z.0) z.1)
      ]
      | inr x ↦ let w = and_parts (through g t ms a m) (through g t ms m v) x in
          elim (or_cases (through g t ms v b) (through g t ms v m && through g t ms m b) q) [
            | inl y ↦ or_right _ _ (and_from _ _ w.0 (through_trans ms v m b e w.1 y))
            | inr y ↦ let z = and_parts (through g t ms v m) (through g t ms m b) y in or_right _ _ (and_from _ _ w.0 z.1)
          ]
    ]
  ]

  pub linked_trans : (v a b : SectionPos) → is_section v ≡ true → is_linked g t a v ≡ true → is_linked g t v b ≡ true → is_linked g t a b ≡ true
  linked_trans v a b l p q = through_trans all_sections v a b (some_section-is (same_section v) v l (same_section-self v)) p q

  pub same_leader : (a b : SectionPos) → is_section a ≡ true → is_section b ≡ true → is_linked g t a b ≡ true → leader g t a ≡ leader g t b
  unfolding leader
  same_leader a b la lb h =
      let one : (q : SectionPos) → (remains g t q && is_linked g t q a) ≡ (remains g t q && is_linked g t q b) = λ q.
      ap (λ x. remains g t q && x) (same_answer (is_linked g t q a) (is_linked g t q b) (λ k. linked_trans a q b la k h) (λ k. linked_trans b q a lb k (through_swap all_sections a b h))) in
      ap (λ (p : SectionPos → Bool). position_or_len p all_sections) (fun_ext one)

  module _ (s : SectionPos) (l : is_section s ≡ true) (r : remains g t s ≡ true) where
    pub leader_below : leader g t s < length all_sections
    unfolding leader
    leader_below = position-below _ all_sections (some_section-is (λ q. remains g t q && is_linked g t q s) s l (and_from _ _ r (through_self all_sections s)))

    pub leader_is : is_leader g t (leader g t s) ≡ true
    unfolding is_leader
    leader_is = some_section-is (λ q. remains g t q && nat_eq (leader g t q) (leader g t s)) s l (and_from _ _ r (eq-eqb _ _ refl))

    pub part_below : part_of g t s < parts g t
    unfolding part_of parts
    part_below = count_below-lt (is_leader g t) (leader g t s) (length all_sections) leader_below leader_is

  pub part_at : (i : ℕ) → i < parts g t → (s : SectionPos) × (is_section s ≡ true) × (remains g t s ≡ true) × (part_of g t s ≡ i)
  unfolding part_of parts is_leader
  part_at i l =
      let k = count_below-at (is_leader g t) (length all_sections) i l in
      let s = some_section-gives (λ s. remains g t s && nat_eq (leader g t s) k.0) k.2 in
      let both = and_parts (remains g t s.0) (nat_eq (leader g t s.0) k.0) s.2 in
      let e : leader g t s.0 ≡ k.0 = eqb-true _ _ both.1 in
      (s.0, s.1, both.0, ap (count_below (is_leader g t)) e ∙ k.3)

  pub same_part : (a b : SectionPos) → is_section a ≡ true → is_section b ≡ true → remains g t a ≡ true → remains g t b ≡ true → distance a b ≤ g.grid.merge → part_of g t a ≡ part_of g t b
  unfolding part_of
  same_part a b la lb ra rb d = ap (count_below (is_leader g t)) (same_leader a b la lb (through_beside all_sections a b (and_from _ _ (and_from _ _ ra rb) (le-leb _ _ d))))
