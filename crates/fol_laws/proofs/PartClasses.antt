-- The parts of a release are the classes of its remaining sections under paths.
use Rattle.std.proofs.Common.{◌≡◌, ℕ, zero, suc, ◌<◌, refl, sym, ◌∙◌, ap, arith, Bool, true, inl, inr, ◌&&◌, List, [], ◌∷◌, ◌++◌, length, get_or}
use Rattle.std.specs.List.{position_or_len}
use Rattle.std.proofs.lemmas.Bool.{cases_order, or_cases, and_parts}
use Rattle.fol_model.specs.declared.places.SectionPos.{SectionPos}
use Rattle.fol_model.specs.declared.regions.State.TheVariants.{Ticking}
use Rattle.fol_model.specs.Geometry.{same_section}
use Rattle.fol_model.specs.Universe.{all_sections}
use Rattle.fol_model.specs.GridState.{GridState}
use Rattle.fol_model.specs.Counting.{count_below}
use Rattle.fol_model.specs.Release.{remains, is_beside, part_of, leader, is_leader, is_linked, through}
use Rattle.fol_model.specs.Rules.{Rules}
use Rattle.fol_laws.specs.Parts.{IsPath, PartsAreClasses}
use Rattle.fol_laws.proofs.SamePlaces.{same_section-true}
use Rattle.fol_laws.proofs.Linked.{through_self, through_swap, linked_trans, same_leader, through_beside, leader_is, leader_below}
use Rattle.fol_laws.proofs.CountBelow.{count_below-lt}
use Rattle.std.proofs.lemmas.List.Sums.{passes_at_first}
use Rattle.fol_laws.proofs.Joins as joins

get_or_in : (xs : List SectionPos) (i : ℕ) → i < length xs → (d e : SectionPos) → get_or xs i d ≡ get_or xs i e
get_or_in [] i l d e = absurd (omega arith)
get_or_in (x ∷ xs) zero l d e = refl
get_or_in (x ∷ xs) (suc i) l d e = get_or_in xs i (omega arith) d e

position-passes : (p : SectionPos → Bool) (xs : List SectionPos) → position_or_len p xs < length xs → (x : SectionPos) × (get_or xs (position_or_len p xs) x ≡ x) × (p x ≡ true)
position-passes p xs l = elim xs as (λ ys. ys ≡ xs → (x : SectionPos) × (get_or xs (position_or_len p xs) x ≡ x) × (p x ≡ true)) [
  | [] ↦ λ e. absurd (let k : length xs ≡ 0 = ap length (sym e) in omega arith)
  | (d ∷ ys) ↦ λ e. (get_or xs (position_or_len p xs) d, get_or_in xs _ l _ d, passes_at_first p xs d l)
] refl

same_place : (xs : List SectionPos) (i j : ℕ) (x y : SectionPos) → i ≡ j → i < length xs → get_or xs i x ≡ x → get_or xs j y ≡ y → x ≡ y
same_place xs i j x y e l p q = sym p ∙ get_or_in xs i l x y ∙ ap (λ k. get_or xs k y) e ∙ q

module _ (g : GridState) (t : ℕ) (rules : Rules g) (ticks : g.state t ≡ Ticking) where
  path_linked : (ms : List SectionPos) (a b : SectionPos) → IsPath g t a ms b → is_linked g t a b ≡ true
  path_linked [] a b e = rw e (through_self g t all_sections b)
  path_linked (m ∷ ms) a b h =
      let r = and_parts (remains g t a) (remains g t m) (and_parts (remains g t a && remains g t m) _ h.0).0 in
      linked_trans g t m a b (joins.remains_in g t rules ticks m r.1) (through_beside g t all_sections a m h.0) (path_linked ms m b h.1)

  join_paths : (ms ns : List SectionPos) (a b c : SectionPos) → IsPath g t a ms b → IsPath g t b ns c → IsPath g t a (ms ++ ns) c
  join_paths [] ns a b c p q = rw p q
  join_paths (m ∷ ms) ns a b c p q = (p.0, join_paths ms ns m b c p.1 q)

  through_path : (ks : List SectionPos) (a b : SectionPos) → through g t ks a b ≡ true → (ms : List SectionPos) × IsPath g t a ms b
  unfolding through
  through_path [] a b h = elim (or_cases (same_section a b) (is_beside g t a b) h) [
    | inl e ↦ ([], same_section-true a b e)
    | inr e ↦ (b ∷ [], (e, refl))
  ]
  through_path (k ∷ ks) a b h = elim (or_cases (through g t ks a b) (through g t ks a k && through g t ks k b) h) [
    | inl e ↦ through_path ks a b e
    | inr e ↦ let x = and_parts (through g t ks a k) (through g t ks k b) e in
        let p = through_path ks a k x.0 in let q = through_path ks k b x.1 in (p.0 ++ q.0, join_paths p.0 q.0 a k b p.1 q.1)
  ]

  -- one place of the least section: linked
  leader_linked : (a b : SectionPos) → remains g t a ≡ true → remains g t b ≡ true → leader g t a ≡ leader g t b → is_linked g t a b ≡ true
  unfolding leader
  leader_linked a b ra rb e =
      let x = position-passes (λ q. remains g t q && is_linked g t q a) all_sections (leader_below g t a (joins.remains_in g t rules ticks a ra) ra) in
      let y = position-passes (λ q. remains g t q && is_linked g t q b) all_sections (leader_below g t b (joins.remains_in g t rules ticks b rb) rb) in
      let same : x.0 ≡ y.0 = same_place all_sections (leader g t a) (leader g t b) x.0 y.0 e (leader_below g t a (joins.remains_in g t rules ticks a ra) ra) x.1 y.1 in
      let px = and_parts (remains g t x.0) (is_linked g t x.0 a) x.2 in
      let py = and_parts (remains g t y.0) (is_linked g t y.0 b) y.2 in
      let to_b : is_linked g t x.0 b ≡ true = rw same py.1 in
      linked_trans g t x.0 a b (joins.remains_in g t rules ticks x.0 px.0) (through_swap g t all_sections x.0 a px.1) to_b

  same_part_leader : (a b : SectionPos) → remains g t a ≡ true → remains g t b ≡ true → part_of g t a ≡ part_of g t b → leader g t a ≡ leader g t b
  unfolding part_of
  same_part_leader a b ra rb e = elim (cases_order (leader g t a) (leader g t b)) [
    | inl s ↦ s
    | inr h ↦ elim h [
      | inl l ↦ let k = count_below-lt (is_leader g t) (leader g t a) (leader g t b) l (leader_is g t a (joins.remains_in g t rules ticks a ra) ra) in absurd (omega arith)
      | inr l ↦ let k = count_below-lt (is_leader g t) (leader g t b) (leader g t a) l (leader_is g t b (joins.remains_in g t rules ticks b rb) rb) in absurd (omega arith)
    ]
  ]

  part_of_leader : (a b : SectionPos) → leader g t a ≡ leader g t b → part_of g t a ≡ part_of g t b
  unfolding part_of
  part_of_leader a b e = ap (count_below (is_leader g t)) e

  pub parts_are_classes : PartsAreClasses g t
  parts_are_classes a b ra rb = (
    (λ e. through_path all_sections a b (leader_linked a b ra rb (same_part_leader a b ra rb e))),
    (λ p. part_of_leader a b (same_leader g t a b (joins.remains_in g t rules ticks a ra) (joins.remains_in g t rules ticks b rb) (path_linked p.0 a b p.1))),
  )
