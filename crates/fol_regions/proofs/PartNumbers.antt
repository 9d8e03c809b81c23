-- The parts that a splitter finds of the sections that stay are the parts of the release, in their order.
use Rattle.std.proofs.Common.{◌≡◌, ℕ, zero, suc, ◌+◌, ◌-◌, ◌≤◌, ◌<◌, sym, ◌∙◌, ap, arith, Bool, true, inl, inr, ◌⊎◌, ◌&&◌, List, [], ◌∷◌, length, get_or}
use Rattle.std.specs.Prelude.{◌≢◌, pos}
use Rattle.std.specs.List.{list_any}
use Rattle.std.specs.List.Sorted.{IsStrictlySortedBy}
use Rattle.std.specs.Ordering.{on, ordering_reverse}
use Rattle.std.specs.declared.cmp.Ordering.TheVariants.{Less}
use Rattle.std.proofs.lemmas.Bool.{cases_order, cases_lt, cases_eq, and_parts, and_from, or_left, or_cases, true≢false}
use Rattle.std.proofs.lemmas.Map.Keys.{Less-from_sorted}
use Rattle.std.proofs.lemmas.List.{get_or_default}
use Rattle.std.proofs.lemmas.List.Sums.{passes_at_first, fails_before_first}
use Rattle.fol_model.specs.declared.places.SectionPos.{SectionPos}
use Rattle.fol_model.specs.declared.regions.State.TheVariants.{Ticking}
use Rattle.fol_model.specs.Geometry.{is_section, is_within, same_section, is_among}
use Rattle.fol_model.specs.Universe.{all_sections, section_cmp}
use Rattle.fol_model.specs.GridState.{GridState}
use Rattle.fol_model.specs.Counting.{count_below}
use Rattle.fol_model.specs.Release.{remains, is_linked, leader, is_leader, parts, part_of}
use Rattle.fol_model.specs.Rules.{Rules}
use Rattle.fol_laws.specs.Parts.{IsPath}
use Rattle.fol_laws.proofs.SamePlaces.{same_section-self}
use Rattle.fol_laws.proofs.CountBelow.{count_below-lt}
use Rattle.fol_laws.proofs.Linked.{part_at, part_below, leader_below, leader_is, same_leader, through_self}
use Rattle.fol_laws.proofs.SectionOrder.{sections_sorted}
use Rattle.fol_laws.proofs.AllSections.{some_section-is}
use Rattle.fol_laws.proofs.PartClasses.{parts_are_classes}
use Rattle.fol_laws.proofs.Joins.{remains_in}
use Rattle.fol_split.specs.Parts.{least_of, ArePartsOf, IsPart, IsChain}
use Rattle.fol_split.proofs.Members.{at_index}
use Rattle.fol_model.proofs.PlaceKeys.{section_cmp_total}

abbrev origin : SectionPos
origin = record { x = pos 0; z = pos 0 }

-- ---- numbers that rise and leave none out
-- each number below n is one of the k numbers f, which rise and are below n: then they are 0, 1, 2, ..
module _ (f : ℕ → ℕ) (k n : ℕ) (rises : (i : ℕ) → i + 1 < k → f i < f (i + 1)) (below : (i : ℕ) → i < k → f i < n)
    (reached : (j : ℕ) → j < n → (i : ℕ) × (i < k) × (f i ≡ j)) where
  rises_far : (i d : ℕ) → i + d < k → f i + d ≤ f (i + d)
  rises_far i zero l = let e : i + 0 ≡ i = omega arith in rw e (omega arith)
  rises_far i (suc d) l =
      let h = rises_far i d (omega arith) in
      let s = rises (i + d) (omega arith) in
      let e : i + suc d ≡ i + d + 1 = omega arith in
      rw e (omega arith)

  high : (i : ℕ) → i < k → i ≤ f i
  high i l = let e : 0 + i ≡ i = omega arith in let h : f 0 + i ≤ f (0 + i) = rises_far 0 i (omega arith) in let g : f 0 + i ≤ f i = rw e at h in omega arith

  number_below : (m i : ℕ) → i < m → i < k → f i ≡ i
  number_below zero i l b = absurd (omega arith)
  number_below (suc m) i l b =
      let h = high i b in
      let r = reached i (omega (arith, below i b)) in
      let j = r.0 in
      let jl : j < k = r.1 in
      let e : f j ≡ i = r.2 in
      elim (cases_lt j i) [
        | inl low ↦ let w = number_below m j (omega arith) jl in absurd (omega arith)
        | inr up ↦ let d = rises_far i (j - i) (omega arith) in let s : i + (j - i) ≡ j = omega arith in let x : f i + (j - i) ≤ f j = rw s at d in omega arith
      ]

  pub number_is : (i : ℕ) → i < k → f i ≡ i
  number_is i l = number_below k i l l

  pub count_is : k ≡ n
  count_is = elim (cases_order k n) [
    | inl e ↦ e
    | inr h ↦ elim h [
      | inl less ↦ let r = reached k less in let e = number_is r.0 r.1 in absurd (omega (arith, r.1, r.2))
      | inr more ↦ let e = number_is n more in absurd (omega (arith, below n more))
    ]
  ]

-- ---- lists of sections
pub first_among : (xs : List SectionPos) → 0 < length xs → is_among xs (least_of xs) ≡ true
first_among [] l = absurd (omega arith)
first_among (x ∷ xs) l = or_left _ _ (same_section-self x)

pub first_least : (xs : List SectionPos) (s : SectionPos) → IsStrictlySortedBy section_cmp xs → is_among xs s ≡ true → (s ≡ least_of xs) ⊎ (section_cmp (least_of xs) s ≡ Less)
first_least xs s up h =
    let k = at_index xs s h in
    let at = k.2 origin in
    elim (cases_eq k.0 0) [
      | inl z ↦ inl (sym at ∙ ap (λ n. get_or xs n origin) z)
      | inr n ↦ let less = Less-from_sorted section_cmp xs 0 k.0 origin up (omega (arith, n)) k.1 in inr (rw at at less)
    ]

pub not_both : (a b : SectionPos) → section_cmp a b ≡ Less → section_cmp b a ≡ Less → ⊥
not_both a b h k = let t = section_cmp_total.antisymm a b in let f : Less ≡ ordering_reverse Less = rw (h, k) at t in cc

module _ (g : GridState) (t : ℕ) (rules : Rules g) (ticks : g.state t ≡ Ticking) where
  stays_in : (s : SectionPos) → remains g t s ≡ true → is_section s ≡ true
  stays_in = remains_in g t rules ticks

  part_by_leader : (a b : SectionPos) → leader g t a ≡ leader g t b → part_of g t a ≡ part_of g t b
  unfolding part_of
  part_by_leader a b e = ap (count_below (is_leader g t)) e

  part_before : (a b : SectionPos) → remains g t a ≡ true → leader g t a < leader g t b → part_of g t a < part_of g t b
  unfolding part_of
  part_before a b ra l = count_below-lt (is_leader g t) (leader g t a) (leader g t b) l (leader_is g t a (stays_in a ra) ra)

  -- the section at the leader's place
  record Led (a : SectionPos) : Type 0 where
    pub by : SectionPos
    pub at : (d : SectionPos) → get_or all_sections (leader g t a) d ≡ by
    pub stays : remains g t by ≡ true
    pub same : part_of g t by ≡ part_of g t a
    pub first : (k : ℕ) (d : SectionPos) → k < leader g t a → get_or all_sections k d ≢ a

  led : (a : SectionPos) → remains g t a ≡ true → Led a
  unfolding leader
  led a ra =
      let below = leader_below g t a (stays_in a ra) ra in
      let passes : (SectionPos → Bool) = λ q. remains g t q && is_linked g t q a in
      let x : SectionPos = get_or all_sections (leader g t a) origin in
      let p = and_parts (remains g t x) (is_linked g t x a) (passes_at_first passes all_sections origin below) in
      record {
        by = x;
        at = λ d. get_or_default all_sections (leader g t a) d origin below;
        stays = p.0;
        same = part_by_leader x a (same_leader g t x a (stays_in x p.0) (stays_in a ra) p.1);
        first = λ k d l e. let no = fails_before_first passes all_sections k d l in
            let yes : passes a ≡ true = and_from _ _ ra (through_self g t all_sections a) in
            true≢false (sym yes ∙ ap passes (sym e) ∙ no);
      }

module _ (g : GridState) (t : ℕ) (rules : Rules g) (ticks : g.state t ≡ Ticking) (living : List SectionPos) (members : (s : SectionPos) → is_among living s ≡ remains g t s)
    (found : List (List SectionPos)) (are : ArePartsOf living g.grid.merge found) where
  path_chain : (ms : List SectionPos) (a b : SectionPos) → IsPath g t a ms b → IsChain living g.grid.merge a ms b
  path_chain [] a b e = e
  path_chain (m ∷ ms) a b h =
      let x = and_parts (remains g t a && remains g t m) (is_within a g.grid.merge m) h.0 in
      let y = and_parts (remains g t a) (remains g t m) x.0 in
      (members m ∙ y.1, x.1, path_chain ms m b h.1)

  chain_path : (ms : List SectionPos) (a b : SectionPos) → remains g t a ≡ true → IsChain living g.grid.merge a ms b → IsPath g t a ms b
  chain_path [] a b r e = e
  chain_path (m ∷ ms) a b r h = let n : remains g t m ≡ true = sym (members m) ∙ h.0 in (and_from _ _ (and_from _ _ r n) h.1, chain_path ms m b n h.2)

  module _ (i : ℕ) (l : i < length found) where
    is_part : IsPart living g.grid.merge (get_or found i [])
    is_part = are.classes i [] l

    first_in : is_among (get_or found i []) (least_of (get_or found i [])) ≡ true
    first_in = first_among (get_or found i []) is_part.some

    stays : (s : SectionPos) → is_among (get_or found i []) s ≡ true → remains g t s ≡ true
    stays s h = sym (members s) ∙ ((is_part.whole (least_of (get_or found i [])) s first_in).0 h).0

    one_part : (a b : SectionPos) → is_among (get_or found i []) a ≡ true → is_among (get_or found i []) b ≡ true → part_of g t a ≡ part_of g t b
    one_part a b ha hb =
        let j = ((is_part.whole a b ha).0 hb).1 in
        (parts_are_classes g t rules ticks a b (stays a ha) (stays b hb)).1 (j.0, chain_path j.0 a b (stays a ha) j.1)

    whole_part : (a b : SectionPos) → is_among (get_or found i []) a ≡ true → remains g t b ≡ true → part_of g t a ≡ part_of g t b → is_among (get_or found i []) b ≡ true
    whole_part a b ha rb e =
        let p = (parts_are_classes g t rules ticks a b (stays a ha) rb).0 e in
        (is_part.whole a b ha).1 (members b ∙ rb, (p.0, path_chain p.0 a b p.1))

    -- the leader of a part is its least section
    led_by_least : (x : Led g t rules ticks (least_of (get_or found i []))) → x.by ≡ least_of (get_or found i [])
    led_by_least x =
        let a : SectionPos = least_of (get_or found i []) in
        let inside = whole_part a x.by first_in x.stays (sym x.same) in
        elim (first_least (get_or found i []) x.by is_part.in_order inside) [
          | inl e ↦ e
          | inr less ↦
              let k = at_index all_sections a (some_section-is (same_section a) a (stays_in g t rules ticks a (stays a first_in)) (same_section-self a)) in
              let at = k.2 origin in
              elim (cases_order k.0 (leader g t a)) [
                | inl e ↦ sym (x.at origin) ∙ ap (λ n. get_or all_sections n origin) (sym e) ∙ at
                | inr h ↦ elim h [
                  | inl low ↦ absurd (x.first k.0 origin low at)
                  | inr high ↦ absurd (let s = Less-from_sorted section_cmp all_sections (leader g t a) k.0 origin sections_sorted high k.1 in
                      let y = x.at origin in let z : section_cmp x.by a ≡ Less = rw (y, at) at s in not_both a x.by less z)
                ]
              ]
        ]

  -- the parts are numbered in the order in which they were found
  number : ℕ → ℕ
  number i = part_of g t (least_of (get_or found i []))

  leader_place : (i : ℕ) (l : i < length found) → get_or all_sections (leader g t (least_of (get_or found i []))) origin ≡ least_of (get_or found i [])
  leader_place i l = let d = led g t rules ticks (least_of (get_or found i [])) (stays i l _ (first_in i l)) in d.at origin ∙ led_by_least i l d

  number_rises : (i : ℕ) → i + 1 < length found → number i < number (i + 1)
  unfolding number
  number_rises i l =
      let a : SectionPos = least_of (get_or found i []) in
      let b : SectionPos = least_of (get_or found (i + 1) []) in
      let less : section_cmp a b ≡ Less = Less-from_sorted (on least_of section_cmp) found i (i + 1) [] are.by_least (omega arith) l in
      let ra = stays i (omega arith) a (first_in i (omega arith)) in
      let rb = stays (i + 1) l b (first_in (i + 1) l) in
      let at_a : get_or all_sections (leader g t a) origin ≡ a = leader_place i (omega arith) in
      let at_b : get_or all_sections (leader g t b) origin ≡ b = leader_place (i + 1) l in
      let below_a = leader_below g t a (stays_in g t rules ticks a ra) ra in
      elim (cases_order (leader g t a) (leader g t b)) [
        | inl e ↦ absurd (let same : a ≡ b = sym at_a ∙ ap (λ n. get_or all_sections n origin) e ∙ at_b in let z : section_cmp b a ≡ Less = rw same (rw same at less) in not_both a b less z)
        | inr h ↦ elim h [
          | inl low ↦ part_before g t rules ticks a b ra low
          | inr high ↦ absurd (let s = Less-from_sorted section_cmp all_sections (leader g t b) (leader g t a) origin sections_sorted high below_a in
              let z : section_cmp b a ≡ Less = rw (at_b, at_a) at s in not_both a b less z)
        ]
      ]

  number_below_parts : (i : ℕ) → i < length found → number i < parts g t
  unfolding number
  number_below_parts i l = let r = stays i l _ (first_in i l) in part_below g t _ (stays_in g t rules ticks _ r) r

  -- where the section is found
  in_some : (xs : List (List SectionPos)) (s : SectionPos) → list_any (λ part. is_among part s) xs ≡ true → (i : ℕ) × (i < length xs) × (is_among (get_or xs i []) s ≡ true)
  in_some [] s h = absurd (true≢false (sym h))
  in_some (x ∷ xs) s h = elim (or_cases (is_among x s) (list_any (λ part. is_among part s) xs) h) [
    | inl e ↦ (0, omega arith, e)
    | inr e ↦ let k = in_some xs s e in (suc k.0, omega (arith, k.1), k.2)
  ]

  found_in : (s : SectionPos) → remains g t s ≡ true → (i : ℕ) × (i < length found) × (is_among (get_or found i []) s ≡ true)
  found_in s r = in_some found s (are.cover s (members s ∙ r))

  number_reached : (j : ℕ) → j < parts g t → (i : ℕ) × (i < length found) × (number i ≡ j)
  unfolding number
  number_reached j l =
      let s = part_at g t j l in
      let k = found_in s.0 s.2 in
      (k.0, k.1, one_part k.0 k.1 _ s.0 (first_in k.0 k.1) k.2 ∙ s.3)

  -- as many parts as were found
  pub parts_found : length found ≡ parts g t
  parts_found = count_is number (length found) (parts g t) number_rises number_below_parts number_reached

  -- a section of the part found at a place is in the part with this number
  pub part_found : (i : ℕ) (s : SectionPos) → i < length found → is_among (get_or found i []) s ≡ true → part_of g t s ≡ i
  unfolding number
  part_found i s l h = one_part i l s _ h (first_in i l) ∙ number_is number (length found) (parts g t) number_rises number_below_parts number_reached i l

  -- each section that stays is found in the part with its number
  pub found_by_number : (s : SectionPos) → remains g t s ≡ true → is_among (get_or found (part_of g t s) []) s ≡ true
  found_by_number s r = let k = found_in s r in let e = part_found k.0 s k.1 k.2 in rw e k.2
