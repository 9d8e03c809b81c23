-- What the tables say after a released region was cleaned.
use Rattle.std.proofs.Common.{◌≡◌, ℕ, ◌+◌, ◌≤◌, ◌<◌, refl, sym, ◌∙◌, ap, arith, true, false, inl, inr, ◌&&◌, List, [], ◌∷◌, length, get_or}
use Rattle.std.specs.Prelude.{nat_eq, nat_le, nat_lt, if◌then◌else◌, filter}
use Rattle.std.proofs.Math.Path.{fun_ext}
use Rattle.std.proofs.lemmas.Bool.{cases_Bool, cases_eq, eq-eqb, ne_eqb, true≢false, and_parts, and_from, le-leb, lt-leb, ltb-true, ltb-false}
use Rattle.std.proofs.lemmas.List.{get_or_past}
use Rattle.fol_model.specs.declared.places.SectionPos.{SectionPos}
use Rattle.fol_model.specs.declared.regions.State.TheVariants.{Ready, Ticking, Dead}
use Rattle.fol_model.specs.Geometry.{same_section, is_among}
use Rattle.fol_model.specs.Universe.{all_sections}
use Rattle.fol_model.specs.GridState.{GridState, in_margin}
use Rattle.fol_model.specs.Release.{joined_owner, joined_waits, remains, parts, part_of, cleaned}
use Rattle.fol_model.specs.Rules.{Rules}
use Rattle.fol_laws.proofs.AllSections.{some_section-is}
use Rattle.fol_laws.proofs.SamePlaces.{same_section-self}
use Rattle.fol_laws.proofs.SectionOrder.{section_members}
use Rattle.fol_laws.proofs.Tests.{same_answer}
use Rattle.fol_laws.proofs.Joins.{remains_in, t_pos}
use Rattle.fol_split.specs.Parts.{ArePartsOf}
use Rattle.fol_region_tables.specs.Book.{Book, owner_of, state_of, waits_of, SetsState}
use Rattle.fol_region_tables.specs.Parted.{Keeps, Ends, Splits, id_in}
use Rattle.fol_regions.proofs.PartNumbers.{parts_found, part_found, found_by_number}
use Rattle.fol_region_tables.proofs.SplitSteps.{id_found}

module _ (g : GridState) (t : ℕ) (rules : Rules g) (ticks : g.state t ≡ Ticking) (base : Book) (owner : owner_of base ≡ joined_owner g t)
    (state : state_of base ≡ (λ r. if g.waits r t then Dead else g.state r)) (waits : waits_of base ≡ joined_waits g t) (next : base.next ≡ g.next)
    (living : List SectionPos) (is : living ≡ filter (in_margin g) (filter (λ s. nat_eq (owner_of base s) t) all_sections))
    (found : List (List SectionPos)) (are : ArePartsOf living g.grid.merge found) where
  owner_at : (s : SectionPos) → owner_of base s ≡ joined_owner g t s
  owner_at s = ap (λ f. f s) owner

  pub members : (s : SectionPos) → is_among living s ≡ remains g t s
  members s =
      ap (λ xs. is_among xs s) is
      ∙ section_members (in_margin g) (filter (λ s. nat_eq (owner_of base s) t) all_sections) s
      ∙ ap (λ b. in_margin g s && b) (section_members (λ s. nat_eq (owner_of base s) t) all_sections s)
      ∙ same_answer (in_margin g s && (nat_eq (owner_of base s) t && is_among all_sections s)) (remains g t s)
      (λ h. let a = and_parts (in_margin g s) (nat_eq (owner_of base s) t && is_among all_sections s) h in
      let b = and_parts (nat_eq (owner_of base s) t) (is_among all_sections s) a.1 in
      let o = owner_at s in
      and_from _ _ (rw o at b.0) a.0)
      (λ h. let a = and_parts (nat_eq (joined_owner g t s) t) (in_margin g s) h in
      let o = owner_at s in
      and_from _ _ a.1 (and_from _ _ (rw o a.0) (some_section-is (same_section s) s (remains_in g t rules ticks s h) (same_section-self s))))

  parts_are : length found ≡ parts g t
  parts_are = parts_found g t rules ticks living members found are

  -- a section that is t's and does not stay
  leaves : (s : SectionPos) → nat_eq (joined_owner g t s) t ≡ true → in_margin g s ≡ false → is_among living s ≡ false
  leaves s o m = members s ∙ rw (o, m) refl

  stays : (s : SectionPos) → nat_eq (joined_owner g t s) t ≡ true → in_margin g s ≡ true → is_among living s ≡ true
  stays s o m = members s ∙ rw (o, m) refl

  -- a section of another region
  other : (s : SectionPos) → nat_eq (joined_owner g t s) t ≡ false → joined_owner g t s ≡ g.owner s
  other s n = elim (cases_Bool (g.waits (g.owner s) t)) [
    | inl w ↦ let e : nat_eq (joined_owner g t s) t ≡ true = rw w (eq-eqb t t refl) in absurd (true≢false (sym e ∙ n))
    | inr w ↦ rw w refl
  ]

  -- ---- no section stays
  module _ (none : length found ≡ 0) (new : Book) (ends : Ends base new t) where
    no_parts : parts g t ≡ 0
    no_parts = sym parts_are ∙ none

    none_stays : (s : SectionPos) → remains g t s ≡ false
    none_stays s = elim (cases_Bool (remains g t s)) [
      | inl r ↦ absurd (let f = found_by_number g t rules ticks living members found are s r in in_none found none s _ f)
      | inr r ↦ r
    ]
      where
        in_none : (ps : List (List SectionPos)) → length ps ≡ 0 → (s : SectionPos) (i : ℕ) → is_among (get_or ps i []) s ≡ true → ⊥
        in_none [] e s i h = true≢false (sym h)
        in_none (p ∷ ps) e s i h = absurd (omega arith)

    pub ended_owner : owner_of new ≡ (cleaned g t).owner
    ended_owner = ends.owner ∙ fun_ext (λ s.
        let o = owner_at s in
        let r = none_stays s in
        elim (cases_Bool (nat_eq (joined_owner g t s) t)) [
          | inl e ↦ let m : in_margin g s ≡ false = elim (cases_Bool (in_margin g s)) [ inl y ↦ absurd (true≢false (sym (and_from _ _ e y) ∙ r)) | inr y ↦ y ] in rw (o, e, m) refl
          | inr e ↦ rw (o, e) (other s e)
        ])

    pub ended_state : state_of new ≡ (cleaned g t).state
    ended_state = ends.state ∙ fun_ext (λ r.
        let x : state_of base r ≡ (if g.waits r t then Dead else g.state r) = ap (λ f. f r) state in
        let p = no_parts in
        let few : nat_le 2 0 ≡ false = lt-leb 2 0 (omega arith) in
        let zero_one : nat_eq 0 1 ≡ false = ne_eqb 0 1 (λ e. absurd (omega arith)) in
        elim (cases_eq t r) [
          | inl e ↦ let k = eq-eqb t r e in let j = eq-eqb r t (sym e) in rw (p, k, j) refl
          | inr n ↦ let k = ne_eqb t r n in let j = ne_eqb r t (λ e. n (sym e)) in rw (p, k, j, x) refl
        ])

    pub ended_waits : waits_of new ≡ (cleaned g t).waits
    ended_waits = ends.waits ∙ waits

    pub ended_next : new.next ≡ (cleaned g t).next
    ended_next = let p = no_parts in rw p (ends.next ∙ next)

  -- ---- one part keeps the id
  module _ (one : length found ≡ 1) (mid new : Book) (keeps : Keeps base mid t living) (sets : SetsState mid new t Ready) where
    one_part : parts g t ≡ 1
    one_part = sym parts_are ∙ one

    pub kept_owner : owner_of new ≡ (cleaned g t).owner
    kept_owner = sets.owner ∙ keeps.owner ∙ fun_ext (λ s.
        let o = owner_at s in
        let p = one_part in
        elim (cases_Bool (nat_eq (joined_owner g t s) t)) [
          | inl e ↦ elim (cases_Bool (in_margin g s)) [
            | inl m ↦ let a = stays s e m in rw (o, e, m, a, p) refl
            | inr m ↦ let a = leaves s e m in rw (o, e, m, a) refl
          ]
          | inr e ↦ rw (o, e) (other s e)
        ])

    pub kept_state : state_of new ≡ (cleaned g t).state
    kept_state = sets.state ∙ fun_ext (λ r.
        let x : state_of mid r ≡ (if g.waits r t then Dead else g.state r) = ap (λ f. f r) (keeps.state ∙ state) in
        let p = one_part in
        elim (cases_eq t r) [
          | inl e ↦ let k = eq-eqb t r e in let j = eq-eqb r t (sym e) in rw (p, k, j) refl
          | inr n ↦ let k = ne_eqb t r n in let j = ne_eqb r t (λ e. n (sym e)) in rw (p, k, j, x) refl
        ])

    pub kept_waits : waits_of new ≡ (cleaned g t).waits
    kept_waits = sets.waits ∙ keeps.waits ∙ waits

    pub kept_next : new.next ≡ (cleaned g t).next
    kept_next = let p = one_part in rw p (sets.next ∙ keeps.next ∙ next)

  -- ---- several parts have the next ids
  module _ (several : 2 ≤ length found) (mid new : Book) (keeps : Keeps base mid t living) (splits : Splits mid new t found) where
    two : nat_le 2 (parts g t) ≡ true
    two = le-leb 2 (parts g t) (omega (arith, several, parts_are))

    not_one : nat_eq (parts g t) 1 ≡ false
    not_one = ne_eqb (parts g t) 1 (λ e. absurd (omega (arith, several, parts_are)))

    mid_next : mid.next ≡ g.next
    mid_next = keeps.next ∙ next

    found_id : (s : SectionPos) → remains g t s ≡ true → id_in found mid.next s ≡ g.next + part_of g t s
    found_id s r =
        let f = found_by_number g t rules ticks living members found are s r in
        let below : part_of g t s < length found = elim (cases_Bool (nat_lt (part_of g t s) (length found))) [
          | inl y ↦ ltb-true _ _ y
          | inr y ↦ absurd (let past = get_or_past found (part_of g t s) [] (omega (arith, ltb-false _ _ y)) in let z : is_among [] s ≡ true = rw past at f in true≢false (sym z))
        ] in
        id_found found mid.next (part_of g t s) s below f (λ j l e. sym (part_found g t rules ticks living members found are j s l e))
        ∙ ap (λ n. n + part_of g t s) mid_next

    mid_owner : (s : SectionPos) → owner_of mid s ≡ (if nat_eq (joined_owner g t s) t then (if is_among living s then t else 0) else joined_owner g t s)
    mid_owner s = let o = owner_at s in ap (λ f. f s) keeps.owner ∙ rw o refl

    pub split_owner : owner_of new ≡ (cleaned g t).owner
    split_owner = splits.owner ∙ fun_ext (λ s.
        let o = mid_owner s in
        let k = not_one in
        let same : nat_eq t t ≡ true = eq-eqb t t refl in
        elim (cases_Bool (nat_eq (joined_owner g t s) t)) [
          | inl e ↦ elim (cases_Bool (in_margin g s)) [
            | inl m ↦ let a = stays s e m in
                let z : owner_of mid s ≡ t = rw (e, a) at o in
                let r : remains g t s ≡ true = and_from _ _ e m in
                let i = found_id s r in
                rw (z, same, i, e, m, k) refl
            | inr m ↦ let a = leaves s e m in
                let z : owner_of mid s ≡ 0 = rw (e, a) at o in
                let pos = t_pos g t rules ticks in
                let n : nat_eq 0 t ≡ false = ne_eqb 0 t (λ h. absurd (omega arith)) in
                rw (z, n, e, m) refl
          ]
          | inr e ↦ let z : owner_of mid s ≡ joined_owner g t s = rw e at o in rw (z, e) (other s e)
        ])

    pub split_state : state_of new ≡ (cleaned g t).state
    split_state = splits.state ∙ fun_ext (λ r.
        let x : state_of mid r ≡ (if g.waits r t then Dead else g.state r) = ap (λ f. f r) (keeps.state ∙ state) in
        let w = two in
        let k = not_one in
        let n = mid_next in
        let l = parts_are in
        rw (x, w, k, n, l) refl)

    pub split_waits : waits_of new ≡ (cleaned g t).waits
    split_waits = splits.waits ∙ keeps.waits ∙ waits

    pub split_next : new.next ≡ (cleaned g t).next
    split_next = let w = two in rw w (splits.next ∙ omega (arith, mid_next, parts_are))
