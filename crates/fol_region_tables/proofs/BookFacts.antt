-- What follows from the lists of the tables.
use Rattle.std.proofs.Common.{◌≡◌, ℕ, ◌≤◌, ◌<◌, refl, sym, ◌∙◌, ap, arith, true, false, ◌&&◌, List, [], length, inl, inr}
use Rattle.std.specs.Prelude.{◌≢◌, nat_eq, nat_lt}
use Rattle.std.specs.List.{list_any}
use Rattle.std.proofs.lemmas.Bool.{cases_Bool, cases_lt, and_parts, true≢false, eq-eqb, eqb-true, ltb-true, lt-ltb}
use Rattle.std.proofs.lemmas.List.{get_or_past, get_or-set_same, get_or-set_other}
use Rattle.fol_lists.specs.Numbered.{Numbered, list_at, with_list}
use Rattle.fol_model.specs.Universe.{all_sections, count_sections}
use Rattle.std.proofs.lemmas.List.Sums.{length-filter}
use Rattle.fol_laws.proofs.ListCounts.{count_by-mono}
use Rattle.fol_region_tables.specs.Slots.{SlotTable, slot_of}
use Rattle.fol_region_tables.specs.Book.{Book, IsBook, is_live, owner_of, rows_of, ahead_of, behind_of, waits_of}
use Rattle.fol_region_tables.proofs.SlotSteps.{slot-le, slot_tells}
use Rattle.fol_region_tables.proofs.Chosen.{chosen, chosen_numbers}
use Rattle.fol_model.specs.declared.places.SectionPos.{SectionPos}
use Rattle.fol_model.specs.Geometry.{is_among}
use Rattle.std.specs.Prelude.{Option, Some, None}
use Rattle.fol_model.specs.declared.regions.State.TheVariants.{Dead}
use Rattle.fol_region_tables.specs.declared.slots.Region.{Region}
use Rattle.fol_region_tables.specs.Slots.{region_at, slot_state, state_in}
use Rattle.fol_region_tables.specs.Book.{state_of}

-- a list that is put in a slot
module _ {T : Type 0} (slots : SlotTable) (v : Numbered T) (numbers : length v.lists ≡ slots.room) (t : ℕ) (live : slot_of slots t < slots.room) (xs : List T) where
  pub put_at : list_at (with_list v (slot_of slots t) xs) (slot_of slots t) ≡ xs
  put_at = get_or-set_same v.lists (slot_of slots t) xs [] (omega arith)

  pub put_other : (q : ℕ) → q ≢ t → list_at (with_list v (slot_of slots t) xs) (slot_of slots q) ≡ list_at v (slot_of slots q)
  put_other q n = get_or-set_other v.lists (slot_of slots t) (slot_of slots q) xs [] (λ e. n (sym (slot_tells slots t q live (sym e))))

  pub put_unused : (k : ℕ) → k ≢ slot_of slots t → list_at (with_list v (slot_of slots t) xs) k ≡ list_at v k
  put_unused k n = get_or-set_other v.lists (slot_of slots t) k xs [] n

pub no_list : {T : Type 0} (v : Numbered T) (k : ℕ) → length v.lists ≤ k → list_at v k ≡ []
no_list v k l = get_or_past v.lists k [] l

module _ (b : Book) where
  pub live_slot : (r : ℕ) → is_live b r ≡ true → slot_of b.slots r < b.slots.room
  unfolding is_live
  live_slot r h = ltb-true (slot_of b.slots r) b.slots.room h

  pub slot_live : (r : ℕ) → slot_of b.slots r < b.slots.room → is_live b r ≡ true
  unfolding is_live
  slot_live r h = lt-ltb (slot_of b.slots r) b.slots.room h

  pub not_live : (r : ℕ) → is_live b r ≡ false → slot_of b.slots r ≡ b.slots.room
  not_live r h = elim (cases_lt (slot_of b.slots r) b.slots.room) [
    | inl l ↦ absurd (true≢false (sym (slot_live r l) ∙ h))
    | inr l ↦ omega (arith, slot-le b.slots r)
  ]

  module _ (is : IsBook b) where
    pub live_next : (r : ℕ) → is_live b r ≡ true → r < b.next
    live_next r h = (is.given r h).1

    -- a region that waits, or is waited for, has a slot
    pub waits_next : (u t : ℕ) → waits_of b u t ≡ true → t < b.next
    unfolding waits_of
    waits_next u t h = ltb-true t b.next (and_parts (waits_of b u t) (nat_lt t b.next) (sym (chosen_numbers (waits_of b u) b.next t) ∙ ap (list_any (nat_eq t)) (sym (is.ahead u)) ∙ h)).1

    pub waiter_lives : (u t : ℕ) → waits_of b u t ≡ true → is_live b u ≡ true
    unfolding waits_of ahead_of
    waiter_lives u t h = elim (cases_Bool (is_live b u)) [
      | inl e ↦ e
      | inr e ↦ let s = not_live u e in
          let none : list_at b.ahead (slot_of b.slots u) ≡ [] = no_list b.ahead (slot_of b.slots u) (omega (arith, s, is.ahead_numbers)) in
          absurd (true≢false (sym h ∙ ap (list_any (nat_eq t)) none))
    ]

    pub awaited_lives : (u t : ℕ) → waits_of b u t ≡ true → is_live b t ≡ true
    unfolding behind_of
    awaited_lives u t h = elim (cases_Bool (is_live b t)) [
      | inl e ↦ e
      | inr e ↦ let s = not_live t e in
          let none : list_at b.behind (slot_of b.slots t) ≡ [] = no_list b.behind (slot_of b.slots t) (omega (arith, s, is.behind_numbers)) in
          let l : nat_lt u b.next ≡ true = lt-ltb u b.next (live_next u (waiter_lives u t h)) in
          let k = chosen_numbers (λ a. waits_of b a t) b.next u in
          let m : (waits_of b u t && nat_lt u b.next) ≡ true = rw (h, l) refl in
          absurd (true≢false (sym (k ∙ m) ∙ ap (list_any (nat_eq u)) (sym (is.behind t)) ∙ ap (list_any (nat_eq u)) none))
    ]

-- the region of a section has a slot
pub owner_live : (b : Book) → IsBook b → (s : SectionPos) → 0 < owner_of b s → is_live b (owner_of b s) ≡ true
unfolding rows_of
owner_live b is s p = elim (cases_Bool (is_live b (owner_of b s))) [
  | inl e ↦ e
  | inr e ↦ let m = not_live b (owner_of b s) e in
      let none : list_at b.rows (slot_of b.slots (owner_of b s)) ≡ [] = no_list b.rows (slot_of b.slots (owner_of b s)) (omega (arith, m, is.row_numbers)) in
      let has = chosen (λ q. nat_eq (owner_of b q) (owner_of b s)) (λ q h. is.limits q (omega (arith, eqb-true (owner_of b q) (owner_of b s) h))) s in
      absurd (true≢false (sym (has ∙ eq-eqb (owner_of b s) (owner_of b s) refl) ∙ ap (λ xs. is_among xs s) (sym (is.rows (owner_of b s) p)) ∙ ap (λ xs. is_among xs s) none))
]

-- a region has no more sections than are present
pub row_most : (b : Book) (r : ℕ) → IsBook b → 0 < r → count_sections (λ s. nat_lt 0 (owner_of b s)) ≤ 16384 → length (rows_of b r) ≤ 16384
row_most b r h pos few =
    omega (
      arith,
      ap length (h.rows r pos),
      length-filter (λ s. nat_eq (owner_of b s) r) all_sections,
      count_by-mono (λ s. nat_eq (owner_of b s) r) (λ s. nat_lt 0 (owner_of b s)) (λ s e. let o : owner_of b s ≡ r = eqb-true _ _ e in let q = pos in lt-ltb 0 _ (omega arith)) all_sections,
      few,
    )

-- a region that is not Dead has a slot
pub state_lives : (b : Book) (r : ℕ) → ((k : ℕ) (q : Region) → region_at b.slots k ≡ Some q → k < b.slots.room) → state_of b r ≢ Dead → is_live b r ≡ true
unfolding state_of slot_state
state_lives b r within d = elim (cases_Bool (is_live b r)) [
  | inl e ↦ e
  | inr e ↦ absurd (d (ap (λ k. state_in (region_at b.slots k)) (not_live b r e) ∙ past (region_at b.slots b.slots.room) refl))
]
  where
    past : (o : Option Region) → o ≡ region_at b.slots b.slots.room → state_in o ≡ Dead
    past None e = refl
    past (Some q) e = absurd (let l = within b.slots.room q (sym e) in omega arith)
