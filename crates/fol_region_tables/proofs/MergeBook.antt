-- A region with no pairs becomes part of another one.
use Rattle.std.proofs.Common.{◌≡◌, ℕ, ◌+◌, ◌<◌, refl, sym, ◌∙◌, ap, arith, true, false, cond, not, ◌&&◌, ◌||◌, List, [], length, inl, inr}
use Rattle.std.specs.Prelude.{◌≢◌, ℤ, filter, nat_eq, nat_lt}
use Rattle.std.specs.List.{list_any}
use Rattle.std.proofs.Math.Bool.{or-false, or-true}
use Rattle.std.proofs.Math.Path.{fun_ext}
use Rattle.std.proofs.lemmas.Bool.{cases_Bool, cases_eq, true≢false, false_from_ne_true, eq-eqb, eqb-true, ne_eqb, lt-ltb, le-ltb, ltb-true}
use Rattle.std.proofs.lemmas.List.{length-set, get_or-set_same, get_or-set_other}
use Rattle.std.proofs.lemmas.List.Sums.{length-filter}
use Rattle.fol_lists.specs.Numbered.{list_at, total, with_list}
use Rattle.fol_model.specs.declared.places.SectionPos.{SectionPos}
use Rattle.fol_model.specs.Geometry.{is_section, is_among}
use Rattle.fol_model.specs.Universe.{all_sections, count_sections, numbers_below}
use Rattle.fol_region_tables.specs.Rows.{united, AreApart}
use Rattle.fol_region_tables.specs.Slots.{SlotTable, slot_of}
use Rattle.fol_region_tables.specs.Owners.{owner_in}
use Rattle.fol_region_tables.specs.declared.pages.OwnerPage.{OwnerPage}
use Rattle.fol_region_tables.specs.Book.{Book, IsBook, owner_of, is_live, rows_of, ahead_of, behind_of, waits_of}
use Rattle.fol_region_tables.proofs.BookFacts.{live_slot, no_list}
use Rattle.fol_region_tables.proofs.Chosen.{chosen, filter_like, count_like, count_either, none_kept, united_chosen}
use Rattle.fol_region_tables.proofs.SlotSteps.{slot_tells}
use Rattle.fol_region_tables.proofs.Totals.{total_two}

-- the sections of a region
pub among_rows : (b : Book) → IsBook b → (r : ℕ) → 0 < r → (s : SectionPos) → is_among (rows_of b r) s ≡ nat_eq (owner_of b s) r
among_rows b is r p s = ap (λ xs. is_among xs s) (is.rows r p) ∙ chosen (λ q. nat_eq (owner_of b q) r) (λ q h. is.limits q (omega (arith, p, eqb-true (owner_of b q) r h))) s

-- sections that no region has, and those of another region, are none of a region's
pub apart_given : (b : Book) → IsBook b → (t : ℕ) → 0 < t → (xs : List SectionPos) → ((s : SectionPos) → is_among xs s ≡ true → owner_of b s ≡ 0) → AreApart (rows_of b t) xs
apart_given b is t p xs absent = λ s h. false_from_ne_true (is_among xs s) (λ k. omega (arith, p, eqb-true (owner_of b s) t (sym (among_rows b is t p s) ∙ h), absent s k))

pub apart_rows : (b : Book) → IsBook b → (t u : ℕ) → 0 < t → 0 < u → u ≢ t → AreApart (rows_of b t) (rows_of b u)
apart_rows b is t u p q other = λ s h. false_from_ne_true (is_among (rows_of b u) s) (λ k. other (sym (eqb-true (owner_of b s) u (sym (among_rows b is u q s) ∙ k)) ∙ eqb-true (owner_of b s) t (sym (among_rows b is t p s) ∙ h)))

module _ (b : Book) (is : IsBook b) (u t : ℕ) (lu : is_live b u ≡ true) (lt : is_live b t ≡ true) (apart : u ≢ t) (none : (k : ℕ) → waits_of b u k ≡ false) (nobody : (a : ℕ) → waits_of b a u ≡ false)
    (owned : List ((ℤ × ℤ) × OwnerPage)) (free : ℕ) (set : (q : SectionPos) → owner_in owned q ≡ cond (is_among (rows_of b u) q) t (owner_of b q))
    (slots : SlotTable) (moved : slot_of slots ≡ (λ q. cond (nat_eq u q) b.slots.room (slot_of b.slots q))) (room : slots.room ≡ b.slots.room) where
  abbrev pub merged : Book
  merged = record b { owned = owned; free = free; slots = slots; rows = with_list (with_list b.rows (slot_of b.slots u) []) (slot_of b.slots t) (united (rows_of b t) (rows_of b u)) }

  pos_u : 0 < u
  pos_u = (is.given u lu).0

  pos_t : 0 < t
  pos_t = (is.given t lt).0

  limit : (r : ℕ) → 0 < r → (s : SectionPos) → nat_eq (owner_of b s) r ≡ true → is_section s ≡ true
  limit r p s h = is.limits s (omega (arith, p, eqb-true (owner_of b s) r h))

  among_u : (s : SectionPos) → is_among (rows_of b u) s ≡ nat_eq (owner_of b s) u
  among_u = among_rows b is u pos_u

  owners : (s : SectionPos) → owner_of merged s ≡ cond (nat_eq (owner_of b s) u) t (owner_of b s)
  unfolding owner_of
  owners s = set s ∙ ap (λ x. cond x t (owner_of b s)) (among_u s)

  pub merged_owner : owner_of merged ≡ (λ s. cond (nat_eq (owner_of b s) u) t (owner_of b s))
  merged_owner = fun_ext owners

  slot_u : slot_of slots u ≡ b.slots.room
  slot_u = ap (λ (f : ℕ → ℕ). f u) moved ∙ ap (λ x. cond x b.slots.room (slot_of b.slots u)) (eq-eqb u u refl)

  slot_else : (q : ℕ) → q ≢ u → slot_of slots q ≡ slot_of b.slots q
  slot_else q n = ap (λ (f : ℕ → ℕ). f q) moved ∙ ap (λ x. cond x b.slots.room (slot_of b.slots q)) (ne_eqb u q (λ e. n (sym e)))

  differ : slot_of b.slots t ≢ slot_of b.slots u
  differ e = apart (sym (slot_tells b.slots t u (live_slot b t lt) e))

  numbers : length (with_list b.rows (slot_of b.slots u) []).lists ≡ b.slots.room
  numbers = length-set {A = List SectionPos} b.rows.lists (slot_of b.slots u) [] ∙ is.row_numbers

  -- ---- the lists
  rows_u : rows_of merged u ≡ []
  unfolding rows_of
  rows_u = no_list merged.rows (slot_of slots u) (omega (arith, slot_u, length-set {A = List SectionPos} (with_list b.rows (slot_of b.slots u) []).lists (slot_of b.slots t) (united (rows_of b t) (rows_of b u)), numbers))

  rows_t : rows_of merged t ≡ united (rows_of b t) (rows_of b u)
  unfolding rows_of
  rows_t = ap (list_at merged.rows) (slot_else t (λ e. apart (sym e))) ∙ get_or-set_same (with_list b.rows (slot_of b.slots u) []).lists (slot_of b.slots t) (united (rows_of b t) (rows_of b u)) [] (omega (arith, numbers, live_slot b t lt))

  rows_else : (r : ℕ) → r ≢ u → r ≢ t → rows_of merged r ≡ rows_of b r
  unfolding rows_of
  rows_else r n m = ap (list_at merged.rows) (slot_else r n)
      ∙ get_or-set_other (with_list b.rows (slot_of b.slots u) []).lists (slot_of b.slots t) (slot_of b.slots r) (united (rows_of b t) (rows_of b u)) [] (λ e. m (sym (slot_tells b.slots t r (live_slot b t lt) (sym e))))
      ∙ get_or-set_other b.rows.lists (slot_of b.slots u) (slot_of b.slots r) [] [] (λ e. n (sym (slot_tells b.slots u r (live_slot b u lu) (sym e))))

  ahead_u : ahead_of merged u ≡ []
  unfolding ahead_of
  ahead_u = no_list b.ahead (slot_of slots u) (omega (arith, slot_u, is.ahead_numbers))

  ahead_else : (r : ℕ) → r ≢ u → ahead_of merged r ≡ ahead_of b r
  unfolding ahead_of
  ahead_else r n = ap (list_at b.ahead) (slot_else r n)

  behind_u : behind_of merged u ≡ []
  unfolding behind_of
  behind_u = no_list b.behind (slot_of slots u) (omega (arith, slot_u, is.behind_numbers))

  behind_else : (r : ℕ) → r ≢ u → behind_of merged r ≡ behind_of b r
  unfolding behind_of
  behind_else r n = ap (list_at b.behind) (slot_else r n)

  waits : (a k : ℕ) → waits_of merged a k ≡ waits_of b a k
  unfolding waits_of
  waits a k = elim (cases_eq a u) [
    | inl e ↦ ap (λ j. list_any (nat_eq k) (ahead_of merged j)) e ∙ ap (list_any (nat_eq k)) ahead_u ∙ sym (none k) ∙ ap (λ j. list_any (nat_eq k) (ahead_of b j)) (sym e)
    | inr n ↦ ap (list_any (nat_eq k)) (ahead_else a n)
  ]

  pub merged_waits : waits_of merged ≡ waits_of b
  merged_waits = fun_ext (λ a. fun_ext (λ k. waits a k))

  live_u : is_live merged u ≡ false
  unfolding is_live
  live_u = le-ltb (slot_of slots u) slots.room (omega (arith, slot_u, room))

  live_else : (r : ℕ) → r ≢ u → is_live merged r ≡ is_live b r
  unfolding is_live
  live_else r n = λ i. nat_lt (slot_else r n i) (room i)

  pub merged_live : is_live merged ≡ (λ r. not (nat_eq r u) && is_live b r)
  merged_live = fun_ext (λ r. elim (cases_eq r u) [
    | inl e ↦ let p : nat_eq r u ≡ true = eq-eqb r u e in rw p (ap (is_live merged) e ∙ live_u)
    | inr n ↦ let p : nat_eq r u ≡ false = ne_eqb r u n in rw p (live_else r n)
  ])

  live_before : (r : ℕ) → is_live merged r ≡ true → (r ≢ u) × (is_live b r ≡ true)
  live_before r h = elim (cases_eq r u) [
    | inl e ↦ absurd (true≢false (sym h ∙ ap (is_live merged) e ∙ live_u))
    | inr n ↦ (n, sym (live_else r n) ∙ h)
  ]

  -- ---- the sections
  own_t : (s : SectionPos) → nat_eq (owner_of merged s) t ≡ (nat_eq (owner_of b s) t || is_among (rows_of b u) s)
  own_t s = ap (λ k. nat_eq k t) (owners s) ∙ elim (cases_Bool (nat_eq (owner_of b s) u)) [
    | inl e ↦ let f = among_u s ∙ e in rw (e, f) (eq-eqb t t refl ∙ sym (or-true (nat_eq (owner_of b s) t)))
    | inr e ↦ let f = among_u s ∙ e in rw (e, f) (sym (or-false (nat_eq (owner_of b s) t)))
  ]

  own_u : (s : SectionPos) → nat_eq (owner_of merged s) u ≡ false
  own_u s = ap (λ k. nat_eq k u) (owners s) ∙ elim (cases_Bool (nat_eq (owner_of b s) u)) [
    | inl e ↦ rw e (ne_eqb t u (λ k. apart (sym k)))
    | inr e ↦ rw e e
  ]

  own_else : (r : ℕ) → r ≢ u → r ≢ t → (s : SectionPos) → nat_eq (owner_of merged s) r ≡ nat_eq (owner_of b s) r
  own_else r n m s = ap (λ k. nat_eq k r) (owners s) ∙ elim (cases_Bool (nat_eq (owner_of b s) u)) [
    | inl e ↦ rw e (ne_eqb t r (λ k. m (sym k)) ∙ sym (ne_eqb (owner_of b s) r (λ k. n (sym k ∙ eqb-true (owner_of b s) u e))))
    | inr e ↦ rw e refl
  ]

  present : (s : SectionPos) → nat_lt 0 (owner_of merged s) ≡ nat_lt 0 (owner_of b s)
  present s = ap (nat_lt 0) (owners s) ∙ elim (cases_Bool (nat_eq (owner_of b s) u)) [
    | inl e ↦ rw e (lt-ltb 0 t pos_t ∙ sym (lt-ltb 0 (owner_of b s) (omega (arith, pos_u, eqb-true (owner_of b s) u e))))
    | inr e ↦ rw e refl
  ]

  united_is : united (rows_of b t) (rows_of b u) ≡ filter (λ s. nat_eq (owner_of merged s) t) all_sections
  united_is = ap (λ ys. united ys (rows_of b u)) (is.rows t pos_t) ∙ united_chosen (λ s. nat_eq (owner_of b s) t) (λ s. nat_eq (owner_of merged s) t) (rows_of b u) (limit t pos_t) own_t

  length_of : (r : ℕ) → 0 < r → length (rows_of b r) ≡ count_sections (λ s. nat_eq (owner_of b s) r)
  length_of r p = ap length (is.rows r p) ∙ length-filter (λ s. nat_eq (owner_of b s) r) all_sections

  united_length : length (united (rows_of b t) (rows_of b u)) ≡ length (rows_of b t) + length (rows_of b u)
  united_length = ap length united_is ∙ length-filter (λ s. nat_eq (owner_of merged s) t) all_sections
      ∙ count_either (λ s. nat_eq (owner_of b s) t) (λ s. nat_eq (owner_of b s) u) (λ s. nat_eq (owner_of merged s) t)
      (λ s h. ne_eqb (owner_of b s) u (λ k. apart (sym k ∙ eqb-true (owner_of b s) t h)))
      (λ s. own_t s ∙ ap (λ x. nat_eq (owner_of b s) t || x) (among_u s)) all_sections
      ∙ (λ i. sym (length_of t pos_t) i + sym (length_of u pos_u) i)

  total_merged : total merged.rows ≡ total b.rows
  unfolding rows_of
  total_merged = omega (arith, total_two b.rows (slot_of b.slots t) (slot_of b.slots u) (united (rows_of b t) (rows_of b u)) (omega (arith, live_slot b t lt, is.row_numbers)) (omega (arith, live_slot b u lu, is.row_numbers)) differ, united_length)

  row_empty : (k : ℕ) → list_at b.rows k ≡ [] → k ≢ slot_of b.slots t → list_at merged.rows k ≡ []
  row_empty k e n = get_or-set_other (with_list b.rows (slot_of b.slots u) []).lists (slot_of b.slots t) k (united (rows_of b t) (rows_of b u)) [] n ∙ elim (cases_eq k (slot_of b.slots u)) [
    | inl f ↦ ap (λ j. list_at (with_list b.rows (slot_of b.slots u) []) j) f ∙ get_or-set_same b.rows.lists (slot_of b.slots u) [] [] (omega (arith, live_slot b u lu, is.row_numbers))
    | inr f ↦ get_or-set_other b.rows.lists (slot_of b.slots u) k [] [] f ∙ e
  ]

  none_ahead : list_at b.ahead (slot_of b.slots u) ≡ []
  unfolding ahead_of
  none_ahead = is.ahead u ∙ none_kept (waits_of b u) none (numbers_below b.next)

  none_behind : list_at b.behind (slot_of b.slots u) ≡ []
  unfolding behind_of
  none_behind = is.behind u ∙ none_kept (λ a. waits_of b a u) nobody (numbers_below b.next)

  unused : (k : ℕ) → ((q : ℕ) → slot_of slots q ≢ k) → (list_at merged.rows k ≡ []) × ((list_at b.ahead k ≡ []) × (list_at b.behind k ≡ []))
  unused k h =
      let nt : k ≢ slot_of b.slots t = λ e. h t (slot_else t (λ f. apart (sym f)) ∙ sym e) in
      elim (cases_eq k (slot_of b.slots u)) [
        | inl e ↦ (
          get_or-set_other (with_list b.rows (slot_of b.slots u) []).lists (slot_of b.slots t) k (united (rows_of b t) (rows_of b u)) [] nt ∙ ap (λ j. list_at (with_list b.rows (slot_of b.slots u) []) j) e
              ∙ get_or-set_same b.rows.lists (slot_of b.slots u) [] [] (omega (arith, live_slot b u lu, is.row_numbers)),
          (ap (list_at b.ahead) e ∙ none_ahead, ap (list_at b.behind) e ∙ none_behind),
        )
        | inr n ↦ let old = is.unused k (λ q x. elim (cases_eq q u) [
          | inl e ↦ n (sym x ∙ ap (slot_of b.slots) e)
          | inr m ↦ h q (slot_else q m ∙ x)
        ]) in (row_empty k old.0 nt, old.1)
      ]

  pub merged_book : IsBook merged
  merged_book = record {
    rows = λ r p. elim (cases_eq r u) [
      | inl e ↦ ap (rows_of merged) e ∙ rows_u ∙ sym (none_kept (λ s. nat_eq (owner_of merged s) u) own_u all_sections) ∙ ap (λ j. filter (λ s. nat_eq (owner_of merged s) j) all_sections) (sym e)
      | inr n ↦ elim (cases_eq r t) [
        | inl e ↦ ap (rows_of merged) e ∙ rows_t ∙ united_is ∙ ap (λ j. filter (λ s. nat_eq (owner_of merged s) j) all_sections) (sym e)
        | inr m ↦ rows_else r n m ∙ is.rows r p ∙ filter_like _ _ (λ s. sym (own_else r n m s)) all_sections
      ]
    ];
    limits = λ s p. is.limits s (ltb-true 0 (owner_of b s) (sym (present s) ∙ lt-ltb 0 (owner_of merged s) p));
    ahead = λ a. elim (cases_eq a u) [
      | inl e ↦ ap (ahead_of merged) e ∙ ahead_u ∙ sym (none_kept (waits_of merged u) (λ k. waits u k ∙ none k) (numbers_below b.next)) ∙ ap (λ j. filter (waits_of merged j) (numbers_below b.next)) (sym e)
      | inr n ↦ ahead_else a n ∙ is.ahead a ∙ filter_like _ _ (λ k. sym (waits a k)) (numbers_below b.next)
    ];
    behind = λ a. elim (cases_eq a u) [
      | inl e ↦ ap (behind_of merged) e ∙ behind_u ∙ sym (none_kept (λ k. waits_of merged k u) (λ k. waits k u ∙ nobody k) (numbers_below b.next)) ∙ ap (λ j. filter (λ k. waits_of merged k j) (numbers_below b.next)) (sym e)
      | inr n ↦ behind_else a n ∙ is.behind a ∙ filter_like _ _ (λ k. sym (waits k a)) (numbers_below b.next)
    ];
    given = λ r h. is.given r (live_before r h).1;
    some = λ r h. let l = live_before r h in elim (cases_eq r t) [
      | inl e ↦ omega (arith, ap (λ j. length (rows_of merged j)) e, ap length rows_t, united_length, is.some t lt)
      | inr m ↦ omega (arith, ap length (rows_else r l.0 m), is.some r l.1)
    ];
    next = is.next;
    unused = unused;
    row_numbers = length-set {A = List SectionPos} (with_list b.rows (slot_of b.slots u) []).lists (slot_of b.slots t) (united (rows_of b t) (rows_of b u)) ∙ numbers ∙ sym room;
    ahead_numbers = is.ahead_numbers ∙ sym room;
    behind_numbers = is.behind_numbers ∙ sym room;
    ahead_fits = is.ahead_fits;
    behind_fits = is.behind_fits;
    total = total_merged ∙ is.total ∙ count_like _ _ (λ s. sym (present s)) all_sections;
    row_room = is.row_room;
    room = omega (arith, room, is.room);
  }
