-- A new region.
use Rattle.std.proofs.Common.{◌≡◌, ℕ, zero, suc, ◌+◌, ◌≤◌, ◌<◌, refl, sym, ◌∙◌, ap, arith, true, false, cond, ◌||◌, List, [], ◌∷◌, length, inl, inr, get_or}
use Rattle.std.specs.Prelude.{◌≢◌, ℤ, filter, nat_eq, nat_lt, Option, Some, None, is_some, sum_by, replicate}
use Rattle.std.specs.List.{count_by, list_any}
use Rattle.std.proofs.Math.Path.{fun_ext}
use Rattle.std.proofs.lemmas.Bool.{cases_Bool, cases_eq, true≢false, eq-eqb, ne_eqb, lt-ltb, le-ltb}
use Rattle.std.proofs.lemmas.List.{length-replicate, length-set, get_or-set_same, get_or-set_other}
use Rattle.std.proofs.lemmas.List.Sums.{sum_by-cons}
use Rattle.fol_lists.specs.Numbered.{list_at, total, with_list}
use Rattle.fol_model.specs.declared.places.SectionPos.{SectionPos}
use Rattle.fol_model.specs.declared.regions.State.{State}
use Rattle.fol_model.specs.GridState.{with_state}
use Rattle.fol_model.specs.Universe.{all_sections, numbers_below}
use Rattle.fol_laws.proofs.ListCounts.{count_by-cons, count_by-none}
use Rattle.fol_pages.specs.Pages.{LieIn}
use Rattle.fol_region_tables.specs.declared.slots.Region.{Region}
use Rattle.fol_model.specs.Geometry.{is_among}
use Rattle.fol_region_tables.specs.Slots.{SlotTable, region_at, slot_of, slot_state}
use Rattle.fol_region_tables.specs.Owners.{owner_in}
use Rattle.fol_region_tables.specs.declared.pages.OwnerPage.{OwnerPage}
use Rattle.fol_region_tables.specs.Book.{Book, IsBook, Makes, owner_of, state_of, is_live, rows_of, ahead_of, behind_of, waits_of}
use Rattle.fol_region_tables.proofs.BookFacts.{slot_live, not_live, no_list, owner_live, live_next, waits_next, waiter_lives}
use Rattle.fol_region_tables.proofs.Chosen.{filter_like, none_kept}
use Rattle.fol_region_tables.proofs.PartingSteps.{filter_next}
use Rattle.fol_region_tables.proofs.OwnSteps.{own_other, own_here, own_count, own_limits}
use Rattle.fol_region_tables.proofs.Totals.{total_with}

-- where each region has a list that is not empty, there are no more regions than elements
pub live_few : {X : Type 0} (os : List (Option Region)) (ls : List (List X)) → ((k : ℕ) (r : Region) → get_or os k None ≡ Some r → 0 < length (get_or ls k [])) → count_by is_some os ≤ sum_by length ls
live_few [] ls h = omega arith
live_few {X} (None ∷ os) [] h = omega (arith, count_by-cons is_some None os, live_few {X = X} os [] (λ k r e. h (suc k) r e))
live_few {X} (None ∷ os) (l ∷ ls) h = omega (arith, count_by-cons is_some None os, sum_by-cons {X = List X} length l ls, live_few {X = X} os ls (λ k r e. h (suc k) r e))
live_few (Some r ∷ os) [] h = absurd (omega (arith, h 0 r refl))
live_few {X} (Some r ∷ os) (l ∷ ls) h = omega (arith, count_by-cons is_some (Some r) os, sum_by-cons {X = List X} length l ls, live_few {X = X} os ls (λ k q e. h (suc k) q e), h 0 r refl)

pub regions_few : (b : Book) → IsBook b → ((k : ℕ) (r : Region) → region_at b.slots k ≡ Some r → slot_of b.slots r.id ≡ k) → ((k : ℕ) (r : Region) → region_at b.slots k ≡ Some r → k < b.slots.room) → count_by is_some b.slots.regions ≤ total b.rows
unfolding rows_of
regions_few b is own within = live_few b.slots.regions b.rows.lists (λ k r e.
    let s = own k r e in
    let l = slot_live b r.id (omega (arith, s, within k r e)) in
    omega (arith, is.some r.id l, ap (λ j. length (list_at b.rows j)) s))

module _ (b : Book) (is : IsBook b) (xs : List SectionPos) (some : 0 < length xs) (absent : (s : SectionPos) → is_among xs s ≡ true → owner_of b s ≡ 0) (row : xs ≡ filter (is_among xs) all_sections)
    (owned : List ((ℤ × ℤ) × OwnerPage)) (free : ℕ) (set : (q : SectionPos) → owner_in owned q ≡ cond (is_among xs q) b.next (owner_of b q))
    (slots : SlotTable) (k : ℕ) (within : k < b.slots.room) (fresh : (q : ℕ) → slot_of b.slots q ≢ k) (moved : slot_of slots ≡ (λ q. cond (nat_eq b.next q) k (slot_of b.slots q))) (room : slots.room ≡ b.slots.room) where
  abbrev pub made : Book
  made = record b { owned = owned; free = free; slots = slots; rows = with_list b.rows k xs; next = b.next + 1 }

  pub next_free : is_live b b.next ≡ false
  next_free = elim (cases_Bool (is_live b b.next)) [ inl e ↦ absurd (omega (arith, live_next b is b.next e)) | inr e ↦ e ]

  owners : (s : SectionPos) → owner_of made s ≡ cond (is_among xs s) b.next (owner_of b s)
  unfolding owner_of
  owners s = set s

  never : (s : SectionPos) → nat_eq (owner_of b s) b.next ≡ false
  never s = ne_eqb (owner_of b s) b.next (λ e. let l = owner_live b is s (omega (arith, e, is.next)) in omega (arith, live_next b is (owner_of b s) l))

  slot_next : slot_of slots b.next ≡ k
  slot_next = ap (λ (f : ℕ → ℕ). f b.next) moved ∙ ap (λ x. cond x k (slot_of b.slots b.next)) (eq-eqb b.next b.next refl)

  slot_else : (q : ℕ) → q ≢ b.next → slot_of slots q ≡ slot_of b.slots q
  slot_else q n = ap (λ (f : ℕ → ℕ). f q) moved ∙ ap (λ x. cond x k (slot_of b.slots q)) (ne_eqb b.next q (λ e. n (sym e)))

  blank : (list_at b.rows k ≡ []) × ((list_at b.ahead k ≡ []) × (list_at b.behind k ≡ []))
  blank = is.unused k fresh

  rows_next : rows_of made b.next ≡ xs
  unfolding rows_of
  rows_next = ap (list_at made.rows) slot_next ∙ get_or-set_same b.rows.lists k xs [] (omega (arith, within, is.row_numbers))

  rows_else : (r : ℕ) → r ≢ b.next → rows_of made r ≡ rows_of b r
  unfolding rows_of
  rows_else r n = ap (list_at made.rows) (slot_else r n) ∙ get_or-set_other b.rows.lists k (slot_of b.slots r) xs [] (fresh r)

  ahead_next : ahead_of made b.next ≡ []
  unfolding ahead_of
  ahead_next = ap (list_at b.ahead) slot_next ∙ blank.1.0

  ahead_else : (r : ℕ) → r ≢ b.next → ahead_of made r ≡ ahead_of b r
  unfolding ahead_of
  ahead_else r n = ap (list_at b.ahead) (slot_else r n)

  behind_next : behind_of made b.next ≡ []
  unfolding behind_of
  behind_next = ap (list_at b.behind) slot_next ∙ blank.1.1

  behind_else : (r : ℕ) → r ≢ b.next → behind_of made r ≡ behind_of b r
  unfolding behind_of
  behind_else r n = ap (list_at b.behind) (slot_else r n)

  ahead_was : ahead_of b b.next ≡ []
  unfolding ahead_of
  ahead_was = no_list b.ahead (slot_of b.slots b.next) (omega (arith, not_live b b.next next_free, is.ahead_numbers))

  behind_was : behind_of b b.next ≡ []
  unfolding behind_of
  behind_was = no_list b.behind (slot_of b.slots b.next) (omega (arith, not_live b b.next next_free, is.behind_numbers))

  ahead_same : (r : ℕ) → ahead_of made r ≡ ahead_of b r
  ahead_same r = elim (cases_eq r b.next) [
    | inl e ↦ ap (ahead_of made) e ∙ ahead_next ∙ sym ahead_was ∙ ap (ahead_of b) (sym e)
    | inr n ↦ ahead_else r n
  ]

  behind_same : (r : ℕ) → behind_of made r ≡ behind_of b r
  behind_same r = elim (cases_eq r b.next) [
    | inl e ↦ ap (behind_of made) e ∙ behind_next ∙ sym behind_was ∙ ap (behind_of b) (sym e)
    | inr n ↦ behind_else r n
  ]

  waits : (a t : ℕ) → waits_of made a t ≡ waits_of b a t
  unfolding waits_of
  waits a t = ap (list_any (nat_eq t)) (ahead_same a)

  not_next : (a : ℕ) → waits_of b a b.next ≡ false
  not_next a = elim (cases_Bool (waits_of b a b.next)) [ inl e ↦ absurd (omega (arith, waits_next b is a b.next e)) | inr e ↦ e ]

  not_from_next : (t : ℕ) → waits_of b b.next t ≡ false
  not_from_next t = elim (cases_Bool (waits_of b b.next t)) [ inl e ↦ absurd (true≢false (sym (waiter_lives b is b.next t e) ∙ next_free)) | inr e ↦ e ]

  live_is : (r : ℕ) → is_live made r ≡ (nat_eq r b.next || is_live b r)
  unfolding is_live
  live_is r = elim (cases_eq r b.next) [
    | inl e ↦ let p : nat_eq r b.next ≡ true = eq-eqb r b.next e in rw p (lt-ltb (slot_of slots r) slots.room (omega (arith, ap (slot_of slots) e, slot_next, within, room)))
    | inr n ↦ let p : nat_eq r b.next ≡ false = ne_eqb r b.next n in rw p (λ i. nat_lt (slot_else r n i) (room i))
  ]

  live_else : (r : ℕ) → r ≢ b.next → is_live made r ≡ true → is_live b r ≡ true
  live_else r n h = sym (live_is r ∙ ap (λ x. x || is_live b r) (ne_eqb r b.next n)) ∙ h

  own_next : (s : SectionPos) → nat_eq (owner_of made s) b.next ≡ is_among xs s
  own_next s = own_here (owner_of b) (owner_of made) xs b.next is.next owners absent row s ∙ ap (λ x. x || is_among xs s) (never s)

  total_made : total made.rows ≡ total b.rows + length xs
  total_made = omega (arith, total_with b.rows k xs (omega (arith, within, is.row_numbers)), ap length blank.0)

  unused : (j : ℕ) → ((q : ℕ) → slot_of slots q ≢ j) → (list_at made.rows j ≡ []) × ((list_at b.ahead j ≡ []) × (list_at b.behind j ≡ []))
  unused j h =
      let other : j ≢ k = λ e. h b.next (slot_next ∙ sym e) in
      let put = get_or-set_other b.rows.lists k j xs [] other in
      elim (cases_eq j b.slots.room) [
        | inl e ↦ (put ∙ no_list b.rows j (omega (arith, e, is.row_numbers)), (no_list b.ahead j (omega (arith, e, is.ahead_numbers)), no_list b.behind j (omega (arith, e, is.behind_numbers))))
        | inr n ↦ let old = is.unused j (λ q x. elim (cases_eq q b.next) [
          | inl e ↦ n (sym x ∙ ap (slot_of b.slots) e ∙ not_live b b.next next_free)
          | inr m ↦ h q (slot_else q m ∙ x)
        ]) in (put ∙ old.0, old.1)
      ]

  pub made_book : IsBook made
  made_book = record {
    rows = λ r p. elim (cases_eq r b.next) [
      | inl e ↦ ap (rows_of made) e ∙ rows_next ∙ row ∙ filter_like _ _ (λ s. sym (own_next s)) all_sections ∙ ap (λ j. filter (λ s. nat_eq (owner_of made s) j) all_sections) (sym e)
      | inr n ↦ rows_else r n ∙ is.rows r p ∙ filter_like _ _ (λ s. sym (own_other (owner_of b) (owner_of made) xs b.next is.next owners absent row r p n s)) all_sections
    ];
    limits = own_limits (owner_of b) (owner_of made) xs b.next is.next owners absent row is.limits;
    ahead = λ a. ahead_same a ∙ is.ahead a ∙ filter_like _ _ (λ t. sym (waits a t)) (numbers_below b.next) ∙ sym (filter_next (waits_of made a) b.next (waits a b.next ∙ not_next a));
    behind = λ a. behind_same a ∙ is.behind a ∙ filter_like _ _ (λ t. sym (waits t a)) (numbers_below b.next) ∙ sym (filter_next (λ t. waits_of made t a) b.next (waits b.next a ∙ not_from_next a));
    given = λ r h. elim (cases_eq r b.next) [
      | inl e ↦ (omega (arith, is.next), omega arith)
      | inr n ↦ let g = is.given r (live_else r n h) in (g.0, omega (arith, g.1))
    ];
    some = λ r h. elim (cases_eq r b.next) [
      | inl e ↦ omega (arith, ap (λ j. length (rows_of made j)) e, ap length rows_next, some)
      | inr n ↦ omega (arith, ap length (rows_else r n), is.some r (live_else r n h))
    ];
    next = omega arith;
    unused = unused;
    row_numbers = length-set {A = List SectionPos} b.rows.lists k xs ∙ is.row_numbers ∙ sym room;
    ahead_numbers = is.ahead_numbers ∙ sym room;
    behind_numbers = is.behind_numbers ∙ sym room;
    ahead_fits = is.ahead_fits;
    behind_fits = is.behind_fits;
    total = total_made ∙ ap (λ n. n + length xs) is.total ∙ sym (own_count (owner_of b) (owner_of made) xs b.next is.next owners absent row);
    row_room = is.row_room;
    room = omega (arith, room, is.room);
  }

  pub made_is : (state : State) → slot_state slots ≡ with_state (slot_state b.slots) b.next state → ((n : ℕ) → LieIn (is_among xs) n → b.free ≤ free + n) → Makes b made xs state
  unfolding state_of
  made_is state h l = record {
    owner = fun_ext owners;
    state = fun_ext (λ q. ap (λ (f : ℕ → State). f q) h);
    waits = fun_ext (λ a. fun_ext (λ t. waits a t));
    live = fun_ext live_is;
    next = refl;
    free = l;
  }

-- ---- no region
pub total_none : (X : Type 0) (n : ℕ) → sum_by {X = List X} length (replicate n []) ≡ 0
total_none X zero = refl
total_none X (suc n) = omega (arith, sum_by-cons {X = List X} length [] (replicate n []), total_none X n)

module _ {X : Type 0} where
  pub list_none : (n k : ℕ) → get_or {A = List X} (replicate n []) k [] ≡ []
  list_none zero k = refl
  list_none (suc n) zero = refl
  list_none (suc n) (suc k) = list_none n k

pub empty_book : (b : Book) (n : ℕ) → ((s : SectionPos) → owner_in b.owned s ≡ 0) → ((r : ℕ) → slot_of b.slots r ≡ b.slots.room) → b.slots.room ≡ n → b.rows ≡ record { lists = replicate n []; room = 16384 } → b.ahead ≡ record { lists = replicate n []; room = 0 } → b.behind ≡ record { lists = replicate n []; room = 0 } → b.next ≡ 1
    → 16384 ≤ b.slots.room → IsBook b
unfolding is_live owner_of rows_of ahead_of behind_of waits_of
empty_book b n nobody none numbers rows ahead behind next room = record {
  rows = λ r p. no_row r ∙ sym (none_kept (λ s. nat_eq (owner_in b.owned s) r) (λ s. ne_eqb (owner_in b.owned s) r (λ e. omega (arith, e, p, nobody s))) all_sections);
  limits = λ s p. absurd (omega (arith, p, nobody s));
  ahead = λ u. no_ahead u ∙ sym (none_kept (λ t. list_any (nat_eq t) (list_at b.ahead (slot_of b.slots u))) (λ t. ap (list_any (nat_eq t)) (no_ahead u)) (numbers_below b.next));
  behind = λ t. no_behind t ∙ sym (none_kept (λ u. list_any (nat_eq t) (list_at b.ahead (slot_of b.slots u))) (λ u. ap (list_any (nat_eq t)) (no_ahead u)) (numbers_below b.next));
  given = λ r h. absurd (true≢false (sym h ∙ le-ltb (slot_of b.slots r) b.slots.room (omega (arith, none r))));
  some = λ r h. absurd (true≢false (sym h ∙ le-ltb (slot_of b.slots r) b.slots.room (omega (arith, none r))));
  next = omega arith;
  unused = λ k h. (ap (λ v. list_at v k) rows ∙ list_none n k, (ap (λ v. list_at v k) ahead ∙ list_none n k, ap (λ v. list_at v k) behind ∙ list_none n k));
  row_numbers = ap (λ v. length v.lists) rows ∙ length-replicate n [] ∙ sym numbers;
  ahead_numbers = ap (λ v. length v.lists) ahead ∙ length-replicate n [] ∙ sym numbers;
  behind_numbers = ap (λ v. length v.lists) behind ∙ length-replicate n [] ∙ sym numbers;
  ahead_fits = omega (arith, ap total ahead, total_none ℕ n, ap (λ v. v.room) ahead);
  behind_fits = omega (arith, ap total behind, total_none ℕ n, ap (λ v. v.room) behind);
  total = ap total rows ∙ total_none SectionPos n ∙ sym (count_by-none (λ s. nat_lt 0 (owner_in b.owned s)) (λ s. le-ltb 0 (owner_in b.owned s) (omega (arith, nobody s))) all_sections);
  row_room = ap (λ v. v.room) rows;
  room = room;
}
  where
    no_row : (r : ℕ) → list_at b.rows (slot_of b.slots r) ≡ []
    no_row r = ap (λ v. list_at v (slot_of b.slots r)) rows ∙ list_none n (slot_of b.slots r)

    no_ahead : (r : ℕ) → list_at b.ahead (slot_of b.slots r) ≡ []
    no_ahead r = ap (λ v. list_at v (slot_of b.slots r)) ahead ∙ list_none n (slot_of b.slots r)

    no_behind : (r : ℕ) → list_at b.behind (slot_of b.slots r) ≡ []
    no_behind r = ap (λ v. list_at v (slot_of b.slots r)) behind ∙ list_none n (slot_of b.slots r)
