-- Tables in memory of their own, with as many slots or more.
use Rattle.std.proofs.Common.{◌≡◌, ℕ, ◌-◌, ◌≤◌, ◌<◌, refl, sym, ◌∙◌, ap, arith, Bool, true, inl, inr, List, [], length, length-append}
use Rattle.std.specs.Prelude.{◌≢◌, nat_eq, nat_lt, replicate, Option, Some, None}
use Rattle.std.specs.List.{AllZip, list_any, slice_index_or}
use Rattle.std.proofs.Math.Path.{fun_ext}
use Rattle.std.proofs.lemmas.Bool.{cases_Bool, cases_lt, le-ltb, lt-ltb, true≢false}
use Rattle.std.proofs.lemmas.List.{get_or_past, get_or_append_left, get_or-append_right, get_or-replicate, length-replicate}
use Rattle.std.proofs.lemmas.List.Elements.{same_from_all_zip}
use Rattle.std.proofs.lemmas.List.Folds.{sum_by-replicate}
use Rattle.std.proofs.lemmas.List.Sums.{sum_by-append}
use Rattle.slab.specs.Slab.{IsSlotClone}
use Rattle.fol_lists.specs.Numbered.{Numbered, list_at, total, with_numbers}
use Rattle.fol_model.specs.declared.places.SectionPos.{SectionPos}
use Rattle.fol_model.specs.Counting.{least}
use Rattle.fol_laws.proofs.NumbersBelow.{least-below, least-passes}
use Rattle.fol_region_tables.specs.declared.slots.Region.{Region}
use Rattle.fol_region_tables.specs.Book.{Book, IsAlike, IsBook, ahead_of, behind_of, is_live, owner_of, rows_of, state_of, waits_of}
use Rattle.fol_region_tables.specs.SlotKeys.{AreKeys}
use Rattle.fol_region_tables.specs.Slots.{has_id, region_at, slot_of, slot_state, state_in}
use Rattle.fol_region_tables.proofs.BookFacts.{no_list}
use Rattle.fol_region_tables.proofs.PartingSteps.{count_same}
use Rattle.fol_region_tables.proofs.SlotSteps.{least-none}

-- ---- the slots
slot_same : (C : Region → Region → Type 0) → ((x y : Region) → C x y → y ≡ x) → (x y : Option Region) → IsSlotClone C x y → y ≡ x
slot_same C h None y r = r
slot_same C h (Some x) None r = absurd r
slot_same C h (Some x) (Some y) r = ap (λ (q : Region). Some q) (h x y r)

pub slots_same : (C : Region → Region → Type 0) → ((x y : Region) → C x y → y ≡ x) → (xs ys : List (Option Region)) → AllZip (IsSlotClone C) xs ys → ys ≡ xs
slots_same C h xs ys all = same_from_all_zip (IsSlotClone C) xs ys all (slot_same C h)

-- the same regions, as many slots or more, and the same keys
pub keys_copied : (xs ys : List (Option Region)) (room more : ℕ) (keys copied : List ℕ) → AreKeys xs room keys → ys ≡ xs → room ≤ more → copied ≡ keys → AreKeys ys more copied
keys_copied xs ys room more keys copied h same l e = record {
  one = λ j k q r a b. h.one j k q r (sym (ap (λ zs. slice_index_or zs j None) same) ∙ a) (sym (ap (λ zs. slice_index_or zs k None) same) ∙ b);
  found = λ k r a. rw e (h.found k r (sym (ap (λ zs. slice_index_or zs k None) same) ∙ a));
  within = λ k m. ap (λ zs. slice_index_or zs k None) same ∙ h.within k (omega arith);
  most = omega (arith, h.most);
}

-- ---- lists with more numbers
module _ {T : Type 0} (v : Numbered T) (n : ℕ) where
  pub numbers_at : (k : ℕ) → list_at (with_numbers v n) k ≡ list_at v k
  numbers_at k = elim (cases_lt k (length v.lists)) [
    | inl l ↦ get_or_append_left v.lists (replicate (n - length v.lists) []) [] k l
    | inr l ↦ get_or-append_right v.lists (replicate (n - length v.lists) []) (length v.lists) k [] refl l ∙ none (n - length v.lists) (k - length v.lists) ∙ sym (get_or_past v.lists k [] l)
  ]
    where
      none : (m i : ℕ) → slice_index_or (replicate m (let xs : List T = [] in xs)) i [] ≡ []
      none m i = elim (cases_lt i m) [
        | inl l ↦ get_or-replicate m i [] [] l
        | inr l ↦ get_or_past (replicate m []) i [] (omega (arith, length-replicate {A = List T} m []))
      ]

  pub numbers_total : total (with_numbers v n) ≡ total v
  numbers_total = omega (arith, sum_by-append (length {A = T}) v.lists (replicate (n - length v.lists) []), sum_by-replicate (length {A = T}) (n - length v.lists) [])

  pub numbers_length : length v.lists ≤ n → length (with_numbers v n).lists ≡ n
  numbers_length l = omega (arith, length-append v.lists (replicate (n - length v.lists) []), length-replicate {A = List T} (n - length v.lists) [])

-- ---- the tables
module _ (b c : Book) (h : IsBook b) (within : (k : ℕ) (r : Region) → region_at b.slots k ≡ Some r → k < b.slots.room) (owner : (s : SectionPos) → owner_of c s ≡ owner_of b s)
    (regions : c.slots.regions ≡ b.slots.regions) (more : b.slots.room ≤ c.slots.room) (rows : c.rows ≡ with_numbers b.rows c.slots.room) (ahead : c.ahead ≡ with_numbers b.ahead c.slots.room)
    (behind : c.behind ≡ with_numbers b.behind c.slots.room) (next : c.next ≡ b.next) where
  at_same : (k : ℕ) → region_at c.slots k ≡ region_at b.slots k
  at_same k = ap (λ zs. slice_index_or zs k None) regions

  at_past : (k : ℕ) → b.slots.room ≤ k → region_at b.slots k ≡ None
  at_past k l = none (region_at b.slots k) refl
    where
      none : (o : Option Region) → region_at b.slots k ≡ o → o ≡ None
      none None e = refl
      none (Some r) e = absurd (let m = within k r e in omega arith)

  -- a region with a slot has the same
  slot_live : (r : ℕ) → slot_of b.slots r < b.slots.room → slot_of c.slots r ≡ slot_of b.slots r
  unfolding slot_of
  slot_live r l =
      let p : ℕ → Bool = λ k. has_id r (region_at b.slots k) in
      let q : ℕ → Bool = λ k. has_id r (region_at c.slots k) in
      let same : q ≡ p = fun_ext (λ k. ap (has_id r) (at_same k)) in
      let k : ℕ = least p b.slots.room in
      let passes : p k ≡ true = least-passes p b.slots.room l in
      let below = least-below p c.slots.room k (omega arith) passes in
      let m : ℕ = least p c.slots.room in
      let there : p m ≡ true = least-passes p c.slots.room (omega arith) in
      let above = least-below p b.slots.room m (omega arith) there in
      ap (λ (f : ℕ → Bool). least f c.slots.room) same ∙ omega arith

  slot_none : (r : ℕ) → b.slots.room ≤ slot_of b.slots r → slot_of c.slots r ≡ c.slots.room
  unfolding slot_of
  slot_none r l = least-none (λ k. has_id r (region_at c.slots k)) c.slots.room (λ k m. elim (cases_Bool (has_id r (region_at b.slots k))) [
    | inl e ↦ elim (cases_lt k b.slots.room) [
      | inl low ↦ absurd (let f = least-below (λ j. has_id r (region_at b.slots j)) b.slots.room k low e in omega arith)
      | inr high ↦ absurd (true≢false (sym e ∙ ap (has_id r) (at_past k high)))
    ]
    | inr e ↦ ap (has_id r) (at_same k) ∙ e
  ])

  -- a list by number, of a region
  list_same : {T : Type 0} (v w : Numbered T) → w ≡ with_numbers v c.slots.room → length v.lists ≡ b.slots.room → (r : ℕ) → list_at w (slot_of c.slots r) ≡ list_at v (slot_of b.slots r)
  list_same v w e numbers r = ap (λ u. list_at u (slot_of c.slots r)) e ∙ numbers_at v c.slots.room (slot_of c.slots r) ∙ elim (cases_lt (slot_of b.slots r) b.slots.room) [
    | inl l ↦ ap (list_at v) (slot_live r l)
    | inr l ↦ let s = slot_none r l in no_list v (slot_of c.slots r) (omega arith) ∙ sym (no_list v (slot_of b.slots r) (omega arith))
  ]

  rows_c : rows_of c ≡ rows_of b
  unfolding rows_of
  rows_c = fun_ext (list_same b.rows c.rows rows h.row_numbers)

  ahead_c : ahead_of c ≡ ahead_of b
  unfolding ahead_of
  ahead_c = fun_ext (list_same b.ahead c.ahead ahead h.ahead_numbers)

  behind_c : behind_of c ≡ behind_of b
  unfolding behind_of
  behind_c = fun_ext (list_same b.behind c.behind behind h.behind_numbers)

  waits_c : waits_of c ≡ waits_of b
  unfolding waits_of
  waits_c = fun_ext (λ u. fun_ext (λ t. ap (λ (f : ℕ → List ℕ). list_any (nat_eq t) (f u)) ahead_c))

  live_c : is_live c ≡ is_live b
  unfolding is_live
  live_c = fun_ext (λ r. elim (cases_lt (slot_of b.slots r) b.slots.room) [
    | inl l ↦ let s = slot_live r l in lt-ltb (slot_of c.slots r) c.slots.room (omega arith) ∙ sym (lt-ltb (slot_of b.slots r) b.slots.room l)
    | inr l ↦ let s = slot_none r l in le-ltb (slot_of c.slots r) c.slots.room (omega arith) ∙ sym (le-ltb (slot_of b.slots r) b.slots.room l)
  ])

  state_c : state_of c ≡ state_of b
  unfolding state_of slot_state
  state_c = fun_ext (λ r. ap state_in (at_same (slot_of c.slots r) ∙ elim (cases_lt (slot_of b.slots r) b.slots.room) [
    | inl l ↦ ap (region_at b.slots) (slot_live r l)
    | inr l ↦ let s = slot_none r l in at_past (slot_of c.slots r) (omega arith) ∙ sym (at_past (slot_of b.slots r) l)
  ]))

  owner_c : owner_of c ≡ owner_of b
  owner_c = fun_ext owner

  unused_c : {T : Type 0} (v w : Numbered T) → w ≡ with_numbers v c.slots.room → length v.lists ≡ b.slots.room → (k : ℕ) → (k < b.slots.room → list_at v k ≡ []) → list_at w k ≡ []
  unused_c v w e numbers k none = ap (λ u. list_at u k) e ∙ numbers_at v c.slots.room k ∙ elim (cases_lt k b.slots.room) [ inl l ↦ none l | inr l ↦ no_list v k (omega arith) ]

  others : (k : ℕ) → k < b.slots.room → ((q : ℕ) → slot_of c.slots q ≢ k) → (q : ℕ) → slot_of b.slots q ≢ k
  others k l n q e = n q (slot_live q (omega arith) ∙ e)

  pub copied_alike : IsAlike b c
  copied_alike = record { owner = owner_c; state = state_c; waits = waits_c; live = live_c; next = next }

  pub copied_book : IsBook c
  copied_book = record {
    rows = λ r l. let x = rows_c in let o = owner_c in rw (x, o) (h.rows r l);
    limits = let o = owner_c in rw o h.limits;
    ahead = let x = ahead_c in let w = waits_c in rw (x, w, next) h.ahead;
    behind = let x = behind_c in let w = waits_c in rw (x, w, next) h.behind;
    given = let l = live_c in rw (l, next) h.given;
    some = let l = live_c in let x = rows_c in rw (l, x) h.some;
    next = rw next h.next;
    unused = λ k n. (
      unused_c b.rows c.rows rows h.row_numbers k (λ l. (h.unused k (others k l n)).0),
      (unused_c b.ahead c.ahead ahead h.ahead_numbers k (λ l. (h.unused k (others k l n)).1.0), unused_c b.behind c.behind behind h.behind_numbers k (λ l. (h.unused k (others k l n)).1.1)),
    );
    row_numbers = ap (λ v. length v.lists) rows ∙ numbers_length b.rows c.slots.room (omega (arith, h.row_numbers));
    ahead_numbers = ap (λ v. length v.lists) ahead ∙ numbers_length b.ahead c.slots.room (omega (arith, h.ahead_numbers));
    behind_numbers = ap (λ v. length v.lists) behind ∙ numbers_length b.behind c.slots.room (omega (arith, h.behind_numbers));
    ahead_fits = omega (arith, h.ahead_fits, ap total ahead, numbers_total b.ahead c.slots.room, ap (λ v. v.room) ahead);
    behind_fits = omega (arith, h.behind_fits, ap total behind, numbers_total b.behind c.slots.room, ap (λ v. v.room) behind);
    total = ap total rows ∙ numbers_total b.rows c.slots.room ∙ h.total ∙ count_same (λ q. nat_lt 0 (owner_of b q)) (λ q. nat_lt 0 (owner_of c q)) (λ q. ap (λ (f : SectionPos → ℕ). nat_lt 0 (f q)) (sym owner_c));
    row_room = ap (λ v. v.room) rows ∙ h.row_room;
    room = omega (arith, h.room);
  }
