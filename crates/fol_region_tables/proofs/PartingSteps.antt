-- Tables whose lists agree but for one region, while that region loses sections, ends or falls into parts.
use Rattle.std.proofs.Common.{◌≡◌, ℕ, ◌+◌, ◌≤◌, ◌<◌, refl, sym, ◌∙◌, ap, arith, Bool, true, false, cond, inl, inr, ◌⊎◌, ◌&&◌, List, [], ◌∷◌, length, add-one}
use Rattle.std.specs.Prelude.{◌≢◌, nat_eq, nat_lt, if◌then◌else◌, filter, count_by}
use Rattle.std.specs.List.{list_any}
use Rattle.std.proofs.Math.Path.{fun_ext}
use Rattle.std.proofs.lemmas.Bool.{cases_Bool, cases_eq, cases_lt, eq-eqb, ne_eqb, eqb-true, true≢false, and_parts, and_from, lt-ltb, ltb-true, ltb-false}
use Rattle.std.proofs.lemmas.List.{append-nil, get_or-set_same, get_or-set_other, get_or_past, length-set}
use Rattle.std.proofs.lemmas.List.Elements.{filter-append}
use Rattle.std.proofs.lemmas.List.Sums.{length-filter}
use Rattle.fol_lists.specs.Numbered.{list_at, total, with_list}
use Rattle.fol_model.specs.declared.places.SectionPos.{SectionPos}
use Rattle.fol_model.specs.Geometry.{is_section, same_section, is_among}
use Rattle.fol_model.specs.Universe.{all_sections, count_sections, numbers_below}
use Rattle.fol_laws.proofs.AllSections.{some_section-is}
use Rattle.fol_laws.proofs.SamePlaces.{same_section-self}
use Rattle.fol_laws.proofs.SectionOrder.{section_members}
use Rattle.fol_laws.proofs.ListCounts.{count_by-cons}
use Rattle.fol_laws.proofs.NumbersBelow.{some_below-gives}
use Rattle.fol_region_tables.specs.Book.{Book, IsBook, owner_of, waits_of, is_live, rows_of, ahead_of, behind_of}
use Rattle.fol_region_tables.specs.Slots.{slot_of}
use Rattle.fol_region_tables.proofs.SlotSteps.{slot_tells, slot-le}
use Rattle.fol_region_tables.proofs.Totals.{total_with}
use Rattle.fol_region_tables.proofs.Chosen.{filter_some}

-- ---- counts and filters
pub filter_same : {X : Type 0} (p q : X → Bool) (xs : List X) → ((x : X) → p x ≡ q x) → filter p xs ≡ filter q xs
filter_same p q xs h = ap (λ f. filter f xs) (fun_ext h)

pub count_same : (p q : SectionPos → Bool) → ((x : SectionPos) → p x ≡ q x) → count_sections p ≡ count_sections q
count_same p q h = ap count_sections (fun_ext h)

-- each that passes p passes one of q and d
pub count_parts : {X : Type 0} (p q d : X → Bool) → ((x : X) → cond (p x) 1 0 ≡ cond (q x) 1 0 + cond (d x) 1 0) → (xs : List X) → count_by p xs ≡ count_by q xs + count_by d xs
count_parts p q d h [] = refl
count_parts p q d h (x ∷ xs) = omega (arith, count_by-cons p x xs, count_by-cons q x xs, count_by-cons d x xs, h x, count_parts p q d h xs)

-- one more number, which does not pass
pub filter_next : (p : ℕ → Bool) (n : ℕ) → p n ≡ false → filter p (numbers_below (n + 1)) ≡ filter p (numbers_below n)
unfolding numbers_below
filter_next p n h =
    let e = filter-append p (numbers_below n) (n ∷ []) in
    rw (add-one, e, h) (append-nil (filter p (numbers_below n)))

-- ---- the tables but for t
pub record IsBookBut (b : Book) (t : ℕ) : Type 0 where
  pub rows : (r : ℕ) → 0 < r → r ≢ t → rows_of b r ≡ filter (λ s. nat_eq (owner_of b s) r) all_sections
  pub limits : (s : SectionPos) → 0 < owner_of b s → is_section s ≡ true
  pub owned : (s : SectionPos) → 0 < owner_of b s → owner_of b s < b.next
  pub ahead : (u : ℕ) → ahead_of b u ≡ filter (waits_of b u) (numbers_below b.next)
  pub behind : (v : ℕ) → behind_of b v ≡ filter (λ u. waits_of b u v) (numbers_below b.next)
  pub given : (r : ℕ) → is_live b r ≡ true → (0 < r) × (r < b.next)
  pub some : (r : ℕ) → is_live b r ≡ true → r ≢ t → 0 < length (rows_of b r)
  pub next : 0 < b.next
  pub row_numbers : length b.rows.lists ≡ b.slots.room
  pub ahead_numbers : length b.ahead.lists ≡ b.slots.room
  pub behind_numbers : length b.behind.lists ≡ b.slots.room
  pub free_lists : (k : ℕ) → k < b.slots.room → ((r : ℕ) → slot_of b.slots r ≢ k) → (list_at b.rows k ≡ []) × (list_at b.ahead k ≡ []) × (list_at b.behind k ≡ [])
  pub ahead_fits : total b.ahead ≤ b.ahead.room
  pub behind_fits : total b.behind ≤ b.behind.room
  pub total : total b.rows + count_sections (λ s. nat_eq (owner_of b s) t) ≡ count_sections (λ s. nat_lt 0 (owner_of b s)) + length (rows_of b t)
  pub row_room : b.rows.room ≡ 16384
  pub room : 16384 ≤ b.slots.room

pub live_is : (b : Book) (r : ℕ) → is_live b r ≡ true → slot_of b.slots r < b.slots.room
unfolding is_live
live_is b r h = ltb-true _ _ h

pub not_live : (b : Book) (r : ℕ) → is_live b r ≡ false → b.slots.room ≤ slot_of b.slots r
unfolding is_live
not_live b r h = ltb-false _ _ h

-- a region with no slot has no list
pub rows_past : (b : Book) (r : ℕ) → length b.rows.lists ≡ b.slots.room → is_live b r ≡ false → rows_of b r ≡ []
unfolding rows_of
rows_past b r e h = get_or_past b.rows.lists (slot_of b.slots r) [] (omega (arith, e, not_live b r h))

pub but_from : (b : Book) (t : ℕ) → 0 < t → IsBook b → IsBookBut b t
but_from b t pos h = record {
  rows = λ r l n. h.rows r l;
  limits = h.limits;
  owned = λ s l. elim (cases_Bool (is_live b (owner_of b s))) [
    | inl e ↦ (h.given (owner_of b s) e).1
    | inr e ↦ absurd (
        let z : filter (λ q. nat_eq (owner_of b q) (owner_of b s)) all_sections ≡ [] = sym (h.rows (owner_of b s) l) ∙ rows_past b (owner_of b s) h.row_numbers e in
        let m : list_any (same_section s) (filter (λ q. nat_eq (owner_of b q) (owner_of b s)) all_sections) ≡ true =
        section_members (λ q. nat_eq (owner_of b q) (owner_of b s)) all_sections s
        ∙ and_from _ _ (eq-eqb (owner_of b s) (owner_of b s) refl) (some_section-is (same_section s) s (h.limits s l) (same_section-self s)) in
        let x : false ≡ true = sym (ap (λ xs. list_any (same_section s) xs) z) ∙ m in
        true≢false (sym x))
  ];
  ahead = h.ahead;
  behind = h.behind;
  given = h.given;
  some = λ r e n. h.some r e;
  next = h.next;
  row_numbers = h.row_numbers;
  ahead_numbers = h.ahead_numbers;
  behind_numbers = h.behind_numbers;
  free_lists = λ k l f. let u = h.unused k f in (u.0, u.1.0, u.1.1);
  total = let e = h.rows t pos in omega (arith, h.total, ap length e, length-filter (λ s. nat_eq (owner_of b s) t) all_sections);
  row_room = h.row_room;
  room = h.room;
  ahead_fits = h.ahead_fits;
  behind_fits = h.behind_fits;
}

pub but_to : (b : Book) (t : ℕ) → IsBookBut b t → rows_of b t ≡ filter (λ s. nat_eq (owner_of b s) t) all_sections → (is_live b t ≡ true → 0 < length (rows_of b t)) → IsBook b
but_to b t h row some = record {
  rows = λ r l. elim (cases_eq r t) [ inl e ↦ rw e row | inr n ↦ h.rows r l n ];
  limits = h.limits;
  ahead = h.ahead;
  behind = h.behind;
  given = h.given;
  some = λ r e. elim (cases_eq r t) [ inl x ↦ rw x (some (rw x at e)) | inr n ↦ h.some r e n ];
  next = h.next;
  row_numbers = h.row_numbers;
  ahead_numbers = h.ahead_numbers;
  behind_numbers = h.behind_numbers;
  unused = λ k f. elim (cases_lt k b.slots.room) [
    | inl l ↦ let e = h.free_lists k l f in (e.0, (e.1, e.2))
    | inr l ↦ (get_or_past b.rows.lists k [] (omega (arith, h.row_numbers)), (get_or_past b.ahead.lists k [] (omega (arith, h.ahead_numbers)), get_or_past b.behind.lists k [] (omega (arith, h.behind_numbers))))
  ];
  total = omega (arith, h.total, ap length row, length-filter (λ s. nat_eq (owner_of b s) t) all_sections);
  row_room = h.row_room;
  room = h.room;
  ahead_fits = h.ahead_fits;
  behind_fits = h.behind_fits;
}

-- ---- sections of t lose their owner
module _ (b c : Book) (t : ℕ) (pos : 0 < t) (h : IsBookBut b t) (out : SectionPos → Bool) (owns : (s : SectionPos) → out s ≡ true → owner_of b s ≡ t)
    (owner : (s : SectionPos) → owner_of c s ≡ (if out s then 0 else owner_of b s))
    (slots : c.slots ≡ b.slots) (rows : c.rows ≡ b.rows) (ahead : c.ahead ≡ b.ahead) (behind : c.behind ≡ b.behind) (next : c.next ≡ b.next) where
  dropped_from : (s : SectionPos) → 0 < owner_of c s → (out s ≡ false) × (owner_of c s ≡ owner_of b s)
  dropped_from s l = elim (cases_Bool (out s)) [
    | inl e ↦ absurd (let o = owner s in let z : owner_of c s ≡ 0 = rw e at o in omega arith)
    | inr e ↦ let o = owner s in (e, rw e at o)
  ]

  rows_c : (r : ℕ) → rows_of c r ≡ rows_of b r
  unfolding rows_of
  rows_c r = rw (slots, rows) refl

  ahead_c : (r : ℕ) → ahead_of c r ≡ ahead_of b r
  unfolding ahead_of
  ahead_c r = rw (slots, ahead) refl

  behind_c : (r : ℕ) → behind_of c r ≡ behind_of b r
  unfolding behind_of
  behind_c r = rw (slots, behind) refl

  live_c : (r : ℕ) → is_live c r ≡ is_live b r
  unfolding is_live
  live_c r = rw slots refl

  pub dropped_waits : (u v : ℕ) → waits_of c u v ≡ waits_of b u v
  unfolding waits_of
  dropped_waits u v = ap (λ xs. list_any (nat_eq v) xs) (ahead_c u)

  test_t : (s : SectionPos) → cond (nat_eq (owner_of b s) t) 1 0 ≡ cond (nat_eq (owner_of c s) t) 1 0 + cond (out s) 1 0
  test_t s =
      let o = owner s in
      elim (cases_Bool (out s)) [
        | inl e ↦ let z : owner_of c s ≡ 0 = rw e at o in let w = owns s e in
            let x : nat_eq t t ≡ true = eq-eqb t t refl in let y : nat_eq 0 t ≡ false = ne_eqb 0 t (λ k. absurd (omega arith)) in rw (e, z, w, x, y) (omega arith)
        | inr e ↦ let z : owner_of c s ≡ owner_of b s = rw e at o in rw (e, z) (omega arith)
      ]

  test_all : (s : SectionPos) → cond (nat_lt 0 (owner_of b s)) 1 0 ≡ cond (nat_lt 0 (owner_of c s)) 1 0 + cond (out s) 1 0
  test_all s =
      let o = owner s in
      elim (cases_Bool (out s)) [
        | inl e ↦ let z : owner_of c s ≡ 0 = rw e at o in let w = owns s e in
            let x : nat_lt 0 t ≡ true = lt-ltb 0 t pos in rw (e, z, w, x) refl
        | inr e ↦ let z : owner_of c s ≡ owner_of b s = rw e at o in rw (e, z) (omega arith)
      ]

  pub dropped : IsBookBut c t
  dropped = record {
    rows = λ r l n. rows_c r ∙ h.rows r l n ∙ filter_same _ _ all_sections (λ s.
        let o = owner s in
        elim (cases_Bool (out s)) [
          | inl e ↦ let z : owner_of c s ≡ 0 = rw e at o in let w = owns s e in
              let x : nat_eq t r ≡ false = ne_eqb t r (λ k. n (sym k)) in let y : nat_eq 0 r ≡ false = ne_eqb 0 r (λ k. absurd (omega arith)) in rw (z, w, x, y) refl
          | inr e ↦ let z : owner_of c s ≡ owner_of b s = rw e at o in rw z refl
        ]);
    limits = λ s l. let d = dropped_from s l in h.limits s (let e = d.1 in rw (← e) l);
    owned = λ s l. let d = dropped_from s l in omega (arith, d.1, next, h.owned s (omega (arith, d.1)));
    ahead = λ u. ahead_c u ∙ h.ahead u ∙ ap (λ f. filter f (numbers_below b.next)) (fun_ext (λ v. sym (dropped_waits u v))) ∙ ap (λ n. filter (waits_of c u) (numbers_below n)) (sym next);
    behind = λ v. behind_c v ∙ h.behind v ∙ ap (λ f. filter f (numbers_below b.next)) (fun_ext (λ u. sym (dropped_waits u v))) ∙ ap (λ n. filter (λ u. waits_of c u v) (numbers_below n)) (sym next);
    given = λ r e. let g = h.given r (sym (live_c r) ∙ e) in (g.0, omega (arith, g.1, next));
    some = λ r e n. omega (arith, ap length (rows_c r), h.some r (sym (live_c r) ∙ e) n);
    next = omega (arith, next, h.next);
    row_numbers = rw (slots, rows) h.row_numbers;
    ahead_numbers = rw (slots, ahead) h.ahead_numbers;
    behind_numbers = rw (slots, behind) h.behind_numbers;
    free_lists = rw (slots, rows, ahead, behind) h.free_lists;
    total = omega (
      arith,
      h.total,
      ap total rows,
      ap length (rows_c t),
      count_parts (λ s. nat_eq (owner_of b s) t) (λ s. nat_eq (owner_of c s) t) out test_t all_sections,
      count_parts (λ s. nat_lt 0 (owner_of b s)) (λ s. nat_lt 0 (owner_of c s)) out test_all all_sections,
    );
    row_room = rw rows h.row_room;
    room = rw slots h.room;
    ahead_fits = rw ahead h.ahead_fits;
    behind_fits = rw behind h.behind_fits;
  }

-- ---- the list of t is another one
module _ (b c : Book) (t : ℕ) (h : IsBookBut b t) (live : is_live b t ≡ true) (xs : List SectionPos) (owner : (s : SectionPos) → owner_of c s ≡ owner_of b s)
    (slots : c.slots ≡ b.slots) (rows : c.rows ≡ with_list b.rows (slot_of b.slots t) xs) (ahead : c.ahead ≡ b.ahead) (behind : c.behind ≡ b.behind) (next : c.next ≡ b.next) where
  within : slot_of b.slots t < length b.rows.lists
  within = omega (arith, h.row_numbers, live_is b t live)

  pub put_here : rows_of c t ≡ xs
  unfolding rows_of
  put_here = rw (slots, rows) (get_or-set_same b.rows.lists (slot_of b.slots t) xs [] within)

  put_other : (r : ℕ) → r ≢ t → rows_of c r ≡ rows_of b r
  unfolding rows_of
  put_other r n = rw (slots, rows) (get_or-set_other b.rows.lists (slot_of b.slots t) (slot_of b.slots r) xs []
      (λ e. n (sym (slot_tells b.slots t r (live_is b t live) (sym e)))))

  ahead_p : (r : ℕ) → ahead_of c r ≡ ahead_of b r
  unfolding ahead_of
  ahead_p r = rw (slots, ahead) refl

  behind_p : (r : ℕ) → behind_of c r ≡ behind_of b r
  unfolding behind_of
  behind_p r = rw (slots, behind) refl

  pub put_live : (r : ℕ) → is_live c r ≡ is_live b r
  unfolding is_live
  put_live r = rw slots refl

  pub put_waits : (u v : ℕ) → waits_of c u v ≡ waits_of b u v
  unfolding waits_of
  put_waits u v = ap (λ xs. list_any (nat_eq v) xs) (ahead_p u)

  total_put : total c.rows + length (rows_of b t) ≡ total b.rows + length xs
  unfolding rows_of
  total_put = rw rows (total_with b.rows (slot_of b.slots t) xs within)

  pub row_put : IsBookBut c t
  row_put = record {
    rows = λ r l n. put_other r n ∙ h.rows r l n ∙ filter_same _ _ all_sections (λ s. let o = owner s in rw o refl);
    limits = λ s l. h.limits s (let o = owner s in rw o at l);
    owned = λ s l. omega (arith, owner s, next, h.owned s (omega (arith, owner s)));
    ahead = λ u. ahead_p u ∙ h.ahead u ∙ ap (λ f. filter f (numbers_below b.next)) (fun_ext (λ v. sym (put_waits u v))) ∙ ap (λ n. filter (waits_of c u) (numbers_below n)) (sym next);
    behind = λ v. behind_p v ∙ h.behind v ∙ ap (λ f. filter f (numbers_below b.next)) (fun_ext (λ u. sym (put_waits u v))) ∙ ap (λ n. filter (λ u. waits_of c u v) (numbers_below n)) (sym next);
    given = λ r e. let g = h.given r (sym (put_live r) ∙ e) in (g.0, omega (arith, g.1, next));
    some = λ r e n. omega (arith, ap length (put_other r n), h.some r (sym (put_live r) ∙ e) n);
    next = omega (arith, next, h.next);
    row_numbers = rw (slots, rows) (length-set b.rows.lists (slot_of b.slots t) xs ∙ h.row_numbers);
    ahead_numbers = rw (slots, ahead) h.ahead_numbers;
    behind_numbers = rw (slots, behind) h.behind_numbers;
    free_lists = λ k l f.
        let g = h.free_lists k (rw slots at l) (λ r e. f r (rw slots e)) in
        let n : k ≢ slot_of b.slots t = λ e. f t (rw slots (sym e)) in
        (rw rows (get_or-set_other b.rows.lists (slot_of b.slots t) k xs [] n ∙ g.0), rw ahead g.1, rw behind g.2);
    total = omega (
      arith,
      h.total,
      total_put,
      ap length put_here,
      count_same (λ s. nat_eq (owner_of c s) t) (λ s. nat_eq (owner_of b s) t) (λ s. let o = owner s in rw o refl),
      count_same (λ s. nat_lt 0 (owner_of c s)) (λ s. nat_lt 0 (owner_of b s)) (λ s. let o = owner s in rw o refl),
    );
    row_room = rw rows h.row_room;
    room = rw slots h.room;
    ahead_fits = rw ahead h.ahead_fits;
    behind_fits = rw behind h.behind_fits;
  }

-- ---- the slot of t goes, which has no lists
module _ (b c : Book) (t : ℕ) (h : IsBookBut b t) (row : rows_of b t ≡ []) (first : ahead_of b t ≡ []) (last : behind_of b t ≡ []) (owner : (s : SectionPos) → owner_of c s ≡ owner_of b s)
    (slots : (q : ℕ) → slot_of c.slots q ≡ (if nat_eq t q then b.slots.room else slot_of b.slots q)) (room : c.slots.room ≡ b.slots.room)
    (rows : c.rows ≡ b.rows) (ahead : c.ahead ≡ b.ahead) (behind : c.behind ≡ b.behind) (next : c.next ≡ b.next) where
  slot_other : (r : ℕ) → r ≢ t → slot_of c.slots r ≡ slot_of b.slots r
  slot_other r n = let k = ne_eqb t r (λ e. n (sym e)) in let s = slots r in rw k at s

  slot_gone : slot_of c.slots t ≡ b.slots.room
  slot_gone = let k = eq-eqb t t refl in let s = slots t in rw k at s

  rows_g : (r : ℕ) → rows_of c r ≡ rows_of b r
  unfolding rows_of
  rows_g r = elim (cases_eq r t) [
    | inl e ↦ let p : list_at b.rows b.slots.room ≡ [] = get_or_past b.rows.lists b.slots.room [] (omega (arith, h.row_numbers)) in
        let q : list_at b.rows (slot_of b.slots t) ≡ [] = row in rw (e, rows, slot_gone, p, q) refl
    | inr n ↦ let s = slot_other r n in rw (rows, s) refl
  ]

  ahead_g : (r : ℕ) → ahead_of c r ≡ ahead_of b r
  unfolding ahead_of
  ahead_g r = elim (cases_eq r t) [
    | inl e ↦ let p : list_at b.ahead b.slots.room ≡ [] = get_or_past b.ahead.lists b.slots.room [] (omega (arith, h.ahead_numbers)) in
        let q : list_at b.ahead (slot_of b.slots t) ≡ [] = first in rw (e, ahead, slot_gone, p, q) refl
    | inr n ↦ let s = slot_other r n in rw (ahead, s) refl
  ]

  behind_g : (r : ℕ) → behind_of c r ≡ behind_of b r
  unfolding behind_of
  behind_g r = elim (cases_eq r t) [
    | inl e ↦ let p : list_at b.behind b.slots.room ≡ [] = get_or_past b.behind.lists b.slots.room [] (omega (arith, h.behind_numbers)) in
        let q : list_at b.behind (slot_of b.slots t) ≡ [] = last in rw (e, behind, slot_gone, p, q) refl
    | inr n ↦ let s = slot_other r n in rw (behind, s) refl
  ]

  pub gone_waits : (u v : ℕ) → waits_of c u v ≡ waits_of b u v
  unfolding waits_of
  gone_waits u v = ap (λ xs. list_any (nat_eq v) xs) (ahead_g u)

  pub gone_live : is_live c t ≡ false
  unfolding is_live
  gone_live = rw (slot_gone, room) (ltb-self b.slots.room)
    where
      ltb-self : (n : ℕ) → nat_lt n n ≡ false
      ltb-self n = elim (cases_Bool (nat_lt n n)) [ inl e ↦ let l : n < n = ltb-true n n e in absurd (omega arith) | inr e ↦ e ]

  live_other : (r : ℕ) → is_live c r ≡ true → (r ≢ t) × (is_live b r ≡ true)
  unfolding is_live
  live_other r e = elim (cases_eq r t) [
    | inl x ↦ absurd (let z : is_live c t ≡ true = rw x at e in true≢false (sym z ∙ gone_live))
    | inr n ↦ let s = slot_other r n in (n, rw (s, room) at e)
  ]

  pub row_gone : rows_of c t ≡ []
  row_gone = rows_g t ∙ row

  -- a slot that is free after it was free before, or was t's
  free_before : (k : ℕ) → k < c.slots.room → ((r : ℕ) → slot_of c.slots r ≢ k) → (list_at b.rows k ≡ []) × (list_at b.ahead k ≡ []) × (list_at b.behind k ≡ [])
  unfolding rows_of ahead_of behind_of
  free_before k l f = elim (cases_eq (slot_of b.slots t) k) [
    | inl e ↦ (ap (list_at b.rows) (sym e) ∙ row, ap (list_at b.ahead) (sym e) ∙ first, ap (list_at b.behind) (sym e) ∙ last)
    | inr n ↦ h.free_lists k (omega (arith, room)) (λ r e. elim (cases_eq r t) [
      | inl x ↦ n (ap (slot_of b.slots) (sym x) ∙ e)
      | inr m ↦ f r (slot_other r m ∙ e)
    ])
  ]

  pub slot_removed : IsBookBut c t
  slot_removed = record {
    rows = λ r l n. rows_g r ∙ h.rows r l n ∙ filter_same _ _ all_sections (λ s. let o = owner s in rw o refl);
    limits = λ s l. h.limits s (let o = owner s in rw o at l);
    owned = λ s l. omega (arith, owner s, next, h.owned s (omega (arith, owner s)));
    ahead = λ u. ahead_g u ∙ h.ahead u ∙ ap (λ f. filter f (numbers_below b.next)) (fun_ext (λ v. sym (gone_waits u v))) ∙ ap (λ n. filter (waits_of c u) (numbers_below n)) (sym next);
    behind = λ v. behind_g v ∙ h.behind v ∙ ap (λ f. filter f (numbers_below b.next)) (fun_ext (λ u. sym (gone_waits u v))) ∙ ap (λ n. filter (λ u. waits_of c u v) (numbers_below n)) (sym next);
    given = λ r e. let g = h.given r (live_other r e).1 in (g.0, omega (arith, g.1, next));
    some = λ r e n. omega (arith, ap length (rows_g r), h.some r (live_other r e).1 n);
    next = omega (arith, next, h.next);
    row_numbers = rw (room, rows) h.row_numbers;
    ahead_numbers = rw (room, ahead) h.ahead_numbers;
    behind_numbers = rw (room, behind) h.behind_numbers;
    free_lists = λ k l f. let g = free_before k l f in (rw rows g.0, rw ahead g.1, rw behind g.2);
    total = omega (
      arith,
      h.total,
      ap total rows,
      ap length (rows_g t),
      count_same (λ s. nat_eq (owner_of c s) t) (λ s. nat_eq (owner_of b s) t) (λ s. let o = owner s in rw o refl),
      count_same (λ s. nat_lt 0 (owner_of c s)) (λ s. nat_lt 0 (owner_of b s)) (λ s. let o = owner s in rw o refl),
    );
    row_room = rw rows h.row_room;
    room = rw room h.room;
    ahead_fits = rw ahead h.ahead_fits;
    behind_fits = rw behind h.behind_fits;
  }

-- the next id has no slot yet
pub next_unused : (b : Book) (t : ℕ) → IsBookBut b t → slot_of b.slots b.next ≡ b.slots.room
unfolding is_live
next_unused b t h = elim (cases_Bool (nat_lt (slot_of b.slots b.next) b.slots.room)) [
  | inl e ↦ let g = h.given b.next e in absurd (omega (arith, g.1))
  | inr e ↦ omega (arith, ltb-false _ _ e, slot-le b.slots b.next)
]

-- ---- a part of t becomes a region with the next id
module _ (b c : Book) (t k : ℕ) (pos : 0 < t) (below : t < b.next) (h : IsBookBut b t) (part : List SectionPos) (some : 0 < length part) (row : part ≡ filter (is_among part) all_sections)
    (own : (s : SectionPos) → is_among part s ≡ true → owner_of b s ≡ t)
    (owner : (s : SectionPos) → owner_of c s ≡ (if is_among part s then b.next else owner_of b s))
    (slots : (q : ℕ) → slot_of c.slots q ≡ (if nat_eq b.next q then k else slot_of b.slots q)) (room : c.slots.room ≡ b.slots.room)
    (fits : k < b.slots.room) (fresh : (q : ℕ) → slot_of b.slots q ≢ k)
    (rows : c.rows ≡ with_list b.rows k part) (ahead : c.ahead ≡ b.ahead) (behind : c.behind ≡ b.behind) (next : c.next ≡ b.next + 1) where
  none_there : (list_at b.rows k ≡ []) × (list_at b.ahead k ≡ []) × (list_at b.behind k ≡ [])
  none_there = h.free_lists k fits fresh

  next_free : slot_of b.slots b.next ≡ b.slots.room
  next_free = next_unused b t h

  slot_new : slot_of c.slots b.next ≡ k
  slot_new = let x = eq-eqb b.next b.next refl in let s = slots b.next in rw x at s

  slot_old : (r : ℕ) → r ≢ b.next → slot_of c.slots r ≡ slot_of b.slots r
  slot_old r n = let x = ne_eqb b.next r (λ e. n (sym e)) in let s = slots r in rw x at s

  pub row_new : rows_of c b.next ≡ part
  unfolding rows_of
  row_new = let s = slot_new in rw (s, rows) (get_or-set_same b.rows.lists k part [] (omega (arith, h.row_numbers, fits)))

  pub row_old : (r : ℕ) → r ≢ b.next → rows_of c r ≡ rows_of b r
  unfolding rows_of
  row_old r n = let s = slot_old r n in rw (s, rows) (get_or-set_other b.rows.lists k (slot_of b.slots r) part [] (fresh r))

  ahead_n : (r : ℕ) → ahead_of c r ≡ ahead_of b r
  unfolding ahead_of
  ahead_n r = elim (cases_eq r b.next) [
    | inl e ↦ let s = slot_new in let f = next_free in
        let p : list_at b.ahead b.slots.room ≡ [] = get_or_past b.ahead.lists b.slots.room [] (omega (arith, h.ahead_numbers)) in
        rw (e, s, f, ahead, p) none_there.1
    | inr n ↦ let s = slot_old r n in rw (s, ahead) refl
  ]

  behind_n : (r : ℕ) → behind_of c r ≡ behind_of b r
  unfolding behind_of
  behind_n r = elim (cases_eq r b.next) [
    | inl e ↦ let s = slot_new in let f = next_free in
        let p : list_at b.behind b.slots.room ≡ [] = get_or_past b.behind.lists b.slots.room [] (omega (arith, h.behind_numbers)) in
        rw (e, s, f, behind, p) none_there.2
    | inr n ↦ let s = slot_old r n in rw (s, behind) refl
  ]

  pub part_waits : (u v : ℕ) → waits_of c u v ≡ waits_of b u v
  unfolding waits_of
  part_waits u v = ap (λ xs. list_any (nat_eq v) xs) (ahead_n u)

  -- no pair has the next id
  waits_next : (u : ℕ) → waits_of b u b.next ≡ false
  unfolding waits_of
  waits_next u = elim (cases_Bool (list_any (nat_eq b.next) (ahead_of b u))) [
    | inl e ↦ absurd (
        let x : list_any (nat_eq b.next) (filter (waits_of b u) (numbers_below b.next)) ≡ true = ap (λ xs. list_any (nat_eq b.next) xs) (sym (h.ahead u)) ∙ e in
        let y = some_below-gives (λ w. waits_of b u w && nat_eq b.next w) b.next (sym (filter_some (waits_of b u) (nat_eq b.next) b.next) ∙ x) in
        let z = and_parts (waits_of b u y.0) (nat_eq b.next y.0) y.2 in
        omega (arith, y.1, eqb-true b.next y.0 z.1))
    | inr e ↦ e
  ]

  next_waits : (v : ℕ) → waits_of b b.next v ≡ false
  unfolding waits_of ahead_of
  next_waits v = let f = next_free in
      let p : list_at b.ahead b.slots.room ≡ [] = get_or_past b.ahead.lists b.slots.room [] (omega (arith, h.ahead_numbers)) in rw (f, p) refl

  live_n : (r : ℕ) → is_live c r ≡ true → (r ≡ b.next) ⊎ ((r ≢ b.next) × (is_live b r ≡ true))
  unfolding is_live
  live_n r e = elim (cases_eq r b.next) [ inl x ↦ inl x | inr n ↦ let s = slot_old r n in inr (n, rw (s, room) at e) ]

  length_part : length part ≡ count_sections (is_among part)
  length_part = ap length row ∙ length-filter (is_among part) all_sections

  test_p : (s : SectionPos) → cond (nat_eq (owner_of b s) t) 1 0 ≡ cond (nat_eq (owner_of c s) t) 1 0 + cond (is_among part s) 1 0
  test_p s =
      let o = owner s in
      elim (cases_Bool (is_among part s)) [
        | inl e ↦ let z : owner_of c s ≡ b.next = rw e at o in let w = own s e in
            let x : nat_eq t t ≡ true = eq-eqb t t refl in let y : nat_eq b.next t ≡ false = ne_eqb b.next t (λ i. absurd (omega arith)) in rw (e, z, w, x, y) (omega arith)
        | inr e ↦ let z : owner_of c s ≡ owner_of b s = rw e at o in rw (e, z) (omega arith)
      ]

  same_present : (s : SectionPos) → nat_lt 0 (owner_of c s) ≡ nat_lt 0 (owner_of b s)
  same_present s =
      let o = owner s in
      elim (cases_Bool (is_among part s)) [
        | inl e ↦ let z : owner_of c s ≡ b.next = rw e at o in let w = own s e in
            let x : nat_lt 0 t ≡ true = lt-ltb 0 t pos in let y : nat_lt 0 b.next ≡ true = lt-ltb 0 b.next h.next in rw (z, w, x, y) refl
        | inr e ↦ let z : owner_of c s ≡ owner_of b s = rw e at o in rw z refl
      ]

  -- the sections of the new region are the part
  new_row : (s : SectionPos) → is_among part s ≡ nat_eq (owner_of c s) b.next
  new_row s =
      let o = owner s in
      elim (cases_Bool (is_among part s)) [
        | inl e ↦ let z : owner_of c s ≡ b.next = rw e at o in let x : nat_eq b.next b.next ≡ true = eq-eqb b.next b.next refl in rw (e, z, x) refl
        | inr e ↦ let z : owner_of c s ≡ owner_of b s = rw e at o in
            let x : nat_eq (owner_of b s) b.next ≡ false = ne_eqb _ _ (λ i. elim (cases_eq (owner_of b s) 0) [
              | inl q ↦ absurd (omega (arith, h.next))
              | inr q ↦ absurd (let l = h.owned s (omega (arith, q)) in omega arith)
            ]) in rw (e, z, x) refl
      ]

  old_row : (r : ℕ) → r ≢ t → r ≢ b.next → (s : SectionPos) → nat_eq (owner_of b s) r ≡ nat_eq (owner_of c s) r
  old_row r n m s =
      let o = owner s in
      elim (cases_Bool (is_among part s)) [
        | inl e ↦ let z : owner_of c s ≡ b.next = rw e at o in let w = own s e in
            let x : nat_eq t r ≡ false = ne_eqb t r (λ i. n (sym i)) in let y : nat_eq b.next r ≡ false = ne_eqb b.next r (λ i. m (sym i)) in rw (z, w, x, y) refl
        | inr e ↦ let z : owner_of c s ≡ owner_of b s = rw e at o in rw z refl
      ]

  t_not_next : t ≢ b.next
  t_not_next = λ e. absurd (omega arith)

  total_n : total c.rows ≡ total b.rows + length part
  total_n = rw rows (omega (arith, total_with b.rows k part (omega (arith, h.row_numbers, fits)), ap length none_there.0))

  free_n : (j : ℕ) → j < c.slots.room → ((r : ℕ) → slot_of c.slots r ≢ j) → (list_at b.rows j ≡ []) × (list_at b.ahead j ≡ []) × (list_at b.behind j ≡ [])
  free_n j l f = h.free_lists j (omega (arith, room)) (λ r e. elim (cases_eq r b.next) [
    | inl x ↦ let y : slot_of b.slots b.next ≡ j = rw x at e in absurd (omega (arith, next_free, y, room))
    | inr n ↦ f r (slot_old r n ∙ e)
  ])

  pub part_taken : IsBookBut c t
  part_taken = record {
    rows = λ r l n. elim (cases_eq r b.next) [
      | inl e ↦ rw e (row_new ∙ row ∙ filter_same _ _ all_sections new_row)
      | inr m ↦ row_old r m ∙ h.rows r l n ∙ filter_same _ _ all_sections (old_row r n m)
    ];
    limits = λ s l. let o = owner s in elim (cases_Bool (is_among part s)) [
      | inl e ↦ h.limits s (omega (arith, own s e, pos))
      | inr e ↦ let z : owner_of c s ≡ owner_of b s = rw e at o in h.limits s (omega (arith, z))
    ];
    owned = λ s l. let o = owner s in elim (cases_Bool (is_among part s)) [
      | inl e ↦ let z : owner_of c s ≡ b.next = rw e at o in omega (arith, z, next)
      | inr e ↦ let z : owner_of c s ≡ owner_of b s = rw e at o in omega (arith, z, next, h.owned s (omega (arith, z)))
    ];
    ahead = λ u. ahead_n u ∙ h.ahead u ∙ sym (filter_next (waits_of b u) b.next (waits_next u)) ∙ ap (λ f. filter f (numbers_below (b.next + 1))) (fun_ext (λ v. sym (part_waits u v)))
        ∙ ap (λ n. filter (waits_of c u) (numbers_below n)) (sym next);
    behind = λ v. behind_n v ∙ h.behind v ∙ sym (filter_next (λ u. waits_of b u v) b.next (next_waits v)) ∙ ap (λ f. filter f (numbers_below (b.next + 1))) (fun_ext (λ u. sym (part_waits u v)))
        ∙ ap (λ n. filter (λ u. waits_of c u v) (numbers_below n)) (sym next);
    given = λ r e. elim (live_n r e) [
      | inl x ↦ (omega (arith, x, h.next), omega (arith, x, next))
      | inr y ↦ let g = h.given r y.1 in (g.0, omega (arith, g.1, next))
    ];
    some = λ r e n. elim (live_n r e) [
      | inl x ↦ rw x (omega (arith, ap length row_new, some))
      | inr y ↦ omega (arith, ap length (row_old r y.0), h.some r y.1 n)
    ];
    next = omega (arith, next);
    row_numbers = rw (room, rows) (length-set b.rows.lists k part ∙ h.row_numbers);
    ahead_numbers = rw (room, ahead) h.ahead_numbers;
    behind_numbers = rw (room, behind) h.behind_numbers;
    free_lists = λ j l f.
        let g = free_n j l f in
        let n : j ≢ k = λ e. f b.next (slot_new ∙ sym e) in
        (rw rows (get_or-set_other b.rows.lists k j part [] n ∙ g.0), rw ahead g.1, rw behind g.2);
    total = omega (
      arith,
      h.total,
      total_n,
      ap length (row_old t t_not_next),
      length_part,
      count_parts (λ s. nat_eq (owner_of b s) t) (λ s. nat_eq (owner_of c s) t) (is_among part) test_p all_sections,
      count_same (λ s. nat_lt 0 (owner_of c s)) (λ s. nat_lt 0 (owner_of b s)) same_present,
    );
    row_room = rw rows h.row_room;
    room = rw room h.room;
    ahead_fits = rw ahead h.ahead_fits;
    behind_fits = rw behind h.behind_fits;
  }
