-- A region that falls into parts, one part after another.
use Rattle.std.proofs.Common.{◌≡◌, ℕ, zero, suc, ◌+◌, ◌≤◌, ◌<◌, refl, sym, ◌∙◌, ap, arith, Bool, true, false, inl, inr, ◌&&◌, ◌||◌, List, [], ◌∷◌, length, get_or, take}
use Rattle.std.specs.Prelude.{◌≢◌, nat_eq, nat_lt, nat_le, if◌then◌else◌, count_by, sum_by, is_some, Option, Some, None}
use Rattle.std.specs.List.{list_any}
use Rattle.std.proofs.Math.Path.{fun_ext}
use Rattle.std.proofs.lemmas.Bool.{cases_Bool, cases_eq, cases_lt, eq-eqb, ne_eqb, eqb-true, true≢false, or_cases, or_left, or_right, lt-ltb, le-ltb, le-leb, lt-leb}
use Rattle.std.proofs.lemmas.List.{take_all}
use Rattle.std.proofs.lemmas.List.Folds.{list_any_more}
use Rattle.fol_lists.specs.Numbered.{with_list, list_at, total}
use Rattle.fol_model.specs.declared.places.SectionPos.{SectionPos}
use Rattle.fol_model.specs.declared.regions.State.TheVariants.{Ready, Dead}
use Rattle.fol_model.specs.Universe.{all_sections, count_sections}
use Rattle.fol_model.specs.GridState.{with_state}
use Rattle.fol_region_tables.specs.Book.{Book, IsBook, KeepsRoom, owner_of, state_of, waits_of, is_live, rows_of}
use Rattle.fol_region_tables.specs.Slots.{slot_of, slot_state, region_at}
use Rattle.fol_model.specs.Geometry.{is_among}
use Rattle.fol_region_tables.specs.Parted.{Splits, AreRows, id_in}
use Rattle.fol_region_tables.specs.declared.slots.Region.{Region}
use Rattle.fol_laws.proofs.ListCounts.{count_by-cons, count_by-mono}
use Rattle.std.proofs.lemmas.List.Sums.{sum_by-cons, length-filter}
use Rattle.fol_region_tables.proofs.Totals.{total_with}
use Rattle.fol_region_tables.proofs.PartingSteps.{IsBookBut, but_to, count_same, part_taken, part_waits, rows_past}
use Rattle.fol_region_tables.proofs.PartedBooks.{filter_none, row_members}

-- the section is in one of the first i parts
abbrev is_placed : List (List SectionPos) → ℕ → SectionPos → Bool
is_placed found i s = list_any (λ part. is_among part s) (take i found)

-- the first i parts of t are regions, and t has no slot
pub record IsSplitting (b c : Book) (t : ℕ) (found : List (List SectionPos)) (i : ℕ) : Type 0 where
  pub but : IsBookBut c t
  pub owner : (s : SectionPos) → owner_of c s ≡ (if nat_eq (owner_of b s) t then (if is_placed found i s then id_in found b.next s else t) else owner_of b s)
  pub state : state_of c ≡ (λ r. if (nat_le b.next r && nat_lt r (b.next + i)) then Ready else (if nat_eq r t then Dead else state_of b r))
  pub waits : (u v : ℕ) → waits_of c u v ≡ waits_of b u v
  pub gone : is_live c t ≡ false
  pub next : c.next ≡ b.next + i
  pub rooms : KeepsRoom b c

-- the number by which a section is found, where it is in one part alone
pub id_found : (found : List (List SectionPos)) (n i : ℕ) (s : SectionPos) → i < length found → is_among (get_or found i []) s ≡ true
    → ((j : ℕ) → j < length found → is_among (get_or found j []) s ≡ true → j ≡ i) → id_in found n s ≡ n + i
id_found [] n i s l h one = absurd (omega arith)
id_found (p ∷ ps) n zero s l h one = rw h (omega arith)
id_found (p ∷ ps) n (suc i) s l h one =
    let first : is_among p s ≡ false = elim (cases_Bool (is_among p s)) [ inl e ↦ absurd (let z : 0 ≡ suc i = one 0 (omega arith) e in omega arith) | inr e ↦ e ] in
    let rest = id_found ps (n + 1) i s (omega arith) h (λ j k e. let z : suc j ≡ suc i = one (suc j) (omega arith) e in omega arith) in
    rw first (omega (arith, rest))

pub placed_some : (found : List (List SectionPos)) (s : SectionPos) → list_any (λ part. is_among part s) found ≡ true → (j : ℕ) × (j < length found) × (is_among (get_or found j []) s ≡ true)
placed_some [] s e = absurd (true≢false (sym e))
placed_some (p ∷ ps) s e = elim (or_cases (is_among p s) (list_any (λ part. is_among part s) ps) e) [
  | inl k ↦ (0, omega arith, k)
  | inr k ↦ let j = placed_some ps s k in (suc j.0, omega (arith, j.1), j.2)
]

-- found in one of the first i parts: at a place below i
placed_below : (found : List (List SectionPos)) (i : ℕ) (s : SectionPos) → is_placed found i s ≡ true → (j : ℕ) × (j < i) × (j < length found) × (is_among (get_or found j []) s ≡ true)
placed_below found zero s e = absurd (true≢false (sym e))
placed_below [] (suc i) s e = absurd (true≢false (sym e))
placed_below (p ∷ ps) (suc i) s e = elim (or_cases (is_among p s) (list_any (λ part. is_among part s) (take i ps)) e) [
  | inl k ↦ (0, omega arith, omega arith, k)
  | inr k ↦ let j = placed_below ps i s k in (suc j.0, omega (arith, j.1), omega (arith, j.2), j.3)
]

placed_at : (found : List (List SectionPos)) (j : ℕ) (s : SectionPos) → j < length found → is_among (get_or found j []) s ≡ true → list_any (λ part. is_among part s) found ≡ true
placed_at [] j s l e = absurd (omega arith)
placed_at (p ∷ ps) zero s l e = or_left _ _ e
placed_at (p ∷ ps) (suc j) s l e = or_right (is_among p s) _ (placed_at ps j s (omega arith) e)

-- a list that is not empty for each slot that has a region
some_few : (regions : List (Option Region)) (lists : List (List SectionPos)) → ((k : ℕ) (r : Region) → get_or regions k None ≡ Some r → 0 < length (get_or lists k [])) → count_by is_some regions ≤ sum_by length lists
some_few [] lists h = omega arith
some_few (None ∷ xs) [] h = omega (arith, count_by-cons is_some None xs, some_few xs [] (λ k r f. absurd (let z : 0 < 0 = h (suc k) r f in omega arith)))
some_few (Some r ∷ xs) [] h = absurd (let z : 0 < 0 = h 0 r refl in omega arith)
some_few (None ∷ xs) (l ∷ ls) h = omega (arith, count_by-cons is_some None xs, sum_by-cons length l ls, some_few xs ls (λ k r f. h (suc k) r f))
some_few (Some r ∷ xs) (l ∷ ls) h = omega (arith, count_by-cons is_some (Some r) xs, sum_by-cons length l ls, some_few xs ls (λ k q f. h (suc k) q f), h 0 r refl)

listed : (c : Book) {t : ℕ} → IsBookBut c t → is_live c t ≡ false → ((k : ℕ) (r : Region) → region_at c.slots k ≡ Some r → slot_of c.slots r.id ≡ k) → ((k : ℕ) (r : Region) → region_at c.slots k ≡ Some r → k < c.slots.room)
    → (k : ℕ) (r : Region) → region_at c.slots k ≡ Some r → 0 < length (list_at c.rows k)
unfolding is_live rows_of
listed c {t} but gone own within k r e =
    let s = own k r e in
    let lives : is_live c r.id ≡ true = lt-ltb _ _ (omega (arith, s, within k r e)) in
    let some = but.some r.id lives (λ x. let z : is_live c t ≡ true = rw x at lives in true≢false (sym z ∙ gone)) in
    rw s at some

module _ (b : Book) (t : ℕ) (h : IsBook b) (live : is_live b t ≡ true) (found : List (List SectionPos)) (parts : AreRows (rows_of b t) found) where
  t_pos : 0 < t
  t_pos = (h.given t live).0

  t_below : t < b.next
  t_below = (h.given t live).1

  -- a section of a part is t's
  pub part_owner : (i : ℕ) (s : SectionPos) → i < length found → is_among (get_or found i []) s ≡ true → owner_of b s ≡ t
  part_owner i s l e = eqb-true _ _ (sym (row_members b t t_pos h s) ∙ parts.within i s l e)

  not_placed : (i : ℕ) (s : SectionPos) → i < length found → is_among (get_or found i []) s ≡ true → is_placed found i s ≡ false
  not_placed i s l e = elim (cases_Bool (is_placed found i s)) [
    | inl k ↦ let j = placed_below found i s k in absurd (omega (arith, j.1, parts.apart j.0 i s j.2 l j.3 e))
    | inr k ↦ k
  ]

  part_id : (i : ℕ) (s : SectionPos) → i < length found → is_among (get_or found i []) s ≡ true → id_in found b.next s ≡ b.next + i
  part_id i s l e = id_found found b.next i s l e (λ j k f. parts.apart j i s k l f e)

  module _ (c : Book) (gone : IsBookBut c t) (owner : (s : SectionPos) → owner_of c s ≡ owner_of b s) (states : state_of c ≡ with_state (state_of b) t Dead)
      (waits : (u v : ℕ) → waits_of c u v ≡ waits_of b u v) (dead : is_live c t ≡ false) (next : c.next ≡ b.next) (rooms : KeepsRoom b c) where
    pub splitting_none : IsSplitting b c t found 0
    splitting_none = record {
      but = gone;
      owner = λ s. owner s ∙ elim (cases_Bool (nat_eq (owner_of b s) t)) [ inl k ↦ rw k (eqb-true _ _ k) | inr k ↦ rw k refl ];
      state = states ∙ fun_ext (λ r.
          let none : (nat_le b.next r && nat_lt r (b.next + 0)) ≡ false = elim (cases_lt r b.next) [
            | inl l ↦ let x : nat_le b.next r ≡ false = lt-leb b.next r l in rw x refl
            | inr l ↦ let y : nat_lt r (b.next + 0) ≡ false = le-ltb r (b.next + 0) (omega arith) in rw y (elim (cases_Bool (nat_le b.next r)) [ inl k ↦ rw k refl | inr k ↦ rw k refl ])
          ] in
          elim (cases_eq t r) [
            | inl e ↦ let k = eq-eqb t r e in let j = eq-eqb r t (sym e) in rw (none, k, j) refl
            | inr n ↦ let k = ne_eqb t r n in let j = ne_eqb r t (λ e. n (sym e)) in rw (none, k, j) refl
          ]);
      waits = waits;
      gone = dead;
      next = next ∙ omega arith;
      rooms = rooms;
    }

  module _ (i k : ℕ) (l : i < length found) (c d : Book) (w : IsSplitting b c t found i)
      (owner : (s : SectionPos) → owner_of d s ≡ (if is_among (get_or found i []) s then c.next else owner_of c s))
      (slots : slot_of d.slots ≡ (λ q. if nat_eq c.next q then k else slot_of c.slots q)) (states : slot_state d.slots ≡ with_state (slot_state c.slots) c.next Ready)
      (room : d.slots.room ≡ c.slots.room) (fits : k < c.slots.room) (fresh : (q : ℕ) → slot_of c.slots q ≢ k)
      (rows : d.rows ≡ with_list c.rows k (get_or found i [])) (ahead : d.ahead ≡ c.ahead) (behind : d.behind ≡ c.behind) (next : d.next ≡ c.next + 1) (free : c.free ≤ d.free) where
    below : t < c.next
    below = omega (arith, w.next, t_below)

    own : (s : SectionPos) → is_among (get_or found i []) s ≡ true → owner_of c s ≡ t
    own s e =
        let x : nat_eq (owner_of b s) t ≡ true = eq-eqb _ _ (part_owner i s l e) in
        let y = not_placed i s l e in
        let o = w.owner s in rw (x, y) at o

    slots_at : (q : ℕ) → slot_of d.slots q ≡ (if nat_eq c.next q then k else slot_of c.slots q)
    slots_at q = ap (λ f. f q) slots

    taken : IsBookBut d t
    taken = part_taken c d t k t_pos below w.but (get_or found i []) (parts.some i l) (parts.rows i l) own owner slots_at room fits fresh rows ahead behind next

    placed_next : (s : SectionPos) → is_placed found (i + 1) s ≡ (is_placed found i s || is_among (get_or found i []) s)
    placed_next s = list_any_more (λ part. is_among part s) found i [] l

    owner_next : (s : SectionPos) → owner_of d s ≡ (if nat_eq (owner_of b s) t then (if is_placed found (i + 1) s then id_in found b.next s else t) else owner_of b s)
    owner_next s =
        let o = owner s in
        let p = placed_next s in
        let v = w.owner s in
        elim (cases_Bool (is_among (get_or found i []) s)) [
          | inl e ↦
              let z : owner_of d s ≡ c.next = rw e at o in
              let x : nat_eq (owner_of b s) t ≡ true = eq-eqb _ _ (part_owner i s l e) in
              let y = not_placed i s l e in
              let q : is_placed found (i + 1) s ≡ true = rw (y, e) at p in
              let n = part_id i s l e in
              rw (x, q, n) (z ∙ w.next)
          | inr e ↦
              let z : owner_of d s ≡ owner_of c s = rw e at o in
              let q : is_placed found (i + 1) s ≡ is_placed found i s = p ∙ elim (cases_Bool (is_placed found i s)) [ inl u ↦ rw u refl | inr u ↦ rw (u, e) refl ] in
              rw q (z ∙ v)
        ]

    state_next : (r : ℕ) → state_of d r ≡ (if (nat_le b.next r && nat_lt r (b.next + (i + 1))) then Ready else (if nat_eq r t then Dead else state_of b r))
    unfolding state_of
    state_next r =
        let s : state_of d r ≡ (if nat_eq c.next r then Ready else state_of c r) = ap (λ f. f r) states in
        let v : state_of c r ≡ (if (nat_le b.next r && nat_lt r (b.next + i)) then Ready else (if nat_eq r t then Dead else state_of b r)) = ap (λ f. f r) w.state in
        elim (cases_eq c.next r) [
          | inl e ↦ let x = eq-eqb c.next r e in
              let y : nat_le b.next r ≡ true = le-leb b.next r (omega (arith, w.next)) in
              let z : nat_lt r (b.next + (i + 1)) ≡ true = lt-ltb r (b.next + (i + 1)) (omega (arith, w.next)) in
              s ∙ rw (x, y, z) refl
          | inr n ↦ let x = ne_eqb c.next r n in
              let same : nat_lt r (b.next + (i + 1)) ≡ nat_lt r (b.next + i) = elim (cases_lt r (b.next + i)) [
                | inl m ↦ let y : nat_lt r (b.next + (i + 1)) ≡ true = lt-ltb r (b.next + (i + 1)) (omega arith) in let z : nat_lt r (b.next + i) ≡ true = lt-ltb r (b.next + i) m in rw (y, z) refl
                | inr m ↦ let y : nat_lt r (b.next + (i + 1)) ≡ false = le-ltb r (b.next + (i + 1)) (omega (arith, w.next)) in let z : nat_lt r (b.next + i) ≡ false = le-ltb r (b.next + i) m in rw (y, z) refl
              ] in
              let f : state_of d r ≡ state_of c r = s ∙ rw x refl in
              f ∙ v ∙ rw same refl
        ]

    gone_next : is_live d t ≡ false
    unfolding is_live
    gone_next =
        let x : nat_eq c.next t ≡ false = ne_eqb c.next t (λ e. absurd (let u = below in omega arith)) in
        let s = slots_at t in
        let y : slot_of d.slots t ≡ slot_of c.slots t = rw x at s in
        let g = w.gone in rw (y, room) g

    pub splitting_more : IsSplitting b d t found (i + 1)
    splitting_more = record {
      but = taken;
      owner = owner_next;
      state = fun_ext state_next;
      waits = λ u v. part_waits c d t k t_pos below w.but (get_or found i []) (parts.some i l) (parts.rows i l) own owner slots_at room fits fresh rows ahead behind next u v ∙ w.waits u v;
      gone = gone_next;
      next = omega (arith, next, w.next);
      rooms = record {
        free = omega (arith, free, w.rooms.free);
        ahead = rw ahead w.rooms.ahead;
        behind = rw behind w.rooms.behind;
        ahead_room = rw ahead w.rooms.ahead_room;
        behind_room = rw behind w.rooms.behind_room;
      };
    }

  -- a section of the next part is still t's
  pub still_owned : (c : Book) (i : ℕ) → IsSplitting b c t found i → i < length found → (s : SectionPos) → is_among (get_or found i []) s ≡ true → owner_of c s ≡ t
  still_owned c i w l s e =
      let x : nat_eq (owner_of b s) t ≡ true = eq-eqb _ _ (part_owner i s l e) in
      let y = not_placed i s l e in
      let o = w.owner s in rw (x, y) at o

  -- ---- the room for one part more
  module _ (c : Book) (i : ℕ) (w : IsSplitting b c t found i) (few : count_sections (λ s. nat_lt 0 (owner_of b s)) ≤ 16384) (l : i < length found) where
    present_same : (s : SectionPos) → nat_lt 0 (owner_of c s) ≡ nat_lt 0 (owner_of b s)
    present_same s =
        let o = w.owner s in
        elim (cases_Bool (nat_eq (owner_of b s) t)) [
          | inl e ↦ let x : owner_of b s ≡ t = eqb-true _ _ e in
              let p = t_pos in
              let y : nat_lt 0 (owner_of b s) ≡ true = lt-ltb 0 _ (omega arith) in
              elim (cases_Bool (is_placed found i s)) [
                | inl k ↦ let j = placed_below found i s k in
                    let n = part_id j.0 s j.2 j.3 in
                    let u = t_below in
                    let z : owner_of c s ≡ id_in found b.next s = rw (e, k) at o in
                    let v : nat_lt 0 (owner_of c s) ≡ true = lt-ltb 0 _ (omega arith) in
                    v ∙ sym y
                | inr k ↦ let z : owner_of c s ≡ t = rw (e, k) at o in let v : nat_lt 0 (owner_of c s) ≡ true = lt-ltb 0 _ (omega arith) in v ∙ sym y
              ]
          | inr e ↦ let z : owner_of c s ≡ owner_of b s = rw e at o in rw z refl
        ]

    part_of_t : (s : SectionPos) → is_among (get_or found i []) s ≡ true → nat_eq (owner_of c s) t ≡ true
    part_of_t s e =
        let x : nat_eq (owner_of b s) t ≡ true = eq-eqb _ _ (part_owner i s l e) in
        let y = not_placed i s l e in
        let o = w.owner s in
        eq-eqb _ _ (rw (x, y) at o)

    pub room_for_part : total c.rows + length (get_or found i []) ≤ 16384
    room_for_part =
        let none = rows_past c t w.but.row_numbers w.gone in
        omega (
          arith,
          w.but.total,
          ap length none,
          count_same (λ s. nat_lt 0 (owner_of c s)) (λ s. nat_lt 0 (owner_of b s)) present_same,
          few,
          count_by-mono (is_among (get_or found i [])) (λ s. nat_eq (owner_of c s) t) part_of_t all_sections,
          ap length (parts.rows i l),
          length-filter (is_among (get_or found i [])) all_sections,
        )

    pub slots_for_part : ((k : ℕ) (r : Region) → region_at c.slots k ≡ Some r → slot_of c.slots r.id ≡ k) → ((k : ℕ) (r : Region) → region_at c.slots k ≡ Some r → k < c.slots.room)
        → count_by is_some c.slots.regions < c.slots.room
    slots_for_part own within = omega (arith, some_few c.slots.regions c.rows.lists (λ k r e. listed c w.but w.gone own within k r e), room_for_part, parts.some i l, w.but.room)

  -- there is room for the next part at a slot of no region
  pub part_fits : (c : Book) (i k : ℕ) (w : IsSplitting b c t found i) → count_sections (λ s. nat_lt 0 (owner_of b s)) ≤ 16384 → i < length found → k < c.slots.room → ((q : ℕ) → slot_of c.slots q ≢ k)
      → total (with_list c.rows k (get_or found i [])) ≤ 16384
  part_fits c i k w few l fits fresh =
      let none = (w.but.free_lists k fits fresh).0 in
      omega (arith, total_with c.rows k (get_or found i []) (omega (arith, w.but.row_numbers, fits)), ap length none, room_for_part c i w few l)

  module _ (c : Book) (i : ℕ) (w : IsSplitting b c t found i) (all : i ≡ length found) where
    placed : (s : SectionPos) → nat_eq (owner_of b s) t ≡ true → is_placed found i s ≡ true
    placed s e =
        let j = parts.cover s (row_members b t t_pos h s ∙ e) in
        ap (λ xs. list_any (λ part. is_among part s) xs) (take_all i found (omega arith)) ∙ placed_at found j.0 s j.1 j.2

    owner_all : (s : SectionPos) → owner_of c s ≡ (if nat_eq (owner_of b s) t then id_in found b.next s else owner_of b s)
    owner_all s = let o = w.owner s in elim (cases_Bool (nat_eq (owner_of b s) t)) [
      | inl e ↦ let p = placed s e in let z : owner_of c s ≡ id_in found b.next s = rw (e, p) at o in rw e z
      | inr e ↦ let z : owner_of c s ≡ owner_of b s = rw e at o in rw e z
    ]

    none_left : (s : SectionPos) → nat_eq (owner_of c s) t ≡ false
    none_left s = let o = owner_all s in elim (cases_Bool (nat_eq (owner_of b s) t)) [
      | inl e ↦ let z : owner_of c s ≡ id_in found b.next s = rw e at o in
          let j = parts.cover s (row_members b t t_pos h s ∙ e) in
          let n = part_id j.0 s j.1 j.2 in
          let u = t_below in
          rw (z, n) (ne_eqb (b.next + j.0) t (λ q. absurd (omega arith)))
      | inr e ↦ let z : owner_of c s ≡ owner_of b s = rw e at o in rw z e
    ]

    pub split_book : IsBook c
    split_book = but_to c t w.but (rows_past c t w.but.row_numbers w.gone ∙ sym (filter_none (λ s. nat_eq (owner_of c s) t) all_sections none_left)) (λ l. absurd (true≢false (sym l ∙ w.gone)))

    pub split_is : Splits b c t found
    split_is = record {
      owner = fun_ext owner_all;
      state = w.state ∙ ap (λ (n : ℕ). λ (r : ℕ). if (nat_le b.next r && nat_lt r (b.next + n)) then Ready else (if nat_eq r t then Dead else state_of b r)) all;
      waits = fun_ext (λ u. fun_ext (λ v. w.waits u v));
      next = w.next ∙ ap (λ n. b.next + n) all;
      rooms = w.rooms;
    }
