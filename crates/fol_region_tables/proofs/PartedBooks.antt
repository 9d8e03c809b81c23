-- Tables after a region lost sections or ended.
use Rattle.std.proofs.Common.{◌≡◌, ℕ, ◌≤◌, ◌<◌, refl, sym, ◌∙◌, ap, arith, Bool, true, false, inl, inr, not, ◌&&◌, List, [], ◌∷◌, length}
use Rattle.std.specs.Prelude.{nat_eq, nat_lt, if◌then◌else◌, filter}
use Rattle.std.proofs.Math.Path.{fun_ext}
use Rattle.std.proofs.lemmas.Bool.{cases_Bool, eq-eqb, ne_eqb, eqb-true, true≢false}
use Rattle.fol_lists.specs.Numbered.{with_list, list_at, total}
use Rattle.fol_region_tables.proofs.Totals.{total_with}
use Rattle.fol_model.specs.declared.places.SectionPos.{SectionPos}
use Rattle.fol_model.specs.declared.regions.State.TheVariants.{Dead}
use Rattle.fol_model.specs.Geometry.{same_section, is_among}
use Rattle.fol_model.specs.Universe.{all_sections, count_sections}
use Rattle.fol_model.specs.GridState.{with_state}
use Rattle.fol_laws.proofs.AllSections.{some_section-is}
use Rattle.fol_laws.proofs.SamePlaces.{same_section-self}
use Rattle.fol_laws.proofs.SectionOrder.{section_members}
use Rattle.fol_region_tables.specs.Book.{Book, IsBook, owner_of, state_of, waits_of, is_live, rows_of, ahead_of, behind_of}
use Rattle.fol_region_tables.specs.Slots.{slot_of, slot_state}
use Rattle.fol_region_tables.specs.Parted.{Keeps, Ends}
use Rattle.fol_region_tables.proofs.PartingSteps.{IsBookBut, but_from, but_to, filter_same, live_is, dropped, dropped_waits, row_put, put_here, put_waits, put_live, slot_removed, gone_waits, gone_live, row_gone}

pub filter_both : {X : Type 0} (p q : X → Bool) (xs : List X) → filter q (filter p xs) ≡ filter (λ x. p x && q x) xs
filter_both p q [] = refl
filter_both p q (x ∷ xs) = let i = filter_both p q xs in elim (cases_Bool (p x)) [
  | inl k ↦ elim (cases_Bool (q x)) [ inl y ↦ rw (k, y) (ap (λ ys. x ∷ ys) i) | inr y ↦ rw (k, y) i ]
  | inr k ↦ rw k i
]

pub filter_none : {X : Type 0} (p : X → Bool) (xs : List X) → ((x : X) → p x ≡ false) → filter p xs ≡ []
filter_none p [] h = refl
filter_none p (x ∷ xs) h = let e = h x in rw e (filter_none p xs h)

pub length-filter_le : {X : Type 0} (p : X → Bool) (xs : List X) → length (filter p xs) ≤ length xs
length-filter_le p [] = omega arith
length-filter_le p (x ∷ xs) = let i = length-filter_le p xs in elim (cases_Bool (p x)) [ inl e ↦ rw e (omega arith) | inr e ↦ rw e (omega arith) ]

-- the sections of a region are those that it owns
pub row_members : (b : Book) (t : ℕ) → 0 < t → IsBook b → (s : SectionPos) → is_among (rows_of b t) s ≡ nat_eq (owner_of b s) t
row_members b t pos h s =
    ap (λ xs. is_among xs s) (h.rows t pos) ∙ section_members (λ q. nat_eq (owner_of b q) t) all_sections s
    ∙ elim (cases_Bool (nat_eq (owner_of b s) t)) [
      | inl e ↦ let o : owner_of b s ≡ t = eqb-true _ _ e in
          let m : is_among all_sections s ≡ true = some_section-is (same_section s) s (h.limits s (omega arith)) (same_section-self s) in rw (e, m) refl
      | inr e ↦ rw e refl
    ]

-- the states are those of the slots
pub state_by_slots : (b c : Book) → c.slots ≡ b.slots → state_of c ≡ state_of b
unfolding state_of
state_by_slots b c e = rw e refl

-- the slot of a region has a list
pub slot_listed : (b : Book) (t slot : ℕ) → IsBook b → is_live b t ≡ true → slot ≡ slot_of b.slots t → slot < length b.rows.lists
slot_listed b t slot h live e = omega (arith, e, live_is b t live, h.row_numbers)

-- there is room for some of the sections of a region in place of all
pub kept_room : (b : Book) (t slot : ℕ) (p : SectionPos → Bool) (living : List SectionPos) → IsBook b → is_live b t ≡ true → slot ≡ slot_of b.slots t → count_sections (λ s. nat_lt 0 (owner_of b s)) ≤ 16384
    → living ≡ filter p (rows_of b t) → total (with_list b.rows slot living) ≤ 16384
unfolding rows_of
kept_room b t slot p living h live e few is =
    let w = total_with b.rows slot living (slot_listed b t slot h live e) in
    let f = length-filter_le p (rows_of b t) in
    omega (arith, w, f, ap length is, ap (λ k. length (list_at b.rows k)) e, h.total, few)

module _ (b m c : Book) (t : ℕ) (h : IsBook b) (live : is_live b t ≡ true) where
  pos : 0 < t
  pos = (h.given t live).0

  -- ---- some sections stay
  module _ (living dead : List SectionPos) (some : 0 < length living) (owns : (s : SectionPos) → is_among dead s ≡ true → owner_of b s ≡ t)
      (is : living ≡ filter (λ s. not (is_among dead s)) (rows_of b t))
      (owner : (s : SectionPos) → owner_of m s ≡ (if is_among dead s then 0 else owner_of b s))
      (m_slots : m.slots ≡ b.slots) (m_rows : m.rows ≡ b.rows) (m_ahead : m.ahead ≡ b.ahead) (m_behind : m.behind ≡ b.behind) (m_next : m.next ≡ b.next)
      (owned : (s : SectionPos) → owner_of c s ≡ owner_of m s)
      (slots : c.slots ≡ m.slots) (rows : c.rows ≡ with_list m.rows (slot_of m.slots t) living) (ahead : c.ahead ≡ m.ahead) (behind : c.behind ≡ m.behind) (next : c.next ≡ m.next)
      (free : b.free ≤ c.free) where
    middle : IsBookBut m t
    middle = dropped b m t pos (but_from b t pos h) (is_among dead) owns owner m_slots m_rows m_ahead m_behind m_next

    m_live : (r : ℕ) → is_live m r ≡ is_live b r
    unfolding is_live
    m_live r = rw m_slots refl

    last : IsBookBut c t
    last = row_put m c t middle (m_live t ∙ live) living owned slots rows ahead behind next

    c_row : rows_of c t ≡ living
    c_row = put_here m c t middle (m_live t ∙ live) living owned slots rows ahead behind next

    c_owner : (s : SectionPos) → owner_of c s ≡ (if is_among dead s then 0 else owner_of b s)
    c_owner s = owned s ∙ owner s

    stays : (s : SectionPos) → (nat_eq (owner_of b s) t && not (is_among dead s)) ≡ nat_eq (owner_of c s) t
    stays s =
        let o = c_owner s in
        elim (cases_Bool (is_among dead s)) [
          | inl e ↦ let z : owner_of c s ≡ 0 = rw e at o in let y : nat_eq 0 t ≡ false = ne_eqb 0 t (λ k. absurd (let p = pos in omega arith)) in
              rw (e, z, y) (elim (cases_Bool (nat_eq (owner_of b s) t)) [ inl k ↦ rw k refl | inr k ↦ rw k refl ])
          | inr e ↦ let z : owner_of c s ≡ owner_of b s = rw e at o in rw (e, z) (elim (cases_Bool (nat_eq (owner_of b s) t)) [ inl k ↦ rw k refl | inr k ↦ rw k refl ])
        ]

    living_is : living ≡ filter (λ s. nat_eq (owner_of c s) t) all_sections
    living_is = is ∙ ap (λ xs. filter (λ s. not (is_among dead s)) xs) (h.rows t pos)
        ∙ filter_both (λ s. nat_eq (owner_of b s) t) (λ s. not (is_among dead s)) all_sections ∙ filter_same _ _ all_sections stays

    pub kept_book : IsBook c
    kept_book = but_to c t last (c_row ∙ living_is) (λ _. omega (arith, ap length c_row, some))

    living_members : (s : SectionPos) → is_among living s ≡ (not (is_among dead s) && nat_eq (owner_of b s) t)
    living_members s = ap (λ xs. is_among xs s) is ∙ section_members (λ s. not (is_among dead s)) (rows_of b t) s ∙ ap (λ k. not (is_among dead s) && k) (row_members b t pos h s)

    kept_owner : (s : SectionPos) → owner_of c s ≡ (if nat_eq (owner_of b s) t then (if is_among living s then t else 0) else owner_of b s)
    kept_owner s =
        let o = c_owner s in
        let l = living_members s in
        elim (cases_Bool (nat_eq (owner_of b s) t)) [
          | inl k ↦ let x : owner_of b s ≡ t = eqb-true _ _ k in
              elim (cases_Bool (is_among dead s)) [
                | inl e ↦ let z : owner_of c s ≡ 0 = rw e at o in let y : is_among living s ≡ false = rw e at l in rw (k, y) z
                | inr e ↦ let z : owner_of c s ≡ owner_of b s = rw e at o in let y : is_among living s ≡ true = rw (e, k) at l in rw (k, y) (z ∙ x)
              ]
          | inr k ↦ elim (cases_Bool (is_among dead s)) [
            | inl e ↦ absurd (true≢false (sym (eq-eqb (owner_of b s) t (owns s e)) ∙ k))
            | inr e ↦ let z : owner_of c s ≡ owner_of b s = rw e at o in rw k z
          ]
        ]

    pub kept_is : Keeps b c t living
    kept_is = record {
      owner = fun_ext kept_owner;
      state = state_by_slots b c (slots ∙ m_slots);
      waits = fun_ext (λ u. fun_ext (λ v. put_waits m c t middle (m_live t ∙ live) living owned slots rows ahead behind next u v
          ∙ dropped_waits b m t pos (but_from b t pos h) (is_among dead) owns owner m_slots m_rows m_ahead m_behind m_next u v));
      live = fun_ext (λ r. put_live m c t middle (m_live t ∙ live) living owned slots rows ahead behind next r ∙ m_live r);
      next = next ∙ m_next;
      rooms = let a = ahead ∙ m_ahead in let k = behind ∙ m_behind in record {
        free = free;
        ahead = rw a (omega arith);
        behind = rw k (omega arith);
        ahead_room = rw a refl;
        behind_room = rw k refl;
      };
    }

-- ---- the list of a region is cleared, and its slot goes
module _ (b n c : Book) (t : ℕ) (h : IsBookBut b t) (live : is_live b t ≡ true) (first : ahead_of b t ≡ []) (last : behind_of b t ≡ [])
    (n_owner : (s : SectionPos) → owner_of n s ≡ owner_of b s) (n_slots : n.slots ≡ b.slots) (n_rows : n.rows ≡ with_list b.rows (slot_of b.slots t) [])
    (n_ahead : n.ahead ≡ b.ahead) (n_behind : n.behind ≡ b.behind) (n_next : n.next ≡ b.next)
    (owner : (s : SectionPos) → owner_of c s ≡ owner_of n s)
    (slots : slot_of c.slots ≡ (λ q. if nat_eq t q then n.slots.room else slot_of n.slots q)) (room : c.slots.room ≡ n.slots.room)
    (rows : c.rows ≡ n.rows) (ahead : c.ahead ≡ n.ahead) (behind : c.behind ≡ n.behind) (next : c.next ≡ n.next) where
  cleared : IsBookBut n t
  cleared = row_put b n t h live [] n_owner n_slots n_rows n_ahead n_behind n_next

  n_ahead_of : ahead_of n t ≡ []
  unfolding ahead_of
  n_ahead_of = let e = first in rw (n_slots, n_ahead) e

  n_behind_of : behind_of n t ≡ []
  unfolding behind_of
  n_behind_of = let e = last in rw (n_slots, n_behind) e

  n_row : rows_of n t ≡ []
  n_row = put_here b n t h live [] n_owner n_slots n_rows n_ahead n_behind n_next

  slots_at : (q : ℕ) → slot_of c.slots q ≡ (if nat_eq t q then n.slots.room else slot_of n.slots q)
  slots_at q = ap (λ f. f q) slots

  pub gone_book : IsBookBut c t
  gone_book = slot_removed n c t cleared n_row n_ahead_of n_behind_of owner slots_at room rows ahead behind next

  pub gone_row : rows_of c t ≡ []
  gone_row = row_gone n c t cleared n_row n_ahead_of n_behind_of owner slots_at room rows ahead behind next

  pub gone_dead : is_live c t ≡ false
  gone_dead = gone_live n c t cleared n_row n_ahead_of n_behind_of owner slots_at room rows ahead behind next

  pub gone_pairs : (u v : ℕ) → waits_of c u v ≡ waits_of b u v
  gone_pairs u v = gone_waits n c t cleared n_row n_ahead_of n_behind_of owner slots_at room rows ahead behind next u v
      ∙ put_waits b n t h live [] n_owner n_slots n_rows n_ahead n_behind n_next u v

-- ---- all sections of a region leave, and then it goes
module _ (b m n c : Book) (t : ℕ) (h : IsBook b) (live : is_live b t ≡ true) (first : ahead_of b t ≡ []) (last : behind_of b t ≡ [])
    (m_owner : (s : SectionPos) → owner_of m s ≡ (if is_among (rows_of b t) s then 0 else owner_of b s))
    (m_slots : m.slots ≡ b.slots) (m_rows : m.rows ≡ b.rows) (m_ahead : m.ahead ≡ b.ahead) (m_behind : m.behind ≡ b.behind) (m_next : m.next ≡ b.next)
    (n_owner : (s : SectionPos) → owner_of n s ≡ owner_of m s) (n_slots : n.slots ≡ m.slots) (n_rows : n.rows ≡ with_list m.rows (slot_of m.slots t) [])
    (n_ahead : n.ahead ≡ m.ahead) (n_behind : n.behind ≡ m.behind) (n_next : n.next ≡ m.next)
    (owner : (s : SectionPos) → owner_of c s ≡ owner_of n s)
    (slots : slot_of c.slots ≡ (λ q. if nat_eq t q then n.slots.room else slot_of n.slots q)) (states : slot_state c.slots ≡ with_state (slot_state n.slots) t Dead)
    (room : c.slots.room ≡ n.slots.room)
    (rows : c.rows ≡ n.rows) (ahead : c.ahead ≡ n.ahead) (behind : c.behind ≡ n.behind) (next : c.next ≡ n.next) (free : b.free ≤ c.free) where
  t_pos : 0 < t
  t_pos = (h.given t live).0

  out_owns : (s : SectionPos) → is_among (rows_of b t) s ≡ true → owner_of b s ≡ t
  out_owns s e = eqb-true _ _ (sym (row_members b t t_pos h s) ∙ e)

  emptied : IsBookBut m t
  emptied = dropped b m t t_pos (but_from b t t_pos h) (is_among (rows_of b t)) out_owns m_owner m_slots m_rows m_ahead m_behind m_next

  e_live : is_live m t ≡ true
  unfolding is_live
  e_live = let e = live in rw m_slots e

  e_ahead : ahead_of m t ≡ []
  unfolding ahead_of
  e_ahead = let e = first in rw (m_slots, m_ahead) e

  e_behind : behind_of m t ≡ []
  unfolding behind_of
  e_behind = let e = last in rw (m_slots, m_behind) e

  e_gone : IsBookBut c t
  e_gone = gone_book m n c t emptied e_live e_ahead e_behind n_owner n_slots n_rows n_ahead n_behind n_next owner slots room rows ahead behind next

  e_row : rows_of c t ≡ []
  e_row = gone_row m n c t emptied e_live e_ahead e_behind n_owner n_slots n_rows n_ahead n_behind n_next owner slots room rows ahead behind next

  e_dead : is_live c t ≡ false
  e_dead = gone_dead m n c t emptied e_live e_ahead e_behind n_owner n_slots n_rows n_ahead n_behind n_next owner slots room rows ahead behind next

  e_owner : (s : SectionPos) → owner_of c s ≡ (if nat_eq (owner_of b s) t then 0 else owner_of b s)
  e_owner s = let o = m_owner s in let r = row_members b t t_pos h s in owner s ∙ n_owner s ∙ (rw r at o)

  none_left : (s : SectionPos) → nat_eq (owner_of c s) t ≡ false
  none_left s =
      let o = e_owner s in
      elim (cases_Bool (nat_eq (owner_of b s) t)) [
        | inl k ↦ let z : owner_of c s ≡ 0 = rw k at o in rw z (ne_eqb 0 t (λ e. absurd (let p = t_pos in omega arith)))
        | inr k ↦ let z : owner_of c s ≡ owner_of b s = rw k at o in rw z k
      ]

  pub ended_book : IsBook c
  ended_book = but_to c t e_gone (e_row ∙ sym (filter_none (λ s. nat_eq (owner_of c s) t) all_sections none_left)) (λ l. absurd (true≢false (sym l ∙ e_dead)))

  e_states : state_of c ≡ with_state (state_of b) t Dead
  unfolding state_of
  e_states = let s = states in rw (n_slots, m_slots) at s

  pub ended_is : Ends b c t
  ended_is = record {
    owner = fun_ext e_owner;
    state = e_states;
    waits = fun_ext (λ u. fun_ext (λ v. gone_pairs m n c t emptied e_live e_ahead e_behind n_owner n_slots n_rows n_ahead n_behind n_next owner slots room rows ahead behind next u v
        ∙ dropped_waits b m t t_pos (but_from b t t_pos h) (is_among (rows_of b t)) out_owns m_owner m_slots m_rows m_ahead m_behind m_next u v));
    next = next ∙ n_next ∙ m_next;
    rooms = let a = ahead ∙ n_ahead ∙ m_ahead in let k = behind ∙ n_behind ∙ m_behind in record {
      free = free;
      ahead = rw a (omega arith);
      behind = rw k (omega arith);
      ahead_room = rw a refl;
      behind_room = rw k refl;
    };
  }

-- the states once the slot of a region went
pub gone_states : (b c : Book) (t : ℕ) → slot_state c.slots ≡ with_state (slot_state b.slots) t Dead → state_of c ≡ with_state (state_of b) t Dead
unfolding state_of
gone_states b c t e = e
