-- What a release needs of the tables, and what it leaves.
use Rattle.std.proofs.Common.{◌≡◌, ℕ, ◌+◌, ◌*◌, ◌≤◌, ◌<◌, refl, sym, ◌∙◌, ap, arith, Bool, true, false, inl, inr, not, ◌&&◌, ◌||◌, cond, subst, List, [], ◌∷◌, ◌++◌, length, get_or}
use Rattle.std.specs.Prelude.{◌≢◌, nat_eq, nat_lt, nat_le, if◌then◌else◌, filter, IsTrue}
use Rattle.std.specs.List.{All, range_with_len, IsDistinct}
use Rattle.std.proofs.Math.Bool.{and-false, not-not}
use Rattle.std.proofs.Math.Nat.{mul-le-mul_right}
use Rattle.std.proofs.Math.Path.{fun_ext}
use Rattle.std.proofs.lemmas.Bool.{cases_Bool, eq-eqb, ne_eqb, eqb-true, true≢false, and_parts, and_from, or_parts, lt-ltb, le-ltb, ltb-true, le-leb, leb-true, lt-leb, not-true}
use Rattle.std.proofs.lemmas.List.{append-nil}
use Rattle.fol_model.specs.declared.places.SectionPos.{SectionPos}
use Rattle.fol_model.specs.declared.regions.State.TheVariants.{Transient, Ready, Ticking, Dead}
use Rattle.fol_model.specs.Geometry.{same_section, is_among}
use Rattle.fol_model.specs.GridNumbers.{IsGrid}
use Rattle.fol_model.specs.Counting.{some_below}
use Rattle.fol_model.specs.Universe.{all_sections, count_sections, numbers_below}
use Rattle.fol_model.specs.GridState.{GridState, in_margin}
use Rattle.fol_model.specs.Release.{release, joined_owner, joined_waits, joined_size, joined_dead, passes_on, must_wait, cleans, cleaned, held, rested, remains, parts, part_id, is_part_id}
use Rattle.fol_model.specs.Rules.{Rules}
use Rattle.fol_laws.proofs.SectionOrder.{section_members}
use Rattle.fol_laws.proofs.CleanedGrid as grid
use Rattle.fol_laws.proofs.Joins as joins
use Rattle.fol_laws.proofs.ListCounts.{count_by-none}
use Rattle.fol_sections.specs.Table.{holds_of, presence_of, in_margin_of}
use Rattle.fol_sections.specs.Table as sections
use Rattle.fol_split.specs.Parts.{ArePartsOf}
use Rattle.fol_region_tables.specs.Book.{Book, IsBook, SetsState, owner_of, state_of, waits_of, is_live, rows_of, ahead_of, behind_of}
use Rattle.fol_regions.specs.DeadBounds.{dead_count}
use Rattle.fol_regions.specs.Changes.{into, nothing, release_change, waiting_for, part_ids}
use Rattle.fol_regions.specs.Added.{is_id}
use Rattle.fol_regions.specs.Released.{Joins, Cleans, IsPresence, grid_of, with_parts}
use Rattle.fol_region_tables.specs.Parted.{Keeps, Ends, Splits}
use Rattle.fol_region_tables.proofs.BookFacts.{row_most as all_few}
use Rattle.fol_regions.proofs.ChangeLists.{numbers_from}
use Rattle.fol_regions.proofs.CleanSteps as clean
use Rattle.fol_regions.proofs.JoinTest as test
use Rattle.fol_regions.proofs.SettleSteps.{row_few, living_distinct}
use Rattle.fol_split.proofs.Members.{among_at}
use Rattle.std.proofs.lemmas.List.Filters.{length-filter_both}
use Rattle.fol_regions.proofs.PartNumbers.{parts_found}
use Rattle.fol_region_tables.proofs.PartedBooks.{filter_both, filter_none, row_members}
use Rattle.fol_region_tables.proofs.PartingSteps.{filter_same, count_same}

-- a region that is not Dead has a slot
pub margin_is : (s : sections.Table) (b : Book) (q : SectionPos) → in_margin (grid_of s b) q ≡ in_margin_of s q
unfolding grid_of in_margin in_margin_of
margin_is s b q = refl

-- at most 16,384 sections have an owner
pub owned_few : (s : sections.Table) (b : Book) → Rules (grid_of s b) → count_sections (λ q. nat_lt 0 (owner_of b q)) ≤ 16384
unfolding grid_of
owned_few s b rules = rules.count

-- with fewer dead sections
pub fewer_worn : (min size num den dead most : ℕ) → dead ≤ most → (nat_le min size && nat_le (size * num) (most * den)) ≡ false → (nat_le min size && nat_le (size * num) (dead * den)) ≡ false
fewer_worn min size num den dead most l h = elim (cases_Bool (nat_le min size && nat_le (size * num) (dead * den))) [
  | inr e ↦ e
  | inl e ↦
      let p = and_parts (nat_le min size) (nat_le (size * num) (dead * den)) e in
      let m : dead * den ≤ most * den = mul-le-mul_right den l in
      let k : nat_le (size * num) (most * den) ≡ true = le-leb (size * num) (most * den) (omega (arith, leb-true _ _ p.1)) in
      absurd (true≢false (sym (and_from (nat_le min size) (nat_le (size * num) (most * den)) p.0 k) ∙ h))
]

no_length : (xs : List ℕ) → length xs ≡ 0 → xs ≡ []
no_length [] e = refl
no_length (x ∷ xs) e = absurd (omega arith)

-- a section that is in no margin has no owner after a cleaning, or is another region's
leaves_dead : (joined owner part t : ℕ) (margin : Bool) → 0 < t → (nat_eq joined t ≡ false → nat_eq owner t ≡ false) → (nat_eq (if nat_eq joined t then (if margin then part else 0) else owner) t && not margin) ≡ false
leaves_dead joined owner part t margin pos other = go (nat_eq joined t) refl margin
  where
    go : (b : Bool) → nat_eq joined t ≡ b → (m : Bool) → (nat_eq (if b then (if m then part else 0) else owner) t && not m) ≡ false
    go true e true = and-false (nat_eq part t)
    go true e false = let n : nat_eq 0 t ≡ false = ne_eqb 0 t (λ i. absurd (omega (arith, i, pos))) in rw n refl
    go false e m = let n = other e in rw n refl

not_joined : (g : GridState) (t : ℕ) (q : SectionPos) → nat_eq (joined_owner g t q) t ≡ false → nat_eq (g.owner q) t ≡ false
not_joined g t q = go (g.waits (g.owner q) t)
  where
    go : (w : Bool) → nat_eq (if w then t else g.owner q) t ≡ false → nat_eq (g.owner q) t ≡ false
    go true n = absurd (true≢false (sym (eq-eqb t t refl) ∙ n))
    go false n = n

-- a region that was cleaned has no dead section
cleaned_dead : (g : GridState) (t : ℕ) → 0 < t → dead_count (cleaned g t) t ≡ 0
unfolding dead_count in_margin
cleaned_dead g t pos =
    count_same (λ q. nat_eq ((cleaned g t).owner q) t && not (in_margin g q)) (λ q. false) (λ q. leaves_dead (joined_owner g t q) (g.owner q) (part_id g t q) t (in_margin g q) pos (not_joined g t q))
    ∙ count_by-none (λ q. false) (λ q. refl) all_sections

module _ (s : sections.Table) (b : Book) (t : ℕ) (rules : Rules (grid_of s b)) (ticks : (grid_of s b).state t ≡ Ticking) (h : IsBook b) where
  -- ---- before the joins
  pub shown : test.Shows (grid_of s b) b
  unfolding grid_of
  shown = record { owner = refl; state = refl; waits = refl; next = refl }

  pub t_live : ((r : ℕ) → state_of b r ≢ Dead → is_live b r ≡ true) → is_live b t ≡ true
  unfolding grid_of
  t_live lives = lives t (λ e. let k = ticks in absurd (cc))

  pub alone : (r : ℕ) → waits_of b t r ≡ false
  unfolding grid_of
  alone r = joins.t_waits_none (grid_of s b) t rules ticks r

  pub last : (u r : ℕ) → waits_of b u t ≡ true → waits_of b r u ≡ false
  unfolding grid_of
  last u r w = elim (cases_Bool (waits_of b r u)) [
    | inl e ↦ absurd (let x = rules.waiting u t w in let y = rules.awaited r u e in cc)
    | inr e ↦ e
  ]

  pub few : count_sections (λ q. nat_lt 0 (owner_of b q)) ≤ 16384
  few = owned_few s b rules

  -- where no region waits for t, none joins it
  pub none_join : Joins b b t []
  none_join = record {
    owner = refl;
    state = refl;
    waits = fun_ext (λ u. fun_ext (λ v. elim (cases_Bool (nat_eq u t)) [
      | inl e ↦ rw e (ap (λ x. waits_of b x v) (eqb-true u t e) ∙ alone v ∙ sym (and-false (not (nat_eq v t))))
      | inr e ↦ rw e refl
    ]));
    live = refl;
    next = refl;
    rooms = record { free = omega arith; ahead = omega arith; behind = omega arith; ahead_room = refl; behind_room = refl };
  }

  -- ---- after them
  module _ (j : Book) (ids : List ℕ) (is : ids ≡ behind_of b t) (w : Joins b j t ids) (k : IsBook j) where
    g : GridState
    g = grid_of s b

    ids_is : ids ≡ filter (λ u. waits_of b u t) (numbers_below b.next)
    ids_is = is ∙ h.behind t

    id_test : (r : ℕ) → is_id ids r ≡ (grid_of s b).waits r t
    id_test = test.id_is (grid_of s b) t rules ticks b j shown ids ids_is w

    owner_j : owner_of j ≡ joined_owner (grid_of s b) t
    owner_j = test.owner_joined (grid_of s b) t rules ticks b j shown ids ids_is w

    waits_j : waits_of j ≡ joined_waits (grid_of s b) t
    waits_j = test.waits_joined (grid_of s b) t rules ticks b j shown ids ids_is w

    state_j : state_of j ≡ (λ r. if (grid_of s b).waits r t then Dead else (grid_of s b).state r)
    state_j = test.state_joined (grid_of s b) t rules ticks b j shown ids ids_is w

    next_j : j.next ≡ (grid_of s b).next
    next_j = test.next_joined (grid_of s b) t rules ticks b j shown ids ids_is w

    pub j_live : is_live b t ≡ true → is_live j t ≡ true
    j_live live = let e = id_test t ∙ joins.t_waits_none (grid_of s b) t rules ticks t in ap (λ f. f t) w.live ∙ rw (e, live) refl

    pub j_last : behind_of j t ≡ []
    j_last = k.behind t ∙ filter_none (λ u. waits_of j u t) (numbers_below j.next) (λ u.
        let x : waits_of j u t ≡ joined_waits (grid_of s b) t u t = ap (λ f. f u t) waits_j in
        x ∙ elim (cases_Bool (nat_eq u t)) [
          | inl e ↦ rw e (elim (cases_Bool (passes u)) [ inl y ↦ absurd (let p = joins.passed_ticking (grid_of s b) t rules ticks t y in p.1.differs refl) | inr y ↦ y ])
          | inr e ↦ rw e (elim (cases_Bool ((grid_of s b).waits u t)) [ inl y ↦ rw y refl | inr y ↦ rw y refl ])
        ])
      where
        passes : ℕ → Bool
        passes u = passes_on (grid_of s b) t t

    present_j : (q : SectionPos) → nat_lt 0 (owner_of j q) ≡ nat_lt 0 (owner_of b q)
    unfolding grid_of
    present_j q =
        let o : owner_of j q ≡ joined_owner (grid_of s b) t q = ap (λ f. f q) owner_j in
        rw o (elim (cases_Bool (nat_lt 0 (owner_of b q))) [
          | inl e ↦ let l : 0 < owner_of b q = ltb-true _ _ e in rw e (lt-ltb 0 _ (joins.joined_present (grid_of s b) t rules ticks q l))
          | inr e ↦ rw e (elim (cases_Bool (nat_lt 0 (joined_owner (grid_of s b) t q))) [
            | inl f ↦ absurd (true≢false (sym (lt-ltb 0 _ (joins.present_joined (grid_of s b) t rules ticks q (ltb-true _ _ f))) ∙ e))
            | inr f ↦ f
          ])
        ])

    pub j_few : count_sections (λ q. nat_lt 0 (owner_of j q)) ≤ 16384
    j_few = omega (arith, few, count_same (λ q. nat_lt 0 (owner_of j q)) (λ q. nat_lt 0 (owner_of b q)) present_j)

    pub presence_j : IsPresence s b → IsPresence s j
    presence_j p q = p q ∙ sym (present_j q)

    waiting_is : ids ≡ waiting_for (grid_of s b) t
    unfolding grid_of
    waiting_is = ids_is

    pub wait_test : nat_eq (length (ahead_of j t)) 0 ≡ not (must_wait (grid_of s b) t)
    wait_test = ap (λ xs. nat_eq (length xs) 0) (k.ahead t) ∙ test.waits_test (grid_of s b) t rules ticks b j shown ids ids_is w

    pub wait_is : not (nat_eq (length (ahead_of j t)) 0) ≡ must_wait (grid_of s b) t
    wait_is = ap not wait_test ∙ not-not (must_wait (grid_of s b) t)

    -- ---- t waits
    module _ (d : Book) (sets : SetsState j d t Transient) (must : must_wait (grid_of s b) t ≡ true) where
      pub held_state : grid_of s d ≡ release (grid_of s b) t
      unfolding grid_of release
      held_state = rw must (test.grid_is (grid_of s d) (held (grid_of s b) t) refl refl
          (test.held_owner (grid_of s b) t rules ticks b j shown ids ids_is w d sets)
          (test.held_state (grid_of s b) t rules ticks b j shown ids ids_is w d sets)
          (test.held_waits (grid_of s b) t rules ticks b j shown ids ids_is w d sets)
          (test.held_next (grid_of s b) t rules ticks b j shown ids ids_is w d sets))

      pub held_change : record { created = []; dead = ids; merges = into t ids; parts = [] } ≡ release_change (grid_of s b) t
      unfolding release_change
      held_change = rw must (ap (λ (xs : List ℕ). record { created = []; dead = xs; merges = into t xs; parts = [] }) waiting_is)

    -- ---- t rests
    module _ (calm : must_wait (grid_of s b) t ≡ false) (rests : cleans (grid_of s b) t ≡ false) where
      none_joined : some_below (λ u. (grid_of s b).waits u t) (grid_of s b).next ≡ false
      unfolding cleans
      none_joined = (or_parts (some_below (λ u. (grid_of s b).waits u t) (grid_of s b).next) _ rests).0

      none : nat_eq (length ids) 0 ≡ true
      none = let x = test.joins_test (grid_of s b) t rules ticks b j shown ids ids_is w in let y = none_joined in rw y at x

      no_ids : ids ≡ []
      no_ids = no_length ids (eqb-true (length ids) 0 none)

      pub rested_change : record { created = []; dead = ids; merges = into t ids; parts = [] } ≡ release_change (grid_of s b) t
      unfolding release_change
      rested_change = let e = no_ids in rw (calm, rests, e) refl

      pub rested_state : (d : Book) → SetsState j d t Ready → grid_of s d ≡ release (grid_of s b) t
      unfolding grid_of release
      rested_state d sets =
          let joined = none_joined in
          rw (calm, rests) (test.grid_is (grid_of s d) (rested (grid_of s b) t) refl refl
          (test.rested_owner (grid_of s b) t rules ticks b j shown ids ids_is w joined d sets)
          (test.rested_state (grid_of s b) t rules ticks b j shown ids ids_is w joined d sets)
          (test.rested_waits (grid_of s b) t rules ticks b j shown ids ids_is w joined d sets)
          (test.rested_next (grid_of s b) t rules ticks b j shown ids ids_is w joined d sets))

    -- ---- the sections of t
    row_owner : (q : SectionPos) → is_among (rows_of j t) q ≡ nat_eq (owner_of j q) t
    row_owner q = row_members j t (joins.t_pos (grid_of s b) t rules ticks) k q

    row_present : IsPresence s b → (q : SectionPos) → is_among (rows_of j t) q ≡ true → presence_of s q ≡ true
    row_present p q e =
        let pos = joins.t_pos (grid_of s b) t rules ticks in
        presence_j p q ∙ lt-ltb 0 _ (let o : owner_of j q ≡ t = eqb-true _ _ (sym (row_owner q) ∙ e) in omega arith)

    pub row_most : is_live b t ≡ true → length (rows_of j t) ≤ 16384
    row_most live = row_few j t k (j_live live) (λ q. true) (filter (λ q. true) (rows_of j t)) refl j_few

    module _ (dead : List SectionPos) (out : dead ≡ filter (λ q. not (in_margin_of s q)) (rows_of j t)) where
      dead_members : (q : SectionPos) → is_among dead q ≡ (not (in_margin_of s q) && nat_eq (owner_of j q) t)
      dead_members q = ap (λ xs. is_among xs q) out ∙ section_members (λ q. not (in_margin_of s q)) (rows_of j t) q ∙ ap (λ v. not (in_margin_of s q) && v) (row_owner q)

      pub dead_owner : (q : SectionPos) → is_among dead q ≡ true → owner_of j q ≡ t
      dead_owner q e = eqb-true _ _ (and_parts (not (in_margin_of s q)) (nat_eq (owner_of j q) t) (sym (dead_members q) ∙ e)).1

      pub dead_present : IsPresence s b → All (λ q. IsTrue (presence_of s q)) dead
      dead_present p = λ i d l.
          let e = among_at dead i d l in
          row_present p (get_or dead i d) (row_owner (get_or dead i d) ∙ eq-eqb _ _ (dead_owner (get_or dead i d) e))

      pub dead_distinct : is_live b t ≡ true → IsDistinct same_section dead
      dead_distinct live = living_distinct j t k (j_live live) (λ q. not (in_margin_of s q)) dead out

      pub living_left : (living : List SectionPos) → living ≡ filter (in_margin_of s) (rows_of j t) → living ≡ filter (λ q. not (is_among dead q)) (rows_of j t)
      living_left living stays =
          let row = k.rows t (joins.t_pos (grid_of s b) t rules ticks) in
          stays ∙ ap (filter (in_margin_of s)) row
          ∙ filter_both (λ q. nat_eq (owner_of j q) t) (in_margin_of s) all_sections
          ∙ filter_same (λ q. nat_eq (owner_of j q) t && in_margin_of s q) (λ q. nat_eq (owner_of j q) t && not (is_among dead q)) all_sections (λ q.
          let m = dead_members q in
          elim (cases_Bool (nat_eq (owner_of j q) t)) [
            | inl e ↦ elim (cases_Bool (in_margin_of s q)) [
              | inl v ↦ let n : is_among dead q ≡ false = rw v at m in rw (e, v, n) refl
              | inr v ↦ let n : is_among dead q ≡ true = rw (v, e) at m in rw (e, v, n) refl
            ]
            | inr e ↦ rw e refl
          ])
          ∙ sym (filter_both (λ q. nat_eq (owner_of j q) t) (λ q. not (is_among dead q)) all_sections)
          ∙ ap (filter (λ q. not (is_among dead q))) (sym row)

      pub lengths : (living : List SectionPos) → living ≡ filter (in_margin_of s) (rows_of j t) → length living + length dead ≡ length (rows_of j t)
      lengths living stays = omega (arith, ap length stays, ap length out, length-filter_both (in_margin_of s) (λ q. not (in_margin_of s q)) (λ q. refl) (rows_of j t))

    -- ---- whether t is cleaned
    pub clean_test : (joined size dead : ℕ) → joined ≡ length ids → size ≡ length (rows_of j t) → dead ≡ length (filter (λ q. not (in_margin_of s q)) (rows_of j t))
        → (not (nat_eq joined 0) || (nat_eq dead size || (nat_le s.grid.min size && nat_le (size * s.grid.num) (dead * s.grid.den)))) ≡ cleans (grid_of s b) t
    unfolding grid_of cleans
    clean_test joined size dead a c d =
        let pos = joins.t_pos (grid_of s b) t rules ticks in
        let row = k.rows t pos in
        let x : not (nat_eq joined 0) ≡ some_below (λ u. (grid_of s b).waits u t) (grid_of s b).next =
        ap (λ n. not (nat_eq n 0)) a ∙ ap not (test.joins_test (grid_of s b) t rules ticks b j shown ids ids_is w) ∙ not-not (some_below (λ u. (grid_of s b).waits u t) (grid_of s b).next) in
        let y : size ≡ joined_size (grid_of s b) t = c ∙ ap length row ∙ test.size_test (grid_of s b) t rules ticks b j shown ids ids_is w in
        let z : dead ≡ joined_dead (grid_of s b) t =
        d ∙ ap (λ xs. length (filter (λ q. not (in_margin_of s q)) xs)) row
        ∙ ap length (filter_same (λ q. not (in_margin_of s q)) (λ q. not (in_margin (grid_of s b) q)) (filter (λ q. nat_eq (owner_of j q) t) all_sections) (λ q. ap not (sym (margin_is s b q))))
        ∙ test.dead_test (grid_of s b) t rules ticks b j shown ids ids_is w in
        rw (x, y, z) refl

    -- the dead sections of t
    pub dead_set : (d : Book) → owner_of d ≡ owner_of j → dead_count (grid_of s d) t ≡ length (filter (λ q. not (in_margin_of s q)) (rows_of j t))
    unfolding dead_count grid_of in_margin in_margin_of
    dead_set d same =
        let row = k.rows t (joins.t_pos (grid_of s b) t rules ticks) in
        count_same (λ q. nat_eq (owner_of d q) t && not (in_margin_of s q)) (λ q. nat_eq (owner_of j q) t && not (in_margin_of s q)) (λ q. ap (λ (f : SectionPos → ℕ). nat_eq (f q) t && not (in_margin_of s q)) same)
        ∙ sym (ap (λ xs. length (filter (λ q. not (in_margin_of s q)) xs)) row ∙ test.length_both (λ q. nat_eq (owner_of j q) t) (λ q. not (in_margin_of s q)) all_sections)

    -- nothing joins, and few of the sections are dead
    module _ (most : ℕ) (few_dead : dead_count (grid_of s b) t ≤ most)
        (rest : (nat_eq (length ids) 0 && (nat_lt most (length (rows_of j t)) && not (nat_le s.grid.min (length (rows_of j t)) && nat_le (length (rows_of j t) * s.grid.num) (most * s.grid.den)))) ≡ true) where
      no_wait : (r : ℕ) → (grid_of s b).waits r t ≡ false
      no_wait r = sym (id_test r) ∙ none_in ids (eqb-true (length ids) 0 (and_parts (nat_eq (length ids) 0) _ rest).0)
        where
          none_in : (xs : List ℕ) → length xs ≡ 0 → is_id xs r ≡ false
          none_in [] e = refl
          none_in (x ∷ xs) e = absurd (omega arith)

      same_owner : owner_of j ≡ owner_of b
      unfolding grid_of
      same_owner = owner_j ∙ fun_ext (λ q. let n = no_wait (owner_of b q) in rw n refl)

      pub rest_dead : length (filter (λ q. not (in_margin_of s q)) (rows_of j t)) ≤ most
      rest_dead = omega (arith, few_dead, dead_set b (sym same_owner))

      pub rest_test : cleans (grid_of s b) t ≡ false
      rest_test =
          let size = length (rows_of j t) in
          let dead = length (filter (λ q. not (in_margin_of s q)) (rows_of j t)) in
          let p = and_parts (nat_eq (length ids) 0) _ rest in
          let q = and_parts (nat_lt most size) _ p.1 in
          let l : most < size = ltb-true most size q.0 in
          let n : nat_eq (length ids) 0 ≡ true = p.0 in
          let m : nat_eq dead size ≡ false = ne_eqb dead size (λ e. absurd (omega (arith, rest_dead))) in
          let f : (nat_le s.grid.min size && nat_le (size * s.grid.num) (dead * s.grid.den)) ≡ false = fewer_worn s.grid.min size s.grid.num s.grid.den dead most rest_dead (not-true _ q.1) in
          sym (clean_test (length ids) size dead refl refl refl) ∙ rw (n, m, f) refl

    -- ---- t is cleaned
    module _ (living : List SectionPos) (stays : living ≡ filter (in_margin_of s) (rows_of j t)) (found : List (List SectionPos)) (are : ArePartsOf living s.grid.merge found) where
      living_is : living ≡ filter (in_margin (grid_of s b)) (filter (λ q. nat_eq (owner_of j q) t) all_sections)
      living_is = stays ∙ ap (filter (in_margin_of s)) (k.rows t (joins.t_pos (grid_of s b) t rules ticks))
          ∙ filter_same (in_margin_of s) (in_margin (grid_of s b)) (filter (λ q. nat_eq (owner_of j q) t) all_sections) (λ q. sym (margin_is s b q))

      are_parts : ArePartsOf living (grid_of s b).grid.merge found
      unfolding grid_of
      are_parts = are

      parts_are : length found ≡ parts (grid_of s b) t
      parts_are = parts_found (grid_of s b) t rules ticks living (clean.members (grid_of s b) t rules ticks j owner_j state_j waits_j next_j living living_is found are_parts) found are_parts

      pub record IsCleaned (d : Book) : Type 0 where
        pub owner : owner_of d ≡ (cleaned (grid_of s b) t).owner
        pub state : state_of d ≡ (cleaned (grid_of s b) t).state
        pub waits : waits_of d ≡ (cleaned (grid_of s b) t).waits
        pub next : d.next ≡ (cleaned (grid_of s b) t).next

      by_none : (d : Book) → length found ≡ 0 → Ends j d t → IsCleaned d
      by_none d e ends = record {
        owner = clean.ended_owner (grid_of s b) t rules ticks j owner_j state_j waits_j next_j living living_is found are_parts e d ends;
        state = clean.ended_state (grid_of s b) t rules ticks j owner_j state_j waits_j next_j living living_is found are_parts e d ends;
        waits = clean.ended_waits (grid_of s b) t rules ticks j owner_j state_j waits_j next_j living living_is found are_parts e d ends;
        next = clean.ended_next (grid_of s b) t rules ticks j owner_j state_j waits_j next_j living living_is found are_parts e d ends;
      }

      by_one : (d : Book) → length found ≡ 1 → (mid : Book) → Keeps j mid t living → SetsState mid d t Ready → IsCleaned d
      by_one d e mid keeps sets = record {
        owner = clean.kept_owner (grid_of s b) t rules ticks j owner_j state_j waits_j next_j living living_is found are_parts e mid d keeps sets;
        state = clean.kept_state (grid_of s b) t rules ticks j owner_j state_j waits_j next_j living living_is found are_parts e mid d keeps sets;
        waits = clean.kept_waits (grid_of s b) t rules ticks j owner_j state_j waits_j next_j living living_is found are_parts e mid d keeps sets;
        next = clean.kept_next (grid_of s b) t rules ticks j owner_j state_j waits_j next_j living living_is found are_parts e mid d keeps sets;
      }

      by_more : (d : Book) → 2 ≤ length found → (mid : Book) → Keeps j mid t living → Splits mid d t found → IsCleaned d
      by_more d e mid keeps splits = record {
        owner = clean.split_owner (grid_of s b) t rules ticks j owner_j state_j waits_j next_j living living_is found are_parts e mid d keeps splits;
        state = clean.split_state (grid_of s b) t rules ticks j owner_j state_j waits_j next_j living living_is found are_parts e mid d keeps splits;
        waits = clean.split_waits (grid_of s b) t rules ticks j owner_j state_j waits_j next_j living living_is found are_parts e mid d keeps splits;
        next = clean.split_next (grid_of s b) t rules ticks j owner_j state_j waits_j next_j living living_is found are_parts e mid d keeps splits;
      }

      pub is_cleaned : (d : Book) → Cleans j d t living found → IsCleaned d
      is_cleaned d c = by_cases found refl c
        where
          by_cases : (xs : List (List SectionPos)) → xs ≡ found → Cleans j d t living xs → IsCleaned d
          by_cases [] e c = by_none d (sym (ap length e)) c
          by_cases (p ∷ []) e c = by_one d (sym (ap length e)) c.0 c.1 c.2
          by_cases (p ∷ q ∷ ps) e c = by_more d (omega (arith, ap length e)) c.0 c.1 (let f = e in rw (← f) c.2)

      -- ---- none of the sections that it has then is dead
      pub cleaned_none : (e : sections.Table) (d : Book) → e.grid ≡ s.grid → holds_of e ≡ holds_of s → IsCleaned d → dead_count (grid_of e d) t ≡ 0
      unfolding grid_of
      cleaned_none e d a c x = ap (λ (g : GridState). dead_count g t) (test.grid_is (grid_of e d) (cleaned (grid_of s b) t) a c x.owner x.state x.waits x.next) ∙ cleaned_dead (grid_of s b) t (joins.t_pos (grid_of s b) t rules ticks)

      -- ---- the state and the change
      module _ (calm : must_wait (grid_of s b) t ≡ false) (cleaning : cleans (grid_of s b) t ≡ true) where
        pub cleaned_state : (e : sections.Table) (d : Book) → e.grid ≡ s.grid → holds_of e ≡ holds_of s → IsCleaned d → grid_of e d ≡ release (grid_of s b) t
        unfolding grid_of release
        cleaned_state e d a c x = rw (calm, cleaning) (test.grid_is (grid_of e d) (cleaned (grid_of s b) t) a c x.owner x.state x.waits x.next)

        n : ℕ
        n = parts (grid_of s b) t

        next_is : (grid_of s b).next ≡ j.next
        next_is = sym next_j

        part_list : part_ids (grid_of s b) t ≡ (if nat_le 2 (parts (grid_of s b) t) then range_with_len (grid_of s b).next (parts (grid_of s b) t) else [])
        part_list = elim (cases_Bool (nat_le 2 (parts (grid_of s b) t))) [
          | inl y ↦
              let c : (if nat_le 2 (parts (grid_of s b) t) then range_with_len (grid_of s b).next (parts (grid_of s b) t) else []) ≡ range_with_len (grid_of s b).next (parts (grid_of s b) t) = rw y refl in
              numbers_from (is_part_id (grid_of s b) t) (grid_of s b).next (parts (grid_of s b) t)
              (λ r l. let z : nat_le (grid_of s b).next r ≡ false = lt-leb _ _ l in rw (y, z) refl)
              (λ r l m. let z : nat_le (grid_of s b).next r ≡ true = le-leb _ _ l in let v : nat_lt r ((grid_of s b).next + parts (grid_of s b) t) ≡ true = lt-ltb _ _ m in rw (y, z, v) refl)
              ∙ sym c
          | inr y ↦
              let c : (if nat_le 2 (parts (grid_of s b) t) then range_with_len (grid_of s b).next (parts (grid_of s b) t) else []) ≡ [] = rw y refl in
              filter_none (is_part_id (grid_of s b) t) (numbers_below ((grid_of s b).next + parts (grid_of s b) t)) (λ r. rw y refl) ∙ sym c
        ]

        cleaned_lists : release_change (grid_of s b) t ≡ record {
          created = part_ids (grid_of s b) t;
          dead = waiting_for (grid_of s b) t ++ (if nat_eq (parts (grid_of s b) t) 1 then [] else (t ∷ []));
          merges = into t (waiting_for (grid_of s b) t);
          parts = part_ids (grid_of s b) t;
        }
        unfolding release_change
        cleaned_lists = rw (calm, cleaning) refl

        pub cleaned_change : with_parts (record { created = []; dead = ids; merges = into t ids; parts = [] }) t j.next found ≡ release_change (grid_of s b) t
        cleaned_change = by_length found refl ∙ sym cleaned_lists
          where
            by_length : (xs : List (List SectionPos)) → xs ≡ found → with_parts (record { created = []; dead = ids; merges = into t ids; parts = [] }) t j.next xs ≡ record {
              created = part_ids (grid_of s b) t;
              dead = waiting_for (grid_of s b) t ++ (if nat_eq (parts (grid_of s b) t) 1 then [] else (t ∷ []));
              merges = into t (waiting_for (grid_of s b) t);
              parts = part_ids (grid_of s b) t;
            }
            by_length [] e =
                let p : parts (grid_of s b) t ≡ 0 = sym parts_are ∙ sym (ap length e) in
                let few : nat_le 2 (parts (grid_of s b) t) ≡ false = lt-leb _ _ (omega arith) in
                let one : nat_eq (parts (grid_of s b) t) 1 ≡ false = ne_eqb _ _ (λ x. absurd (omega arith)) in
                let l : part_ids (grid_of s b) t ≡ [] = part_list ∙ rw few refl in
                rw one (λ i. record { created = sym l i; dead = waiting_is i ++ t ∷ []; merges = into t (waiting_is i); parts = sym l i })
            by_length (x ∷ []) e =
                let p : parts (grid_of s b) t ≡ 1 = sym parts_are ∙ sym (ap length e) in
                let few : nat_le 2 (parts (grid_of s b) t) ≡ false = lt-leb _ _ (omega arith) in
                let one : nat_eq (parts (grid_of s b) t) 1 ≡ true = eq-eqb _ _ p in
                let l : part_ids (grid_of s b) t ≡ [] = part_list ∙ rw few refl in
                let dead : ids ≡ waiting_for (grid_of s b) t ++ [] = waiting_is ∙ sym (append-nil (waiting_for (grid_of s b) t)) in
                rw one (λ i. record { created = sym l i; dead = dead i; merges = into t (waiting_is i); parts = sym l i })
            by_length (x ∷ y ∷ ys) e =
                let p : parts (grid_of s b) t ≡ length (x ∷ y ∷ ys) = sym parts_are ∙ sym (ap length e) in
                let many : nat_le 2 (parts (grid_of s b) t) ≡ true = le-leb _ _ (omega arith) in
                let one : nat_eq (parts (grid_of s b) t) 1 ≡ false = ne_eqb _ _ (λ x. absurd (omega arith)) in
                let l : part_ids (grid_of s b) t ≡ range_with_len j.next (length (x ∷ y ∷ ys)) = part_list ∙ rw many refl
                ∙ ap (λ m. range_with_len m (parts (grid_of s b) t)) next_is ∙ ap (range_with_len j.next) p in
                rw one (λ i. record { created = sym l i; dead = waiting_is i ++ t ∷ []; merges = into t (waiting_is i); parts = sym l i })

        -- the sections that leave are those that have no owner any more
        pub cleaned_presence : (ok : IsGrid s.grid) (e : sections.Table) (d : Book) (dead : List SectionPos) → dead ≡ filter (λ q. not (in_margin_of s q)) (rows_of j t) → IsPresence s b
            → presence_of e ≡ (λ q. presence_of s q && not (is_among dead q && not (in_margin_of s q))) → IsCleaned d → IsPresence e d
        unfolding grid_of
        cleaned_presence ok e d dead out p after x q =
            let pos = joins.t_pos (grid_of s b) t rules ticks in
            let pq = p q in
            let a : presence_of e q ≡ (presence_of s q && not (is_among dead q && not (in_margin_of s q))) = ap (λ f. f q) after in
            let o : owner_of d q ≡ (if nat_eq (joined_owner (grid_of s b) t q) t then (if in_margin (grid_of s b) q then part_id (grid_of s b) t q else 0) else owner_of b q) = ap (λ f. f q) x.owner in
            let m : is_among dead q ≡ (not (in_margin_of s q) && nat_eq (joined_owner (grid_of s b) t q) t) =
            ap (λ xs. is_among xs q) out ∙ section_members (λ q. not (in_margin_of s q)) (rows_of j t) q
            ∙ ap (λ v. not (in_margin_of s q) && v) (row_members j t pos k q ∙ ap (λ v. nat_eq v t) (ap (λ f. f q) owner_j)) in
            let mi = margin_is s b q in
            a ∙ elim (cases_Bool (nat_eq (joined_owner (grid_of s b) t q) t)) [
              | inl y ↦
                  let was : 0 < owner_of b q = joins.present_joined (grid_of s b) t rules ticks q (let z = eqb-true _ _ y in omega arith) in
                  let there : presence_of s q ≡ true = pq ∙ lt-ltb 0 _ was in
                  elim (cases_Bool (in_margin_of s q)) [
                    | inl v ↦
                        let g_in : in_margin (grid_of s b) q ≡ true = mi ∙ v in
                        let z : owner_of d q ≡ part_id (grid_of s b) t q = rw (y, g_in) at o in
                        let r : remains (grid_of s b) t q ≡ true = and_from _ _ y g_in in
                        let l : 0 < part_id (grid_of s b) t q = grid.part_pos (grid_of s b) t rules ok ticks calm q r in
                        let u : nat_lt 0 (owner_of d q) ≡ true = lt-ltb 0 _ (omega (arith, z, l)) in
                        let n : is_among dead q ≡ false = rw v at m in
                        rw (there, n, u) refl
                    | inr v ↦
                        let g_out : in_margin (grid_of s b) q ≡ false = mi ∙ v in
                        let z : owner_of d q ≡ 0 = rw (y, g_out) at o in
                        let u : nat_lt 0 (owner_of d q) ≡ false = le-ltb 0 _ (omega (arith, z)) in
                        let n : is_among dead q ≡ true = rw (v, y) at m in
                        rw (there, n, v, u) refl
                  ]
              | inr y ↦
                  let z : owner_of d q ≡ owner_of b q = rw y at o in
                  let n : is_among dead q ≡ false = rw y at m ∙ elim (cases_Bool (in_margin_of s q)) [ inl v ↦ rw v refl | inr v ↦ rw v refl ] in
                  rw (n, z) (let f : (presence_of s q && true) ≡ presence_of s q = elim (cases_Bool (presence_of s q)) [ inl v ↦ rw v refl | inr v ↦ rw v refl ] in f ∙ pq)
            ]

  -- ---- nothing joins t, and few of its sections are dead
  pub size_few : (size : ℕ) → size ≡ cond (nat_eq (length (behind_of b t)) 0) (length (rows_of b t)) 0 → size ≤ 16384
  size_few size e =
      let most = all_few b t h (joins.t_pos (grid_of s b) t rules ticks) few in
      elim (cases_Bool (nat_eq (length (behind_of b t)) 0)) [
        | inl y ↦ let z : size ≡ length (rows_of b t) = rw y at e in omega arith
        | inr y ↦ let z : size ≡ 0 = rw y at e in omega arith
      ]

  module _ (most size : ℕ) (few_dead : dead_count (grid_of s b) t ≤ most) (alone_size : size ≡ cond (nat_eq (length (behind_of b t)) 0) (length (rows_of b t)) 0)
      (rest : (nat_lt most size && not (nat_le s.grid.min size && nat_le (size * s.grid.num) (most * s.grid.den))) ≡ true) where
    none_behind : [] ≡ behind_of b t
    none_behind = elim (cases_Bool (nat_eq (length (behind_of b t)) 0)) [
      | inl e ↦ sym (no_length (behind_of b t) (eqb-true _ _ e))
      | inr e ↦
          let z : size ≡ 0 = rw e at alone_size in
          let l : most < size = ltb-true most size (and_parts (nat_lt most size) _ rest).0 in
          absurd (omega arith)
    ]

    size_is : size ≡ length (rows_of b t)
    size_is = let e : nat_eq (length (behind_of b t)) 0 ≡ true = ap (λ xs. nat_eq (length xs) 0) (sym none_behind) in rw e at alone_size

    row_rest : (nat_lt most (length (rows_of b t)) && not (nat_le s.grid.min (length (rows_of b t)) && nat_le (length (rows_of b t) * s.grid.num) (most * s.grid.den))) ≡ true
    row_rest = subst (λ (n : ℕ). (nat_lt most n && not (nat_le s.grid.min n && nat_le (n * s.grid.num) (most * s.grid.den))) ≡ true) size_is rest

    calm : must_wait (grid_of s b) t ≡ false
    calm = not-true _ (sym (wait_test b [] none_behind none_join h) ∙ ap (λ xs. nat_eq (length xs) 0) (h.ahead t ∙ filter_none (waits_of b t) (numbers_below b.next) alone))

    rests : cleans (grid_of s b) t ≡ false
    rests = rest_test b [] none_behind none_join h most few_dead row_rest

    pub alone_state : (d : Book) → SetsState b d t Ready → grid_of s d ≡ release (grid_of s b) t
    alone_state = rested_state b [] none_behind none_join h calm rests

    pub alone_change : nothing ≡ release_change (grid_of s b) t
    alone_change = rested_change b [] none_behind none_join h calm rests

    pub alone_dead : (d : Book) → owner_of d ≡ owner_of b → dead_count (grid_of s d) t ≤ most
    alone_dead d same = omega (arith, dead_set b [] none_behind none_join h d same, rest_dead b [] none_behind none_join h most few_dead row_rest)
