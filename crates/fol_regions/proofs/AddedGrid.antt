-- What the tables are after an added hold that wants sections.
use Rattle.std.proofs.Common.{◌≡◌, ℕ, ◌+◌, ◌≤◌, ◌<◌, refl, sym, ◌∙◌, ap, arith, Bool, true, false, cond, not, ◌&&◌, ◌||◌, List, [], ◌∷◌, length, inl, inr}
use Rattle.std.specs.Prelude.{◌≢◌, filter, nat_eq, nat_lt, nat_le, nat_abs}
use Rattle.std.specs.List.{list_any}
use Rattle.std.proofs.Math.Bool.{and-false}
use Rattle.std.proofs.Math.Path.{fun_ext}
use Rattle.std.proofs.lemmas.Bool.{cases_Bool, cases_eq, true≢false, eq-eqb, eqb-true, ne_eqb, and_parts, and_from, leb-true, lt-ltb, ltb-false}
use Rattle.std.proofs.lemmas.List.Sums.{length-filter}
use Rattle.fol_model.specs.declared.places.ChunkPos.{ChunkPos}
use Rattle.fol_model.specs.declared.places.SectionPos.{SectionPos}
use Rattle.fol_model.specs.declared.grids.Grid.{Grid}
use Rattle.fol_model.specs.declared.regions.State.{State}
use Rattle.fol_model.specs.declared.regions.State.TheVariants.{Transient, Ready, Ticking, Dead}
use Rattle.fol_model.specs.Add.{is_wanted, is_near, is_near_calm, is_near_ticking, target, target_waits, target_state, extended}
use Rattle.fol_model.specs.Counting.{some_below}
use Rattle.fol_model.specs.Geometry.{is_chunk, is_section, is_within, section_of, is_among}
use Rattle.fol_model.specs.GridNumbers.{IsGrid}
use Rattle.fol_model.specs.GridState.{is_ticking, size}
use Rattle.fol_model.specs.Rules.{Rules}
use Rattle.fol_model.specs.Universe.{all_sections, numbers_below}
use Rattle.fol_laws.proofs.AddTarget.{calm_below, near_has, near_lives}
use Rattle.fol_laws.proofs.AddEffect.{target_awaits}
use Rattle.fol_laws.proofs.RegionLaws.{add_targets_the_largest}
use Rattle.fol_laws.proofs.Distances.{self_distance}
use Rattle.fol_laws.proofs.FloorDivision.{around_in_limits}
use Rattle.fol_laws.proofs.NumbersBelow.{some_below-is, some_below-gives}
use Rattle.fol_laws.proofs.Tests.{same_answer}
use Rattle.fol_laws.proofs.AllSections.{some_section-gives}
use Rattle.fol_regions.specs.Added.{Grows, IsChoice, Waits, bare, calm_size, extended_change, is_calm, is_drawn, is_id}
use Rattle.fol_pages.specs.Pages.{LieIn}
use Rattle.fol_pages.proofs.NearPages.{lie_in-near}
use Rattle.fol_region_tables.specs.Book.{Book, IsBook, SetsState, owner_of, state_of, waits_of, is_live, rows_of, ahead_of}
use Rattle.fol_regions.specs.Changes.{drawn_in, into}
use Rattle.fol_regions.specs.Near.{is_close}
use Rattle.fol_region_tables.proofs.BookFacts.{owner_live}
use Rattle.fol_region_tables.proofs.Chosen.{chosen, chosen_below, chosen_numbers, filter_like, filter_twice, none_kept}
use Rattle.fol_regions.proofs.GrowSteps.{gives_any, takes_any}
use Rattle.fol_region_tables.proofs.Chosen.{same_swap}

or_swap : (x y : Bool) → (x || y) ≡ (y || x)
or_swap true true = refl
or_swap true false = refl
or_swap false true = refl
or_swap false false = refl

-- the list has an element
has_some : (xs : List ℕ) (k : ℕ) → is_id xs k ≡ true → nat_eq (length xs) 0 ≡ false
has_some [] k h = absurd (true≢false (sym h))
has_some (x ∷ xs) k h = ne_eqb (length (x ∷ xs)) 0 (λ e. absurd (omega arith))

module _ (grid : Grid) (b : Book) (is : IsBook b) (rules : Rules (bare grid b)) (ok : IsGrid grid) (c : ChunkPos) (limits : is_chunk c ≡ true) where
  -- the chunk's section is within the limits
  pub home_section : is_section (section_of grid c) ≡ true
  home_section = around_in_limits grid c (section_of grid c) ok limits (omega (arith, self_distance (section_of grid c)))

  pub home_limits : (nat_abs (section_of grid c).x ≤ 1000008) × (nat_abs (section_of grid c).z ≤ 1000008)
  unfolding is_section
  home_limits = let p = and_parts (nat_le (nat_abs (section_of grid c).x) 1000008) (nat_le (nat_abs (section_of grid c).z) 1000008) home_section in (leb-true _ _ p.0, leb-true _ _ p.1)

  -- a section that the chunk wants
  pub wanted_limits : (s : SectionPos) → is_wanted (bare grid b) c s ≡ true → is_section s ≡ true
  wanted_limits s h = around_in_limits grid c s ok limits (leb-true _ _ (and_parts (not (nat_lt 0 (owner_of b s))) (is_within (section_of grid c) grid.create s) h).1)

  pub wanted_among : (s : SectionPos) → is_among (filter (is_wanted (bare grid b) c) all_sections) s ≡ is_wanted (bare grid b) c s
  wanted_among = chosen (is_wanted (bare grid b) c) wanted_limits

  -- they lie in 34 pages
  pub wanted_near : (wanted : List SectionPos) → wanted ≡ filter (is_wanted (bare grid b) c) all_sections → LieIn (is_among wanted) 34
  wanted_near wanted want = lie_in-near (section_of grid c) grid.create ok.create_high (is_among wanted) (λ s h.
      (and_parts (not (nat_lt 0 (owner_of b s))) (is_within (section_of grid c) grid.create s) (sym (wanted_among s) ∙ ap (λ xs. is_among xs s) (sym want) ∙ h)).1)

  pub wanted_absent : (s : SectionPos) → is_wanted (bare grid b) c s ≡ true → owner_of b s ≡ 0
  wanted_absent s h = zero (owner_of b s) (and_parts (not (nat_lt 0 (owner_of b s))) (is_within (section_of grid c) grid.create s) h).0
    where
      zero : (n : ℕ) → not (nat_lt 0 n) ≡ true → n ≡ 0
      zero n k = elim (cases_Bool (nat_lt 0 n)) [
        | inl e ↦ absurd (true≢false (sym k ∙ ap not e))
        | inr e ↦ let l = ltb-false 0 n e in omega arith
      ]

  pub ticking_live : (r : ℕ) → is_ticking (state_of b r) ≡ true → is_live b r ≡ true
  ticking_live r h =
      let alive : state_of b r ≢ Dead = λ d. true≢false (sym h ∙ ap is_ticking d) in
      let s = some_section-gives (λ q. nat_eq (owner_of b q) r) (rules.has_section r alive) in
      let o = eqb-true (owner_of b s.0) r s.2 in
      ap (is_live b) (sym o) ∙ owner_live b is s.0 (omega (arith, o, rules.given r alive))

  pub awaited_ticks : (u v : ℕ) → waits_of b u v ≡ true → is_ticking (state_of b v) ≡ true
  awaited_ticks u v h = ap is_ticking (rules.awaited u v h)

  close_near : (r : ℕ) → is_close (owner_of b) (section_of grid c) (grid.create + grid.merge) r ≡ is_near (bare grid b) c r
  unfolding is_near
  close_near r = refl

  module _ (near : List ℕ) (listed : near ≡ filter (is_close (owner_of b) (section_of grid c) (grid.create + grid.merge)) (numbers_below b.next)) where
    near_is : (r : ℕ) → is_id near r ≡ is_near (bare grid b) c r
    near_is r = ap (λ xs. is_id xs r) listed ∙ chosen_below (is_close (owner_of b) (section_of grid c) (grid.create + grid.merge)) b.next
        (λ k h. rules.below_next k (near_lives (bare grid b) c rules ok limits k (sym (close_near k) ∙ h))) r ∙ close_near r

    calm_is : (r : ℕ) → is_calm b near r ≡ is_near_calm (bare grid b) c r
    calm_is r = ap (λ x. x && not (is_ticking (state_of b r))) (near_is r)

    pub near_live : (r : ℕ) → is_id near r ≡ true → (0 < r) × (is_live b r ≡ true)
    near_live r h =
        let n = near_has (bare grid b) c rules ok limits r (sym (near_is r) ∙ h) in
        let s = n.1 in
        let o : owner_of b s.0 ≡ r = s.1 in
        (n.0, ap (is_live b) (sym o) ∙ owner_live b is s.0 (omega (arith, o, n.0)))

    size_is : (r : ℕ) → is_near_calm (bare grid b) c r ≡ true → calm_size b r ≡ size (bare grid b) r
    unfolding calm_size
    size_is r h =
        let p = and_parts (is_near (bare grid b) c r) (not (is_ticking (state_of b r))) h in
        let n : is_ticking (state_of b r) ≡ false = no_true (is_ticking (state_of b r)) p.1 in
        ap (λ x. cond x 0 (length (rows_of b r))) n ∙ ap length (is.rows r (near_live r (near_is r ∙ p.0)).0) ∙ length-filter (λ s. nat_eq (owner_of b s) r) all_sections
      where
        no_true : (x : Bool) → not x ≡ true → x ≡ false
        no_true true k = absurd (true≢false (sym k))
        no_true false k = refl

    target_old : (t : ℕ) → 0 < t → IsChoice (calm_size b) near t (calm_size b t) → is_ticking (state_of b t) ≡ false → target (bare grid b) c ≡ t
    target_old t pos h still =
        let here = h.here pos in
        let tc : is_near_calm (bare grid b) c t ≡ true = and_from (is_near (bare grid b) c t) (not (is_ticking (state_of b t))) (sym (near_is t) ∙ here.0) (ap not still) in
        elim (add_targets_the_largest (bare grid b) c rules ok limits) [
          | inr z ↦ absurd (true≢false (sym tc ∙ z.1 t))
          | inl l ↦
              let q = target (bare grid b) c in
              let listed_q = near_is q ∙ (and_parts (is_near (bare grid b) c q) (not (is_ticking (state_of b q))) l.near).0 in
              let a = size_is t tc in
              let d = size_is q l.near in
              let e : size (bare grid b) t ≡ size (bare grid b) q = omega (arith, l.most t tc, h.top q listed_q, a, d) in
              omega (arith, l.lowest t tc e, h.low q listed_q (omega (arith, a, d, e)) here.1.1)
        ]

    target_new : ((r : ℕ) → is_calm b near r ≡ false) → target (bare grid b) c ≡ b.next
    target_new none = elim (add_targets_the_largest (bare grid b) c rules ok limits) [
      | inr z ↦ z.0
      | inl l ↦ absurd (true≢false (sym l.near ∙ sym (calm_is (target (bare grid b) c)) ∙ none (target (bare grid b) c)))
    ]

    pos_still : (t : ℕ) → 0 < calm_size b t → is_ticking (state_of b t) ≡ false
    unfolding calm_size
    pos_still t h = elim (cases_Bool (is_ticking (state_of b t))) [
      | inl e ↦ absurd (omega (arith, h, ap (λ x. cond {A = ℕ} x 0 (length (rows_of b t))) e))
      | inr e ↦ e
    ]

    module _ (wanted : List SectionPos) (want : wanted ≡ filter (is_wanted (bare grid b) c) all_sections) (mid : Book) (t : ℕ) (g : Grows b mid near wanted t) where
      pub target_is : target (bare grid b) c ≡ t
      target_is = elim g.choice [
        | inl h ↦ target_old t h.0 h.1 (pos_still t (h.1.here h.0).1.1)
        | inr h ↦ target_new h.1 ∙ sym h.0
      ]

      owner_is : owner_of mid ≡ (extended (bare grid b) c).owner
      owner_is = g.owner ∙ fun_ext (λ s. λ i. cond (among s i || calm_is (owner_of b s) i) (sym target_is i) (owner_of b s))
        where
          among : (s : SectionPos) → is_among wanted s ≡ is_wanted (bare grid b) c s
          among s = ap (λ xs. is_among xs s) want ∙ wanted_among s

      next_is : mid.next ≡ (extended (bare grid b) c).next
      next_is = g.next ∙ ap (λ (n : ℕ). cond {A = ℕ} (nat_eq n b.next) (b.next + 1) b.next) (sym target_is)

      -- the near regions that tick do so still
      tick_same : (k : ℕ) → (is_id near k && is_ticking (state_of mid k)) ≡ is_near_ticking (bare grid b) c k
      tick_same k = elim (cases_Bool (is_ticking (state_of b k))) [
        | inl e ↦ let o = g.others k e in
            let calm : is_calm b near k ≡ false = ap (λ x. is_id near k && not x) e ∙ and-false (is_id near k) in
            let same : state_of mid k ≡ state_of b k = g.state k o.0 ∙ ap (λ x. cond x Dead (state_of b k)) calm in
            (λ i. near_is k i && is_ticking (same i))
        | inr e ↦ elim (cases_Bool (is_id near k)) [
          | inl f ↦
              let no : is_ticking (state_of mid k) ≡ false = elim (cases_eq k t) [
                | inl x ↦ ap (λ j. is_ticking (state_of mid j)) x ∙ g.still
                | inr x ↦ ap is_ticking (g.state k x ∙ ap (λ y. cond y Dead (state_of b k)) (ap (λ y. is_id near k && not y) e ∙ ap (λ y. y && true) f))
              ] in
              ap (λ y. is_id near k && y) no ∙ and-false (is_id near k) ∙ sym (ap (λ y. is_near (bare grid b) c k && y) e ∙ and-false (is_near (bare grid b) c k))
          | inr f ↦ ap (λ y. y && is_ticking (state_of mid k)) f ∙ sym (ap (λ y. y && is_ticking (state_of b k)) (sym (near_is k) ∙ f))
        ]
      ]

      any_some : (k : ℕ) → list_any (λ u. is_calm b near u && waits_of b u k) near ≡ some_below (λ u. is_near_calm (bare grid b) c u && waits_of b u k) b.next
      any_some k = same_answer _ _
          (λ h. let y = gives_any (λ u. is_calm b near u && waits_of b u k) near h in
          let p = and_parts (is_calm b near y.0) (waits_of b y.0 k) y.1.1 in
          let n = sym (calm_is y.0) ∙ p.0 in
          some_below-is (λ u. is_near_calm (bare grid b) c u && waits_of b u k) b.next y.0 (calm_below (bare grid b) c rules ok limits y.0 n) (and_from (is_near_calm (bare grid b) c y.0) (waits_of b y.0 k) n p.1))
          (λ h. let y = some_below-gives (λ u. is_near_calm (bare grid b) c u && waits_of b u k) b.next h in
          let p = and_parts (is_near_calm (bare grid b) c y.0) (waits_of b y.0 k) y.2 in
          let q = and_parts (is_near (bare grid b) c y.0) (not (is_ticking (state_of b y.0))) p.0 in
          takes_any (λ u. is_calm b near u && waits_of b u k) y.0 near (near_is y.0 ∙ q.0) (and_from (is_calm b near y.0) (waits_of b y.0 k) (calm_is y.0 ∙ p.0) p.1))

      module _ (late : Book) (w : Waits mid late t near) (late_is : IsBook late) where
        own_waits : (k : ℕ) → waits_of late t k ≡ target_waits (bare grid b) c k
        unfolding target_waits
        own_waits k =
            ap (λ (f : ℕ → ℕ → Bool). f t k) w.waits ∙ ap (λ x. cond x (waits_of mid t k || (is_id near k && is_ticking (state_of mid k))) (waits_of mid t k)) (eq-eqb t t refl)
            ∙ (λ i. mid_waits i || tick_same k i) ∙ or_swap (some_below (λ u. is_near_calm (bare grid b) c u && waits_of b u k) b.next) (is_near_ticking (bare grid b) c k)
          where
            mid_waits : waits_of mid t k ≡ some_below (λ u. is_near_calm (bare grid b) c u && waits_of b u k) b.next
            mid_waits = ap (λ (f : ℕ → ℕ → Bool). f t k) g.waits ∙ ap (λ x. cond x (list_any (λ u. is_calm b near u && waits_of b u k) near) (not (is_calm b near t) && waits_of b t k)) (eq-eqb t t refl) ∙ any_some k

        waits_is : waits_of late ≡ (extended (bare grid b) c).waits
        waits_is = fun_ext (λ u. fun_ext (λ k. elim (cases_eq u t) [
          | inl e ↦ ap (λ j. waits_of late j k) e ∙ own_waits k ∙ sym (ap (λ x. cond x (target_waits (bare grid b) c k) (not (is_near_calm (bare grid b) c u) && waits_of b u k)) (eq-eqb (target (bare grid b) c) u (target_is ∙ sym e)))
          | inr n ↦ ap (λ (f : ℕ → ℕ → Bool). f u k) w.waits ∙ ap (λ x. cond x (waits_of mid t k || (is_id near k && is_ticking (state_of mid k))) (waits_of mid u k)) (ne_eqb u t n)
              ∙ ap (λ (f : ℕ → ℕ → Bool). f u k) g.waits ∙ ap (λ x. cond x (list_any (λ v. is_calm b near v && waits_of b v k) near) (not (is_calm b near u) && waits_of b u k)) (ne_eqb u t n)
              ∙ ap (λ x. not x && waits_of b u k) (calm_is u) ∙ sym (ap (λ x. cond x (target_waits (bare grid b) c k) (not (is_near_calm (bare grid b) c u) && waits_of b u k)) (ne_eqb (target (bare grid b) c) u (λ e. n (sym e ∙ target_is))))
        ]))

        settled_is : cond (nat_eq (length (ahead_of late t)) 0) Ready Transient ≡ target_state (bare grid b) c
        settled_is = elim (cases_Bool (some_below (target_waits (bare grid b) c) b.next)) [
          | inl e ↦ let y = some_below-gives (target_waits (bare grid b) c) b.next e in
              let below : y.0 < late.next = omega (arith, y.1, grown) in
              let has : is_id (ahead_of late t) y.0 ≡ true = ap (λ xs. is_id xs y.0) (late_is.ahead t) ∙ chosen_numbers (waits_of late t) late.next y.0 ∙ and_from (waits_of late t y.0) (nat_lt y.0 late.next) (own_waits y.0 ∙ y.2) (lt-ltb y.0 late.next below) in
              ap (λ x. cond x Ready Transient) (has_some (ahead_of late t) y.0 has) ∙ sym (ap (λ x. cond x Transient Ready) e)
          | inr e ↦ let none : (k : ℕ) → waits_of late t k ≡ false = λ k. own_waits k ∙ elim (cases_Bool (target_waits (bare grid b) c k)) [
            | inl f ↦ absurd (true≢false (sym (some_below-is (target_waits (bare grid b) c) b.next k (rules.below_next k (λ d. ticks_alive k f d)) f) ∙ e))
            | inr f ↦ f
          ] in
              ap (λ xs. cond (nat_eq (length xs) 0) Ready Transient) (late_is.ahead t ∙ none_kept (waits_of late t) none (numbers_below late.next)) ∙ sym (ap (λ x. cond x Transient Ready) e)
        ]
          where
            ticks_alive : (k : ℕ) → target_waits (bare grid b) c k ≡ true → state_of b k ≡ Dead → ⊥
            ticks_alive k f d = let a : state_of b k ≡ Ticking = target_awaits (bare grid b) c rules ok limits k f in cc

            grown : b.next ≤ late.next
            grown = elim (cases_eq t b.next) [
              | inl e ↦ omega (arith, w.next, g.next, ap (λ x. cond {A = ℕ} x (b.next + 1) b.next) (eq-eqb t b.next e))
              | inr n ↦ omega (arith, w.next, g.next, ap (λ x. cond {A = ℕ} x (b.next + 1) b.next) (ne_eqb t b.next n))
            ]

        module _ (new : Book) (st : SetsState late new t (cond (nat_eq (length (ahead_of late t)) 0) Ready Transient)) where
          pub final_owner : owner_of new ≡ (extended (bare grid b) c).owner
          final_owner = st.owner ∙ w.owner ∙ owner_is

          pub final_waits : waits_of new ≡ (extended (bare grid b) c).waits
          final_waits = st.waits ∙ waits_is

          pub final_next : new.next ≡ (extended (bare grid b) c).next
          final_next = st.next ∙ w.next ∙ next_is

          pub final_state : state_of new ≡ (extended (bare grid b) c).state
          final_state = st.state ∙ fun_ext (λ r. elim (cases_eq t r) [
            | inl e ↦ ap (λ x. cond x (cond (nat_eq (length (ahead_of late t)) 0) Ready Transient) (state_of late r)) (eq-eqb t r e) ∙ settled_is
                ∙ sym (ap (λ x. cond x (target_state (bare grid b) c) (cond (is_near_calm (bare grid b) c r) Dead (state_of b r))) (eq-eqb (target (bare grid b) c) r (target_is ∙ e)))
            | inr n ↦ ap (λ x. cond x (cond (nat_eq (length (ahead_of late t)) 0) Ready Transient) (state_of late r)) (ne_eqb t r n)
                ∙ ap (λ (f : ℕ → State). f r) w.state ∙ g.state r (λ e. n (sym e)) ∙ ap (λ x. cond x Dead (state_of b r)) (calm_is r)
                ∙ sym (ap (λ x. cond x (target_state (bare grid b) c) (cond (is_near_calm (bare grid b) c r) Dead (state_of b r))) (ne_eqb (target (bare grid b) c) r (λ e. n (sym target_is ∙ e))))
          ])

      drawn_is : filter (is_drawn b t) near ≡ drawn_in (bare grid b) c
      drawn_is = ap (filter (is_drawn b t)) listed ∙ filter_twice (is_drawn b t) (is_close (owner_of b) (section_of grid c) (grid.create + grid.merge)) (numbers_below b.next)
          ∙ filter_like _ _ (λ r. ap (λ x. is_drawn b t r && x) (close_near r) ∙ turn (not (is_ticking (state_of b r))) (not (nat_eq r t)) (is_near (bare grid b) c r)
          ∙ ap (λ x. (is_near (bare grid b) c r && not (is_ticking (state_of b r))) && not x) (same_swap r t ∙ ap (λ n. nat_eq n r) (sym target_is))) (numbers_below b.next)
        where
          turn : (x y z : Bool) → ((x && y) && z) ≡ ((z && x) && y)
          turn true true true = refl
          turn true true false = refl
          turn true false true = refl
          turn true false false = refl
          turn false y true = refl
          turn false y false = refl

      pub change_is : record { created = cond {A = List ℕ} (nat_eq t b.next) (b.next ∷ []) []; dead = filter (is_drawn b t) near; merges = into t (filter (is_drawn b t) near); parts = [] } ≡ extended_change (bare grid b) c
      change_is = λ i. record { created = cond {A = List ℕ} (nat_eq (sym target_is i) b.next) (b.next ∷ []) []; dead = drawn_is i; merges = into (sym target_is i) (drawn_is i); parts = [] }
