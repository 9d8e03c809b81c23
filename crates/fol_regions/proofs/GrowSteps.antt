-- The sections that an added hold wants go to the target.
use Rattle.std.proofs.Common.{◌≡◌, ℕ, ◌+◌, ◌≤◌, ◌<◌, refl, sym, ◌∙◌, ap, arith, Bool, true, false, cond, not, ◌&&◌, ◌||◌, List, [], ◌∷◌, length, inl, inr}
use Rattle.std.specs.Prelude.{◌≢◌, nat_eq}
use Rattle.std.specs.List.{list_any}
use Rattle.std.proofs.Math.Bool.{and-false, or-false}
use Rattle.std.proofs.Math.Path.{fun_ext}
use Rattle.std.proofs.lemmas.Bool.{cases_Bool, cases_eq, true≢false, eq-eqb, eqb-true, ne_eqb, or_cases, or_left, or_right, and_parts, and_from}
use Rattle.fol_lists.specs.Numbered.{total}
use Rattle.fol_model.specs.declared.places.SectionPos.{SectionPos}
use Rattle.fol_model.specs.declared.regions.State.{State}
use Rattle.fol_model.specs.declared.regions.State.TheVariants.{Ready, Dead}
use Rattle.fol_model.specs.GridState.{is_ticking}
use Rattle.fol_laws.proofs.Tests.{same_answer}
use Rattle.fol_regions.specs.Added.{Gathers, Grows, IsChoice, calm_size, is_calm, is_drawn, is_id}
use Rattle.fol_region_tables.specs.Book.{Book, IsBook, Gives, Makes, owner_of, state_of, waits_of, is_live, rows_of}
use Rattle.fol_model.specs.Geometry.{is_among}
use Rattle.fol_region_tables.proofs.BookFacts.{live_next, waiter_lives}

-- a list with an id that passes a test
pub gives_any : (p : ℕ → Bool) (xs : List ℕ) → list_any p xs ≡ true → (u : ℕ) × ((is_id xs u ≡ true) × (p u ≡ true))
gives_any p [] h = absurd (true≢false (sym h))
gives_any p (x ∷ xs) h = elim (or_cases (p x) (list_any p xs) h) [
  | inl e ↦ (x, (or_left (nat_eq x x) (is_id xs x) (eq-eqb x x refl), e))
  | inr e ↦ let y = gives_any p xs e in (y.0, (or_right (nat_eq y.0 x) (is_id xs y.0) y.1.0, y.1.1))
]

pub takes_any : (p : ℕ → Bool) (u : ℕ) (xs : List ℕ) → is_id xs u ≡ true → p u ≡ true → list_any p xs ≡ true
takes_any p u [] h k = absurd (true≢false (sym h))
takes_any p u (x ∷ xs) h k = elim (or_cases (nat_eq u x) (is_id xs u) h) [
  | inl e ↦ or_left (p x) (list_any p xs) (ap p (sym (eqb-true u x e)) ∙ k)
  | inr e ↦ or_right (p x) (list_any p xs) (takes_any p u xs e k)
]

module _ (b : Book) (is : IsBook b) (ids : List ℕ) (live : (r : ℕ) → is_id ids r ≡ true → is_live b r ≡ true) where
  pub calm_pos : (r : ℕ) → is_calm b ids r ≡ true → 0 < calm_size b r
  unfolding calm_size
  calm_pos r h =
      let p = and_parts (is_id ids r) (not (is_ticking (state_of b r))) h in
      let n : is_ticking (state_of b r) ≡ false = not_true (is_ticking (state_of b r)) p.1 in
      let s = is.some r (live r p.0) in
      omega (arith, s, ap (λ x. cond {A = ℕ} x 0 (length (rows_of b r))) n)
    where
      not_true : (x : Bool) → not x ≡ true → x ≡ false
      not_true true h = absurd (true≢false (sym h))
      not_true false h = refl

  pub pos_calm : (r : ℕ) → 0 < calm_size b r → is_ticking (state_of b r) ≡ false
  unfolding calm_size
  pos_calm r h = elim (cases_Bool (is_ticking (state_of b r))) [
    | inl e ↦ absurd (omega (arith, h, ap (λ x. cond {A = ℕ} x 0 (length (rows_of b r))) e))
    | inr e ↦ e
  ]

  pub none_calm : (most : ℕ) → most ≡ 0 → ((q : ℕ) → is_id ids q ≡ true → calm_size b q ≤ most) → (r : ℕ) → is_calm b ids r ≡ false
  none_calm most z top r = elim (cases_Bool (is_calm b ids r)) [
    | inl e ↦ absurd (omega (arith, calm_pos r e, top r (and_parts (is_id ids r) (not (is_ticking (state_of b r))) e).0))
    | inr e ↦ e
  ]

  no_any : ((r : ℕ) → is_calm b ids r ≡ false) → (k : ℕ) (xs : List ℕ) → list_any (λ u. is_calm b ids u && waits_of b u k) xs ≡ false
  no_any none k [] = refl
  no_any none k (x ∷ xs) = let e = none x in rw e (no_any none k xs)

  -- a new region
  pub grows_new : (new : Book) (xs : List SectionPos) → ((r : ℕ) → is_ticking (state_of b r) ≡ true → is_live b r ≡ true) → ((r : ℕ) → is_calm b ids r ≡ false) → Makes b new xs Ready → new.ahead ≡ b.ahead → new.behind ≡ b.behind → Grows b new ids xs b.next
  grows_new new xs lives none m ahead behind = record {
    choice = inr (refl, none);
    owner = m.owner ∙ fun_ext (λ s. ap (λ x. cond x b.next (owner_of b s)) (sym (ap (λ x. is_among xs s || x) (none (owner_of b s)) ∙ or-false (is_among xs s))));
    state = λ r n. ap (λ (f : ℕ → State). f r) m.state ∙ ap (λ x. cond x Ready (state_of b r)) (ne_eqb b.next r (λ e. n (sym e))) ∙ sym (ap (λ x. cond x Dead (state_of b r)) (none r));
    waits = m.waits ∙ fun_ext (λ a. fun_ext (λ k. elim (cases_eq a b.next) [
      | inl e ↦ ap (λ j. waits_of b j k) e ∙ from_next k ∙ sym (ap (λ x. cond x (list_any (λ u. is_calm b ids u && waits_of b u k) ids) (not (is_calm b ids a) && waits_of b a k)) (eq-eqb a b.next e) ∙ no_any none k ids)
      | inr n ↦ sym (ap (λ x. cond x (list_any (λ u. is_calm b ids u && waits_of b u k) ids) (not (is_calm b ids a) && waits_of b a k)) (ne_eqb a b.next n) ∙ ap (λ x. not x && waits_of b a k) (none a))
    ]));
    still = ap (λ (f : ℕ → State). is_ticking (f b.next)) m.state ∙ ap (λ x. is_ticking (cond x Ready (state_of b b.next))) (eq-eqb b.next b.next refl);
    live = ap (λ (f : ℕ → Bool). f b.next) m.live ∙ ap (λ x. x || is_live b b.next) (eq-eqb b.next b.next refl);
    others = λ r h. let l = lives r h in ((λ e. absurd (omega (arith, e, live_next b is r l))), ap (λ (f : ℕ → Bool). f r) m.live ∙ or_right (nat_eq r b.next) (is_live b r) l);
    next = m.next ∙ sym (ap (λ x. cond {A = ℕ} x (b.next + 1) b.next) (eq-eqb b.next b.next refl));
    free = m.free;
    ahead = omega (arith, ap total ahead);
    behind = omega (arith, ap total behind);
    ahead_room = ap (λ v. v.room) ahead;
    behind_room = ap (λ v. v.room) behind;
  }
    where
      from_next : (k : ℕ) → waits_of b b.next k ≡ false
      from_next k = elim (cases_Bool (waits_of b b.next k)) [ inl e ↦ absurd (omega (arith, live_next b is b.next (waiter_lives b is b.next k e))) | inr e ↦ e ]

  -- the largest near region
  module _ (t : ℕ) (pos : 0 < t) (choice : IsChoice (calm_size b) ids t (calm_size b t)) where
    chosen_id : is_id ids t ≡ true
    chosen_id = (choice.here pos).0

    pub chosen_calm : is_ticking (state_of b t) ≡ false
    chosen_calm = pos_calm t (choice.here pos).1.1

    t_calm : is_calm b ids t ≡ true
    t_calm = and_from (is_id ids t) (not (is_ticking (state_of b t))) chosen_id (ap not chosen_calm)

    drawn_else : (r : ℕ) → r ≢ t → (is_id ids r && is_drawn b t r) ≡ is_calm b ids r
    drawn_else r n = ap (λ x. is_id ids r && (not (is_ticking (state_of b r)) && not x)) (ne_eqb r t n) ∙ drop (is_id ids r) (not (is_ticking (state_of b r)))
      where
        drop : (x y : Bool) → (x && (y && true)) ≡ (x && y)
        drop true true = refl
        drop true false = refl
        drop false y = refl

    all_waits : (k : ℕ) → (waits_of b t k || list_any (λ u. is_drawn b t u && waits_of b u k) ids) ≡ list_any (λ u. is_calm b ids u && waits_of b u k) ids
    all_waits k = same_answer _ _
        (λ h. elim (or_cases (waits_of b t k) (list_any (λ u. is_drawn b t u && waits_of b u k) ids) h) [
          | inl e ↦ takes_any (λ u. is_calm b ids u && waits_of b u k) t ids chosen_id (and_from (is_calm b ids t) (waits_of b t k) t_calm e)
          | inr e ↦ let y = gives_any (λ u. is_drawn b t u && waits_of b u k) ids e in
              let p = and_parts (is_drawn b t y.0) (waits_of b y.0 k) y.1.1 in
              let q = and_parts (not (is_ticking (state_of b y.0))) (not (nat_eq y.0 t)) p.0 in
              takes_any (λ u. is_calm b ids u && waits_of b u k) y.0 ids y.1.0 (and_from (is_calm b ids y.0) (waits_of b y.0 k) (and_from (is_id ids y.0) (not (is_ticking (state_of b y.0))) y.1.0 q.0) p.1)
        ])
        (λ h.
        let y = gives_any (λ u. is_calm b ids u && waits_of b u k) ids h in
        let p = and_parts (is_calm b ids y.0) (waits_of b y.0 k) y.1.1 in
        elim (cases_eq y.0 t) [
          | inl e ↦ or_left (waits_of b t k) (list_any (λ u. is_drawn b t u && waits_of b u k) ids) (ap (λ j. waits_of b j k) (sym e) ∙ p.1)
          | inr n ↦ let q = and_parts (is_id ids y.0) (not (is_ticking (state_of b y.0))) p.0 in
              or_right (waits_of b t k) (list_any (λ u. is_drawn b t u && waits_of b u k) ids) (takes_any (λ u. is_drawn b t u && waits_of b u k) y.0 ids y.1.0
              (and_from (is_drawn b t y.0) (waits_of b y.0 k) (and_from (not (is_ticking (state_of b y.0))) (not (nat_eq y.0 t)) q.1 (ap not (ne_eqb y.0 t n))) p.1))
        ])

    pub grows_old : (mid new : Book) (xs : List SectionPos) → ((r : ℕ) → is_ticking (state_of b r) ≡ true → is_live b r ≡ true) → Gathers b mid t (is_drawn b t) ids → Gives mid new xs t → new.ahead ≡ mid.ahead → new.behind ≡ mid.behind → is_live b t ≡ true → Grows b new ids xs t
    grows_old mid new xs lives g v ahead behind lt = record {
      choice = inl (pos, choice);
      owner = v.owner ∙ fun_ext (λ s. ap (λ (f : SectionPos → ℕ). cond (is_among xs s) t (f s)) g.owner ∙ own s);
      state = λ r n. ap (λ (f : ℕ → State). f r) (v.state ∙ g.state) ∙ ap (λ x. cond x Dead (state_of b r)) (drawn_else r n);
      waits = v.waits ∙ g.waits ∙ fun_ext (λ a. fun_ext (λ k. elim (cases_eq a t) [
        | inl e ↦ ap (λ x. cond x (waits_of b t k || list_any (λ u. is_drawn b t u && waits_of b u k) ids) (not (is_id ids a && is_drawn b t a) && waits_of b a k)) (eq-eqb a t e) ∙ all_waits k
            ∙ sym (ap (λ x. cond x (list_any (λ u. is_calm b ids u && waits_of b u k) ids) (not (is_calm b ids a) && waits_of b a k)) (eq-eqb a t e))
        | inr n ↦ ap (λ x. cond x (waits_of b t k || list_any (λ u. is_drawn b t u && waits_of b u k) ids) (not (is_id ids a && is_drawn b t a) && waits_of b a k)) (ne_eqb a t n) ∙ ap (λ x. not x && waits_of b a k) (drawn_else a n)
            ∙ sym (ap (λ x. cond x (list_any (λ u. is_calm b ids u && waits_of b u k) ids) (not (is_calm b ids a) && waits_of b a k)) (ne_eqb a t n))
      ]));
      still = ap (λ (f : ℕ → State). is_ticking (f t)) (v.state ∙ g.state) ∙ ap (λ x. is_ticking (cond x Dead (state_of b t))) drawn_t ∙ chosen_calm;
      live = ap (λ (f : ℕ → Bool). f t) (v.live ∙ g.live) ∙ ap (λ x. not x && is_live b t) drawn_t ∙ lt;
      others = λ r h. (
        (λ e. true≢false (sym h ∙ ap (λ j. is_ticking (state_of b j)) e ∙ chosen_calm)),
        ap (λ (f : ℕ → Bool). f r) (v.live ∙ g.live) ∙ ap (λ x. not x && is_live b r) (ticks r h) ∙ lives r h,
      );
      next = v.next ∙ g.next ∙ sym (ap (λ x. cond {A = ℕ} x (b.next + 1) b.next) (ne_eqb t b.next (λ e. absurd (omega (arith, e, live_next b is t lt)))));
      free = λ n lie. omega (arith, v.free n lie, g.rooms.free);
      ahead = omega (arith, ap total ahead, g.rooms.ahead);
      behind = omega (arith, ap total behind, g.rooms.behind);
      ahead_room = ap (λ w. w.room) ahead ∙ g.rooms.ahead_room;
      behind_room = ap (λ w. w.room) behind ∙ g.rooms.behind_room;
    }
      where
        drawn_t : (is_id ids t && is_drawn b t t) ≡ false
        drawn_t = ap (λ x. is_id ids t && (not (is_ticking (state_of b t)) && not x)) (eq-eqb t t refl) ∙ ap (λ x. is_id ids t && x) (and-false (not (is_ticking (state_of b t)))) ∙ and-false (is_id ids t)

        ticks : (r : ℕ) → is_ticking (state_of b r) ≡ true → (is_id ids r && is_drawn b t r) ≡ false
        ticks r h = ap (λ x. is_id ids r && (not x && not (nat_eq r t))) h ∙ and-false (is_id ids r)

        own : (s : SectionPos) → cond (is_among xs s) t (cond (is_id ids (owner_of b s) && is_drawn b t (owner_of b s)) t (owner_of b s)) ≡ cond (is_among xs s || is_calm b ids (owner_of b s)) t (owner_of b s)
        own s = elim (cases_Bool (is_among xs s)) [
          | inl e ↦ rw e refl
          | inr e ↦ elim (cases_eq (owner_of b s) t) [
            | inl f ↦ let c : is_calm b ids (owner_of b s) ≡ true = ap (is_calm b ids) f ∙ t_calm in
                ap (λ x. cond x t (cond (is_id ids (owner_of b s) && is_drawn b t (owner_of b s)) t (owner_of b s))) e ∙ same (is_id ids (owner_of b s) && is_drawn b t (owner_of b s)) f ∙ sym (ap (λ x. cond (is_among xs s || x) t (owner_of b s)) c ∙ ap (λ x. cond (x || true) t (owner_of b s)) e)
            | inr n ↦ ap (λ x. cond x t (cond (is_id ids (owner_of b s) && is_drawn b t (owner_of b s)) t (owner_of b s))) e ∙ ap (λ x. cond x t (owner_of b s)) (drawn_else (owner_of b s) n) ∙ sym (ap (λ x. cond (x || is_calm b ids (owner_of b s)) t (owner_of b s)) e)
          ]
        ]
          where
            same : (x : Bool) → owner_of b s ≡ t → cond x t (owner_of b s) ≡ t
            same true f = refl
            same false f = f
