-- The steps of an added hold, region by region.
use Rattle.std.proofs.Common.{◌≡◌, ◌⊎◌, ℕ, zero, suc, ◌+◌, ◌≤◌, ◌<◌, refl, sym, ◌∙◌, ap, arith, Bool, true, false, cond, not, ◌&&◌, ◌||◌, List, [], ◌∷◌, ◌++◌, length, take, get_or, inl, inr, append_assoc}
use Rattle.std.specs.Prelude.{◌≢◌, filter, nat_eq, nat_lt}
use Rattle.std.specs.List.{list_any}
use Rattle.std.specs.List.Sorted.{IsStrictlySortedBy}
use Rattle.std.specs.Ordering.{nat_cmp, ordering_reverse}
use Rattle.std.specs.declared.cmp.Ordering.{Ordering}
use Rattle.std.specs.declared.cmp.Ordering.TheVariants.{Less}
use Rattle.std.proofs.Math.Bool.{and-false, or-false, or-true}
use Rattle.std.proofs.Math.Path.{fun_ext}
use Rattle.std.proofs.lemmas.Bool.{cases_Bool, cases_eq, true≢false, eq-eqb, eqb-true, ne_eqb, or_cases, or_left, or_right, or_parts, and_parts, ltb-true, ltb-false}
use Rattle.std.proofs.lemmas.List.Folds.{list_any_more}
use Rattle.std.proofs.lemmas.Map.Keys.{Less-from_sorted}
use Rattle.fol_lists.specs.Numbered.{total}
use Rattle.fol_model.specs.declared.places.SectionPos.{SectionPos}
use Rattle.fol_model.specs.declared.regions.State.{State}
use Rattle.fol_model.specs.declared.regions.State.TheVariants.{Dead}
use Rattle.fol_model.specs.GridState.{is_ticking}
use Rattle.fol_laws.proofs.NumberOrder.{numbers_tell}
use Rattle.fol_regions.specs.Added.{Gathers, IsChoice, Waits, gathered, is_drawn, is_id}
use Rattle.fol_region_tables.specs.Book.{Book, Merges, SetsPair, owner_of, state_of, waits_of, is_live}
use Rattle.fol_regions.specs.Changes.{Changes, into}
use Rattle.std.proofs.lemmas.List.{map-append}
use Rattle.fol_region_tables.proofs.HandSteps.{keeps_room-trans}

-- one id more
pub id_more : (ids : List ℕ) (i d q : ℕ) → i < length ids → is_id (take (i + 1) ids) q ≡ (is_id (take i ids) q || nat_eq q (get_or ids i d))
id_more ids i d q l = list_any_more (nat_eq q) ids i d l

-- an id of a rising list is not among those before it
pub fresh_id : (ids : List ℕ) → IsStrictlySortedBy nat_cmp ids → (i d : ℕ) → i < length ids → is_id (take i ids) (get_or ids i d) ≡ false
fresh_id ids h i d l = go i (omega arith)
  where
    suc_one : (n : ℕ) → suc n ≡ n + 1
    suc_one n = omega arith

    not_less : (n : ℕ) → nat_cmp n n ≡ Less → ⊥
    not_less n e = loop (nat_cmp n n) (numbers_tell.order.antisymm n n) e
      where
        loop : (r : Ordering) → r ≡ ordering_reverse r → r ≡ Less → ⊥
        loop r f k = let m : Less ≡ ordering_reverse Less = rw k at f in cc

    go : (j : ℕ) → j ≤ i → is_id (take j ids) (get_or ids i d) ≡ false
    go zero k = refl
    go (suc j) k =
        let less = Less-from_sorted nat_cmp ids j i d h (omega (arith, k)) l in
        let before = go j (omega (arith, k)) in
        let n : nat_eq (get_or ids i d) (get_or ids j d) ≡ false = ne_eqb (get_or ids i d) (get_or ids j d) (λ e. not_less (get_or ids i d) (ap (λ m. nat_cmp m (get_or ids i d)) e ∙ less)) in
        ap (λ m. is_id (take m ids) (get_or ids i d)) (suc_one j) ∙ id_more ids j d (get_or ids i d) (omega (arith, k, l)) ∙ (λ m. before m || n m)

-- ---- the choice
pub choice_none : (size : ℕ → ℕ) → IsChoice size [] 0 0
choice_none size = record { zero = λ e. refl; here = λ p. absurd (omega arith); top = λ q h. absurd (true≢false (sym h)); low = λ q h. absurd (true≢false (sym h)) }

module _ (size : ℕ → ℕ) (ids : List ℕ) (i d best most : ℕ) (l : i < length ids) (c : IsChoice size (take i ids) best most) (pos : 0 < get_or ids i d) where
  either : (q : ℕ) → is_id (take (i + 1) ids) q ≡ true → (is_id (take i ids) q ≡ true) ⊎ (q ≡ get_or ids i d)
  either q h = elim (or_cases (is_id (take i ids) q) (nat_eq q (get_or ids i d)) (sym (id_more ids i d q l) ∙ h)) [ inl e ↦ inl e | inr e ↦ inr (eqb-true q (get_or ids i d) e) ]

  last : is_id (take (i + 1) ids) (get_or ids i d) ≡ true
  last = id_more ids i d (get_or ids i d) l ∙ or_right (is_id (take i ids) (get_or ids i d)) (nat_eq (get_or ids i d) (get_or ids i d)) (eq-eqb (get_or ids i d) (get_or ids i d) refl)

  pub choice_taken : (nat_lt most (size (get_or ids i d)) || (nat_eq (size (get_or ids i d)) most && nat_lt (get_or ids i d) best)) ≡ true → IsChoice size (take (i + 1) ids) (get_or ids i d) (size (get_or ids i d))
  choice_taken h = elim (or_cases (nat_lt most (size (get_or ids i d))) (nat_eq (size (get_or ids i d)) most && nat_lt (get_or ids i d) best) h) [
    | inl e ↦ let more = ltb-true most (size (get_or ids i d)) e in record {
      zero = λ z. absurd (omega arith);
      here = λ p. (last, (refl, omega arith));
      top = λ q k. elim (either q k) [ inl m ↦ omega (arith, c.top q m) | inr m ↦ omega (arith, ap size m) ];
      low = λ q k s p. elim (either q k) [ inl m ↦ absurd (omega (arith, c.top q m)) | inr m ↦ omega arith ];
    }
    | inr e ↦ let p = and_parts (nat_eq (size (get_or ids i d)) most) (nat_lt (get_or ids i d) best) e in
        let same = eqb-true (size (get_or ids i d)) most p.0 in
        let less = ltb-true (get_or ids i d) best p.1 in
        let was = c.here (omega arith) in record {
          zero = λ z. absurd (omega arith);
          here = λ q. (last, (refl, omega (arith, was.1.1)));
          top = λ q k. elim (either q k) [ inl m ↦ omega (arith, c.top q m) | inr m ↦ omega (arith, ap size m) ];
          low = λ q k s n. elim (either q k) [ inl m ↦ omega (arith, c.low q m (s ∙ same) (omega arith)) | inr m ↦ omega arith ];
        }
  ]

  pub choice_left : (nat_lt most (size (get_or ids i d)) || (nat_eq (size (get_or ids i d)) most && nat_lt (get_or ids i d) best)) ≡ false → IsChoice size (take (i + 1) ids) best most
  choice_left h =
      let p = or_parts (nat_lt most (size (get_or ids i d))) (nat_eq (size (get_or ids i d)) most && nat_lt (get_or ids i d) best) h in
      let less : size (get_or ids i d) ≤ most = ltb-false most (size (get_or ids i d)) p.0 in
      record {
        zero = c.zero;
        here = λ q. let w = c.here q in (id_more ids i d best l ∙ or_left (is_id (take i ids) best) (nat_eq best (get_or ids i d)) w.0, w.1);
        top = λ q k. elim (either q k) [ inl m ↦ c.top q m | inr m ↦ omega (arith, ap size m) ];
        low = λ q k s n. elim (either q k) [
          | inl m ↦ c.low q m s n
          | inr m ↦ let e : nat_eq (size (get_or ids i d)) most ≡ true = eq-eqb (size (get_or ids i d)) most (ap size (sym m) ∙ s) in
              let f : nat_lt (get_or ids i d) best ≡ false = sym (ap (λ x. x && nat_lt (get_or ids i d) best) e) ∙ p.1 in
              omega (arith, m, ltb-false (get_or ids i d) best f)
        ];
      }

-- ---- regions that become part of the target
module _ (old : Book) (t : ℕ) (awaited : (u v : ℕ) → waits_of old u v ≡ true → is_ticking (state_of old v) ≡ true) where
  abbrev drawn : ℕ → Bool
  drawn r = is_drawn old t r

  calm_alone : (u v : ℕ) → is_ticking (state_of old v) ≡ false → waits_of old u v ≡ false
  calm_alone u v c = elim (cases_Bool (waits_of old u v)) [ inl e ↦ absurd (true≢false (sym (awaited u v e) ∙ c)) | inr e ↦ e ]

  none_any : (v : ℕ) → is_ticking (state_of old v) ≡ false → (ids : List ℕ) → list_any (λ u. drawn u && waits_of old u v) ids ≡ false
  none_any v c [] = refl
  none_any v c (x ∷ ids) = let e = calm_alone x v c in rw e (ap (λ b. b || list_any (λ u. drawn u && waits_of old u v) ids) (and-false (drawn x)) ∙ none_any v c ids)

  target_not : drawn t ≡ false
  target_not = let e : nat_eq t t ≡ true = eq-eqb t t refl in rw e (and-false (not (is_ticking (state_of old t))))

  pub gathers_none : (ids : List ℕ) → ids ≡ [] → Gathers old old t drawn ids
  gathers_none ids e = rw e (record {
    owner = refl;
    state = refl;
    waits = fun_ext (λ a. fun_ext (λ b. elim (cases_eq a t) [
      | inl f ↦ let p : nat_eq a t ≡ true = eq-eqb a t f in rw p (ap (λ j. waits_of old j b) f ∙ sym (or-false (waits_of old t b)))
      | inr f ↦ let p : nat_eq a t ≡ false = ne_eqb a t f in rw p refl
    ]));
    live = refl;
    next = refl;
    rooms = record { free = omega arith; ahead = omega arith; behind = omega arith; ahead_room = refl; behind_room = refl };
  })

  module _ (calm : is_ticking (state_of old t) ≡ false) (mid : Book) (xs ys : List ℕ) (u : ℕ) (g : Gathers old mid t drawn xs) (more : (p : ℕ → Bool) → list_any p ys ≡ (list_any p xs || p u)) (fresh : is_id xs u ≡ false) where
    done : ℕ → Bool
    done r = is_id xs r && drawn r

    -- ---- what a region is that was not looked at
    pub same_drawn : is_drawn mid t u ≡ drawn u
    same_drawn =
        let e = ap (λ (f : ℕ → State). f u) g.state ∙ ap (λ b. cond (b && drawn u) Dead (state_of old u)) fresh in
        ap (λ v. not (is_ticking v) && not (nat_eq u t)) e

    pub live_mid : is_live mid u ≡ is_live old u
    live_mid = ap (λ (f : ℕ → Bool). f u) g.live ∙ ap (λ b. not (b && drawn u) && is_live old u) fresh

    pub live_target : is_live mid t ≡ is_live old t
    live_target = ap (λ (f : ℕ → Bool). f t) g.live ∙ ap (λ b. not b && is_live old t) (ap (λ b. is_id xs t && b) target_not ∙ and-false (is_id xs t))

    waits_t : (b : ℕ) → waits_of mid t b ≡ (waits_of old t b || list_any (λ v. drawn v && waits_of old v b) xs)
    waits_t b = let p : nat_eq t t ≡ true = eq-eqb t t refl in ap (λ (f : ℕ → ℕ → Bool). f t b) g.waits ∙ rw p refl

    waits_else : (a b : ℕ) → a ≢ t → waits_of mid a b ≡ (not (is_id xs a && drawn a) && waits_of old a b)
    waits_else a b n = let p : nat_eq a t ≡ false = ne_eqb a t n in ap (λ (f : ℕ → ℕ → Bool). f a b) g.waits ∙ rw p refl

    calm_mid : (v : ℕ) → is_ticking (state_of old v) ≡ false → (r : ℕ) → waits_of mid r v ≡ false
    calm_mid v c r = elim (cases_eq r t) [
      | inl e ↦ ap (λ j. waits_of mid j v) e ∙ waits_t v ∙ (λ i. calm_alone t v c i || none_any v c xs i)
      | inr n ↦ waits_else r v n ∙ ap (λ b. not (is_id xs r && drawn r) && b) (calm_alone r v c) ∙ and-false (not (is_id xs r && drawn r))
    ]

    pub awake_mid : waits_of mid t t ≡ false
    awake_mid = calm_mid t calm t

    -- ---- it does not become part of the target
    pub gathers_left : drawn u ≡ false → Gathers old mid t drawn ys
    gathers_left stays = record {
      owner = g.owner ∙ fun_ext (λ s. ap (λ b. cond b t (owner_of old s)) (sym (hit (owner_of old s))));
      state = g.state ∙ fun_ext (λ r. ap (λ b. cond b Dead (state_of old r)) (sym (hit r)));
      waits = g.waits ∙ fun_ext (λ a. fun_ext (λ b. λ i. cond (nat_eq a t) (waits_of old t b || any b i) (not (sym (hit a) i) && waits_of old a b)));
      live = g.live ∙ fun_ext (λ r. ap (λ b. not b && is_live old r) (sym (hit r)));
      next = g.next;
      rooms = g.rooms;
    }
      where
        hit : (r : ℕ) → (is_id ys r && drawn r) ≡ (is_id xs r && drawn r)
        hit r = ap (λ b. b && drawn r) (more (nat_eq r)) ∙ elim (cases_eq r u) [
          | inl e ↦ let f : drawn r ≡ false = ap drawn e ∙ stays in rw f (and-false (is_id xs r || nat_eq r u) ∙ sym (and-false (is_id xs r)))
          | inr n ↦ let f : nat_eq r u ≡ false = ne_eqb r u n in rw f (ap (λ b. b && drawn r) (or-false (is_id xs r)))
        ]

        any : (b : ℕ) → list_any (λ v. drawn v && waits_of old v b) xs ≡ list_any (λ v. drawn v && waits_of old v b) ys
        any b = sym (more (λ v. drawn v && waits_of old v b) ∙ ap (λ y. list_any (λ v. drawn v && waits_of old v b) xs || (y && waits_of old u b)) stays ∙ or-false (list_any (λ v. drawn v && waits_of old v b) xs))

    -- ---- it does
    module _ (goes : drawn u ≡ true) where
      pub apart : u ≢ t
      apart e = true≢false (sym (and_parts (not (is_ticking (state_of old u))) (not (nat_eq u t)) goes).1 ∙ ap not (eq-eqb u t e))

      calm_u : is_ticking (state_of old u) ≡ false
      calm_u = elim (cases_Bool (is_ticking (state_of old u))) [
        | inl e ↦ absurd (true≢false (sym (and_parts (not (is_ticking (state_of old u))) (not (nat_eq u t)) goes).0 ∙ ap not e))
        | inr e ↦ e
      ]

      pub last_mid : (r : ℕ) → waits_of mid r u ≡ false
      last_mid r = calm_mid u calm_u r

      pub gathers_taken : (new : Book) → Merges mid new u t → Gathers old new t drawn ys
      gathers_taken new m = record {
        owner = m.owner ∙ fun_ext (λ s. ap (λ (f : SectionPos → ℕ). cond (nat_eq (f s) u) t (f s)) g.owner ∙ pick (is_id xs (owner_of old s) && drawn (owner_of old s)) (owner_of old s) ∙ ap (λ b. cond b t (owner_of old s)) (sym (hit (owner_of old s))));
        state = m.state ∙ fun_ext (λ r. ap (λ (f : ℕ → State). cond (nat_eq u r) Dead (f r)) g.state ∙ fall (is_id xs r && drawn r) r ∙ ap (λ b. cond b Dead (state_of old r)) (sym (hit r)));
        waits = m.waits ∙ fun_ext (λ a. fun_ext (λ b. elim (cases_eq a t) [
          | inl e ↦ let p : nat_eq a t ≡ true = eq-eqb a t e in ap (λ q. cond q (not (nat_eq b t) && (waits_of mid t b || waits_of mid u b)) (not (nat_eq a u) && waits_of mid a b)) p ∙ own b ∙ sym (ap (λ q. cond q (whole b) (rest a b)) p)
          | inr n ↦ let p : nat_eq a t ≡ false = ne_eqb a t n in ap (λ q. cond q (not (nat_eq b t) && (waits_of mid t b || waits_of mid u b)) (not (nat_eq a u) && waits_of mid a b)) p ∙ (ap (λ w. not (nat_eq a u) && w) (waits_else a b n) ∙ shut (nat_eq a u) (is_id xs a && drawn a) (waits_of old a b) ∙ ap (λ y. not y && waits_of old a b) (sym (hit a))) ∙ sym (ap (λ q. cond q (whole b) (rest a b)) p)
        ]));
        live = m.live ∙ fun_ext (λ r. ap (λ (f : ℕ → Bool). not (nat_eq r u) && f r) g.live ∙ shut (nat_eq r u) (is_id xs r && drawn r) (is_live old r) ∙ ap (λ y. not y && is_live old r) (sym (hit r)));
        next = m.next ∙ g.next;
        rooms = keeps_room-trans old mid new g.rooms m.rooms;
      }
        where
          whole : ℕ → Bool
          whole b = waits_of old t b || list_any (λ v. drawn v && waits_of old v b) ys

          rest : ℕ → ℕ → Bool
          rest a b = not (is_id ys a && drawn a) && waits_of old a b

          hit : (r : ℕ) → (is_id ys r && drawn r) ≡ ((is_id xs r && drawn r) || nat_eq r u)
          hit r = ap (λ b. b && drawn r) (more (nat_eq r)) ∙ elim (cases_eq r u) [
            | inl e ↦ let f : drawn r ≡ true = ap drawn e ∙ goes in let h : nat_eq r u ≡ true = eq-eqb r u e in rw (f, h) (both (is_id xs r))
            | inr n ↦ let f : nat_eq r u ≡ false = ne_eqb r u n in rw f (ap (λ b. b && drawn r) (or-false (is_id xs r)) ∙ sym (or-false (is_id xs r && drawn r)))
          ]
            where
              both : (b : Bool) → ((b || true) && true) ≡ ((b && true) || true)
              both true = refl
              both false = refl

          t_u : nat_eq t u ≡ false
          t_u = ne_eqb t u (λ e. apart (sym e))

          pick : (b : Bool) (r : ℕ) → cond (nat_eq (cond b t r) u) t (cond b t r) ≡ cond (b || nat_eq r u) t r
          pick true r = ap (λ y. cond y t t) t_u
          pick false r = refl

          swap : (r : ℕ) → nat_eq u r ≡ nat_eq r u
          swap r = elim (cases_eq u r) [ inl e ↦ eq-eqb u r e ∙ sym (eq-eqb r u (sym e)) | inr n ↦ ne_eqb u r n ∙ sym (ne_eqb r u (λ e. n (sym e))) ]

          fall : (b : Bool) (r : ℕ) → cond (nat_eq u r) Dead (cond b Dead (state_of old r)) ≡ cond (b || nat_eq r u) Dead (state_of old r)
          fall true r = elim (cases_Bool (nat_eq u r)) [ inl e ↦ rw e refl | inr e ↦ rw e refl ]
          fall false r = ap (λ y. cond y Dead (state_of old r)) (swap r)

          shut : (e b w : Bool) → (not e && (not b && w)) ≡ (not (b || e) && w)
          shut true true w = refl
          shut true false w = refl
          shut false true w = refl
          shut false false w = refl

          waits_u : (b : ℕ) → waits_of mid u b ≡ waits_of old u b
          waits_u b = waits_else u b apart ∙ ap (λ y. not (y && drawn u) && waits_of old u b) fresh

          own : (b : ℕ) → (not (nat_eq b t) && (waits_of mid t b || waits_of mid u b)) ≡ (waits_of old t b || list_any (λ v. drawn v && waits_of old v b) ys)
          own b = elim (cases_eq b t) [
            | inl e ↦ let p : nat_eq b t ≡ true = eq-eqb b t e in
                let c : is_ticking (state_of old b) ≡ false = ap (λ j. is_ticking (state_of old j)) e ∙ calm in
                rw p (sym (λ i. calm_alone t b c i || none_any b c ys i))
            | inr n ↦ let p : nat_eq b t ≡ false = ne_eqb b t n in
                rw p ((λ i. waits_t b i || waits_u b i) ∙ assoc (waits_of old t b) (list_any (λ v. drawn v && waits_of old v b) xs) (waits_of old u b)
                ∙ ap (λ y. waits_of old t b || (list_any (λ v. drawn v && waits_of old v b) xs || (y && waits_of old u b))) (sym goes) ∙ ap (λ y. waits_of old t b || y) (sym (more (λ v. drawn v && waits_of old v b))))
          ]
            where
              assoc : (a b c : Bool) → ((a || b) || c) ≡ (a || (b || (true && c)))
              assoc true b c = refl
              assoc false b c = refl

-- ---- pairs with those that tick
module _ (old mid : Book) (t : ℕ) (xs ys : List ℕ) (u : ℕ) (w : Waits old mid t xs) (more : (q : ℕ) → is_id ys q ≡ (is_id xs q || nat_eq q u)) (longer : length ys ≡ length xs + 1) where
  pub waits_left : is_ticking (state_of old u) ≡ false → Waits old mid t ys
  waits_left stays = record {
    owner = w.owner;
    state = w.state;
    waits = w.waits ∙ fun_ext (λ a. fun_ext (λ b. ap (λ y. cond (nat_eq a t) (waits_of old t b || y) (waits_of old a b)) (sym (hit b))));
    live = w.live;
    next = w.next;
    free = w.free;
    ahead = omega (arith, w.ahead, longer);
    behind = omega (arith, w.behind, longer);
    ahead_room = w.ahead_room;
    behind_room = w.behind_room;
  }
    where
      hit : (b : ℕ) → (is_id ys b && is_ticking (state_of old b)) ≡ (is_id xs b && is_ticking (state_of old b))
      hit b = ap (λ y. y && is_ticking (state_of old b)) (more b) ∙ elim (cases_eq b u) [
        | inl e ↦ let f : is_ticking (state_of old b) ≡ false = ap (λ j. is_ticking (state_of old j)) e ∙ stays in rw f (and-false (is_id xs b || nat_eq b u) ∙ sym (and-false (is_id xs b)))
        | inr n ↦ let f : nat_eq b u ≡ false = ne_eqb b u n in rw f (ap (λ y. y && is_ticking (state_of old b)) (or-false (is_id xs b)))
      ]

  pub waits_taken : is_ticking (state_of old u) ≡ true → (new : Book) → SetsPair mid new t u true → new.free ≡ mid.free → (total new.ahead ≤ total mid.ahead + 1) × (new.ahead.room ≡ mid.ahead.room) → (total new.behind ≤ total mid.behind + 1) × (new.behind.room ≡ mid.behind.room) → Waits old new t ys
  waits_taken ticks new p free ahead behind = record {
    owner = p.owner ∙ w.owner;
    state = p.state ∙ w.state;
    waits = p.waits ∙ fun_ext (λ a. fun_ext (λ b. ap (λ (f : ℕ → ℕ → Bool). cond (nat_eq t a && nat_eq u b) true (f a b)) w.waits ∙ elim (cases_eq a t) [
      | inl e ↦ let k : nat_eq a t ≡ true = eq-eqb a t e in let m : nat_eq t a ≡ true = eq-eqb t a (sym e) in rw (k, m) (elim (cases_eq u b) [
        | inl f ↦ let x : nat_eq u b ≡ true = eq-eqb u b f in
            let h : (is_id ys b && is_ticking (state_of old b)) ≡ true = ap (λ y. y && is_ticking (state_of old b)) (more b ∙ ap (λ y. is_id xs b || y) (eq-eqb b u (sym f)) ∙ or-true (is_id xs b)) ∙ ap (λ j. is_ticking (state_of old j)) (sym f) ∙ ticks in
            rw (x, h) (sym (or-true (waits_of old t b)))
        | inr n ↦ let x : nat_eq u b ≡ false = ne_eqb u b n in
            let h : is_id ys b ≡ is_id xs b = more b ∙ ap (λ y. is_id xs b || y) (ne_eqb b u (λ e. n (sym e))) ∙ or-false (is_id xs b) in
            rw (x, h) refl
      ])
      | inr n ↦ let k : nat_eq a t ≡ false = ne_eqb a t n in let m : nat_eq t a ≡ false = ne_eqb t a (λ e. n (sym e)) in rw (k, m) refl
    ]));
    live = p.live ∙ w.live;
    next = p.next ∙ w.next;
    free = free ∙ w.free;
    ahead = omega (arith, w.ahead, ahead.0, longer);
    behind = omega (arith, w.behind, behind.0, longer);
    ahead_room = ahead.1 ∙ w.ahead_room;
    behind_room = behind.1 ∙ w.behind_room;
  }

-- whether so many sections of a region are better than the best so far
abbrev pub better_than : ℕ → ℕ → ℕ → ℕ → Bool
better_than best most id size = nat_lt most size || (nat_eq size most && nat_lt id best)

pub id_at : (ids : List ℕ) (i d : ℕ) → i < length ids → is_id ids (get_or ids i d) ≡ true
id_at [] i d l = absurd (omega arith)
id_at (x ∷ ids) zero d l = or_left (nat_eq x x) (is_id ids x) (eq-eqb x x refl)
id_at (x ∷ ids) (suc i) d l = or_right (nat_eq (get_or ids i d) x) (is_id ids (get_or ids i d)) (id_at ids i d (omega arith))

-- ---- the change
pub gathered_more : (c : Changes) (t : ℕ) (drawn : ℕ → Bool) (xs ys : List ℕ) (u : ℕ) → filter drawn ys ≡ filter drawn xs ++ u ∷ []
    → record (gathered c t drawn xs) { dead = (gathered c t drawn xs).dead ++ u ∷ []; merges = (gathered c t drawn xs).merges ++ record { «from» = u; into = t } ∷ [] } ≡ gathered c t drawn ys
gathered_more c t drawn xs ys u e =
    let dead : (c.dead ++ filter drawn xs) ++ u ∷ [] ≡ c.dead ++ filter drawn ys = append_assoc c.dead (filter drawn xs) (u ∷ []) ∙ ap (λ zs. c.dead ++ zs) (sym e) in
    let merges : (c.merges ++ into t (filter drawn xs)) ++ record { «from» = u; into = t } ∷ [] ≡ c.merges ++ into t (filter drawn ys)
    = append_assoc c.merges (into t (filter drawn xs)) (record { «from» = u; into = t } ∷ []) ∙ ap (λ zs. c.merges ++ zs) (sym (ap (into t) e ∙ map-append (λ v. record { «from» = v; into = t }) (filter drawn xs) (u ∷ []))) in
    λ i. record c { dead = dead i; merges = merges i }

append-none : {X : Type 0} (xs : List X) → xs ≡ xs ++ []
append-none [] = refl
append-none (x ∷ xs) = λ i. x ∷ append-none xs i

pub gathered_none : (c : Changes) (t : ℕ) (drawn : ℕ → Bool) → c ≡ gathered c t drawn []
gathered_none c t drawn = λ i. record c { dead = append-none c.dead i; merges = append-none c.merges i }
