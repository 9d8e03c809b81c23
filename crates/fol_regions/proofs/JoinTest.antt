-- What the tables say after the joins of a release, and the tests that a release makes then.
use Rattle.std.proofs.Common.{◌≡◌, ℕ, ◌<◌, refl, sym, ◌∙◌, ap, arith, Bool, true, false, inl, inr, not, ◌&&◌, List, [], ◌∷◌, length}
use Rattle.std.specs.Prelude.{nat_eq, if◌then◌else◌, filter, count_by}
use Rattle.std.specs.List.{list_any}
use Rattle.std.proofs.Math.Path.{fun_ext}
use Rattle.std.proofs.lemmas.Bool.{cases_Bool, cases_eq, eq-eqb, ne_eqb, eqb-true, true≢false, and_parts, and_from}
use Rattle.std.proofs.lemmas.List.Sums.{length-filter}
use Rattle.fol_model.specs.declared.places.SectionPos.{SectionPos}
use Rattle.fol_model.specs.declared.regions.State.TheVariants.{Transient, Ready, Ticking, Dead}
use Rattle.fol_model.specs.Counting.{some_below}
use Rattle.fol_model.specs.Universe.{all_sections, numbers_below}
use Rattle.fol_model.specs.GridState.{GridState, in_margin}
use Rattle.fol_model.specs.Release.{joined_owner, joined_waits, joined_size, joined_dead, passes_on, must_wait, held, rested}
use Rattle.fol_model.specs.Rules.{Rules}
use Rattle.fol_laws.proofs.NumbersBelow.{some_below-is, some_below-gives}
use Rattle.fol_laws.proofs.Tests.{same_answer}
use Rattle.fol_laws.proofs.ListCounts.{count_by-cons}
use Rattle.fol_laws.proofs.Joins as joins
use Rattle.fol_region_tables.specs.Book.{Book, owner_of, state_of, waits_of, SetsState}
use Rattle.fol_regions.specs.Added.{is_id}
use Rattle.fol_regions.specs.Released.{Joins}
use Rattle.fol_region_tables.proofs.Chosen.{filter_some}

-- ---- numbers that pass a test
-- none passes exactly where the list of those that pass is empty
pub empty_filter : (p : ℕ → Bool) (n : ℕ) → nat_eq (length (filter p (numbers_below n))) 0 ≡ not (some_below p n)
empty_filter p n =
    let e : list_any (λ w. true) (filter p (numbers_below n)) ≡ some_below (λ w. p w && true) n = filter_some p (λ w. true) n in
    let f : (λ w. p w && true) ≡ p = fun_ext (λ w. elim (cases_Bool (p w)) [ inl k ↦ rw k refl | inr k ↦ rw k refl ]) in
    let g : list_any (λ w. true) (filter p (numbers_below n)) ≡ some_below p n = e ∙ ap (λ q. some_below q n) f in
    by_list (filter p (numbers_below n)) (some_below p n) g
  where
    by_list : (xs : List ℕ) (b : Bool) → list_any (λ w. true) xs ≡ b → nat_eq (length xs) 0 ≡ not b
    by_list [] b h = ap not h
    by_list (x ∷ xs) b h = let k : nat_eq (length (x ∷ xs)) 0 ≡ false = ne_eqb _ _ (λ e. absurd (omega arith)) in k ∙ ap not h

-- what passes both tests
pub length_both : {X : Type 0} (p q : X → Bool) (xs : List X) → length (filter q (filter p xs)) ≡ count_by (λ s. p s && q s) xs
length_both p q [] = refl
length_both p q (x ∷ xs) =
    let i = length_both p q xs in
    let c = count_by-cons (λ s. p s && q s) x xs in
    elim (cases_Bool (p x)) [
      | inl k ↦ elim (cases_Bool (q x)) [ inl y ↦ rw (k, y) (let d = rw (k, y) at c in omega arith) | inr y ↦ rw (k, y) (let d = rw (k, y) at c in omega arith) ]
      | inr k ↦ rw k (let d = rw k at c in omega arith)
    ]

-- the tables have the words of this state of the grid
pub record Shows (g : GridState) (b : Book) : Type 0 where
  pub owner : owner_of b ≡ g.owner
  pub state : state_of b ≡ g.state
  pub waits : waits_of b ≡ g.waits
  pub next : b.next ≡ g.next

pub grid_is : (g h : GridState) → g.grid ≡ h.grid → g.holds ≡ h.holds → g.owner ≡ h.owner → g.state ≡ h.state → g.waits ≡ h.waits → g.next ≡ h.next → g ≡ h
grid_is g h a b c d e f = λ i. record { grid = a i; holds = b i; owner = c i; state = d i; waits = e i; next = f i }

module _ (g : GridState) (t : ℕ) (rules : Rules g) (ticks : g.state t ≡ Ticking) (old new : Book) (shows : Shows g old) (ids : List ℕ)
    (is : ids ≡ filter (λ u. waits_of old u t) (numbers_below old.next)) (h : Joins old new t ids) where
  -- a region that waits was given out
  waits_below : (u : ℕ) → g.waits u t ≡ true → u < g.next
  waits_below u w = rules.below_next u (λ d. let e = rules.waiting u t w in cc)

  ids_are : ids ≡ filter (λ u. g.waits u t) (numbers_below g.next)
  ids_are = is ∙ ap (λ (f : ℕ → ℕ → Bool). filter (λ u. f u t) (numbers_below old.next)) shows.waits ∙ ap (λ n. filter (λ u. g.waits u t) (numbers_below n)) shows.next

  pub id_is : (r : ℕ) → is_id ids r ≡ g.waits r t
  id_is r =
      ap (λ xs. is_id xs r) ids_are ∙ filter_some (λ u. g.waits u t) (nat_eq r) g.next
      ∙ same_answer (some_below (λ w. g.waits w t && nat_eq r w) g.next) (g.waits r t)
      (λ k. let u = some_below-gives (λ w. g.waits w t && nat_eq r w) g.next k in
      let both = and_parts (g.waits u.0 t) (nat_eq r u.0) u.2 in let e : r ≡ u.0 = eqb-true r u.0 both.1 in rw e both.0)
      (λ w. some_below-is (λ w. g.waits w t && nat_eq r w) g.next r (waits_below r w) (and_from _ _ w (eq-eqb r r refl)))

  passes_by : (v : ℕ) → list_any (λ w. waits_of old w v) ids ≡ some_below (λ u. g.waits u t && g.waits u v) g.next
  passes_by v =
      ap (λ (f : ℕ → ℕ → Bool). list_any (λ w. f w v) ids) shows.waits
      ∙ ap (λ xs. list_any (λ w. g.waits w v) xs) ids_are
      ∙ filter_some (λ u. g.waits u t) (λ w. g.waits w v) g.next

  pub owner_joined : owner_of new ≡ joined_owner g t
  owner_joined = h.owner ∙ fun_ext (λ s.
      let e = id_is (owner_of old s) in
      let o : owner_of old s ≡ g.owner s = ap (λ f. f s) shows.owner in
      rw (e, o) refl)

  pub state_joined : state_of new ≡ (λ r. if g.waits r t then Dead else g.state r)
  state_joined = h.state ∙ fun_ext (λ r.
      let e = id_is r in
      let o : state_of old r ≡ g.state r = ap (λ f. f r) shows.state in
      rw (e, o) refl)

  pub waits_joined : waits_of new ≡ joined_waits g t
  unfolding passes_on
  waits_joined = h.waits ∙ fun_ext (λ u. fun_ext (λ v.
      let e = id_is u in
      let p = passes_by v in
      let o : waits_of old u v ≡ g.waits u v = ap (λ f. f u v) shows.waits in
      rw (e, p, o) refl))

  pub next_joined : new.next ≡ g.next
  next_joined = h.next ∙ shows.next

  -- ---- the tests
  -- t must wait exactly where its list of pairs is not empty
  pub waits_test : nat_eq (length (filter (waits_of new t) (numbers_below new.next))) 0 ≡ not (must_wait g t)
  waits_test =
      let e : waits_of new t ≡ passes_on g t = ap (λ (f : ℕ → ℕ → Bool). f t) waits_joined ∙ fun_ext (joins.waits_t g t rules ticks) in
      empty_filter (waits_of new t) new.next ∙ ap (λ (p : ℕ → Bool). not (some_below p new.next)) e ∙ ap (λ n. not (some_below (passes_on g t) n)) next_joined

  pub joins_test : nat_eq (length ids) 0 ≡ not (some_below (λ u. g.waits u t) g.next)
  joins_test = ap (λ xs. nat_eq (length xs) 0) ids_are ∙ empty_filter (λ u. g.waits u t) g.next

  pub size_test : length (filter (λ s. nat_eq (owner_of new s) t) all_sections) ≡ joined_size g t
  size_test = length-filter (λ s. nat_eq (owner_of new s) t) all_sections ∙ ap (λ (f : SectionPos → ℕ). count_by (λ s. nat_eq (f s) t) all_sections) owner_joined

  pub dead_test : length (filter (λ s. not (in_margin g s)) (filter (λ s. nat_eq (owner_of new s) t) all_sections)) ≡ joined_dead g t
  dead_test = length_both (λ s. nat_eq (owner_of new s) t) (λ s. not (in_margin g s)) all_sections
      ∙ ap (λ (f : SectionPos → ℕ). count_by (λ s. nat_eq (f s) t && not (in_margin g s)) all_sections) owner_joined

  -- ---- t waits
  module _ (b : Book) (sets : SetsState new b t Transient) where
    pub held_owner : owner_of b ≡ (held g t).owner
    held_owner = sets.owner ∙ owner_joined

    pub held_waits : waits_of b ≡ (held g t).waits
    held_waits = sets.waits ∙ waits_joined

    pub held_state : state_of b ≡ (held g t).state
    held_state = sets.state ∙ fun_ext (λ r.
        let x : state_of new r ≡ (if g.waits r t then Dead else g.state r) = ap (λ f. f r) state_joined in
        elim (cases_eq t r) [
          | inl e ↦ let k = eq-eqb t r e in let j = eq-eqb r t (sym e) in rw (k, j) refl
          | inr n ↦ let k = ne_eqb t r n in let j = ne_eqb r t (λ e. n (sym e)) in rw (k, j, x) refl
        ])

    pub held_next : b.next ≡ (held g t).next
    held_next = sets.next ∙ next_joined

  -- ---- nothing joins and nothing leaves
  module _ (none : some_below (λ u. g.waits u t) g.next ≡ false) (b : Book) (sets : SetsState new b t Ready) where
    no_waits : (u : ℕ) → g.waits u t ≡ false
    no_waits u = elim (cases_Bool (g.waits u t)) [
      | inl w ↦ absurd (true≢false (sym (some_below-is (λ u. g.waits u t) g.next u (waits_below u w) w) ∙ none))
      | inr w ↦ w
    ]

    pub rested_owner : owner_of b ≡ (rested g t).owner
    rested_owner = sets.owner ∙ owner_joined ∙ fun_ext (λ s. let w = no_waits (g.owner s) in rw w refl)

    pub rested_waits : waits_of b ≡ (rested g t).waits
    unfolding passes_on
    rested_waits = sets.waits ∙ waits_joined ∙ fun_ext (λ u. fun_ext (λ v. elim (cases_eq u t) [
      | inl e ↦
          let k = eq-eqb u t e in
          let z : g.waits u v ≡ false = rw e (joins.t_waits_none g t rules ticks v) in
          let p : some_below (λ w. g.waits w t && g.waits w v) g.next ≡ false = elim (cases_Bool (some_below (λ w. g.waits w t && g.waits w v) g.next)) [
            | inl y ↦ let w = some_below-gives (λ w. g.waits w t && g.waits w v) g.next y in
                absurd (true≢false (sym (and_parts (g.waits w.0 t) (g.waits w.0 v) w.2).0 ∙ no_waits w.0))
            | inr y ↦ y
          ] in
          rw (k, z, p) (elim (cases_Bool (nat_eq v t)) [ inl y ↦ rw y refl | inr y ↦ rw y refl ])
      | inr n ↦ let k = ne_eqb u t n in let w = no_waits u in rw (k, w) refl
    ]))

    pub rested_state : state_of b ≡ (rested g t).state
    rested_state = sets.state ∙ fun_ext (λ r.
        let x : state_of new r ≡ (if g.waits r t then Dead else g.state r) = ap (λ f. f r) state_joined in
        let w = no_waits r in
        elim (cases_eq t r) [
          | inl e ↦ let k = eq-eqb t r e in let j = eq-eqb r t (sym e) in rw (k, j) refl
          | inr n ↦ let k = ne_eqb t r n in let j = ne_eqb r t (λ e. n (sym e)) in rw (k, j, x, w) refl
        ])

    pub rested_next : b.next ≡ (rested g t).next
    rested_next = sets.next ∙ next_joined
