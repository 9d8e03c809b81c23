-- A pair of two regions comes or goes.
use Rattle.std.proofs.Common.{◌≡◌, ℕ, ◌+◌, ◌≤◌, ◌<◌, refl, sym, ◌∙◌, ap, arith, Bool, true, false, cond, not, ◌&&◌, ◌||◌, List, [], ◌∷◌, length, length-append, inl, inr}
use Rattle.std.specs.Prelude.{◌≢◌, filter, nat_eq, nat_lt}
use Rattle.std.specs.List.{list_any}
use Rattle.std.proofs.Math.Bool.{and-false}
use Rattle.std.proofs.Math.Path.{fun_ext}
use Rattle.std.proofs.lemmas.Bool.{cases_Bool, cases_eq, true≢false, eq-eqb, ne_eqb, or_cases}
use Rattle.std.proofs.lemmas.List.{length-set}
use Rattle.fol_lists.specs.Numbered.{total, with_list}
use Rattle.fol_model.specs.Universe.{numbers_below}
use Rattle.fol_region_tables.specs.Links.{with_id, without_id}
use Rattle.fol_region_tables.specs.Slots.{slot_of}
use Rattle.fol_region_tables.specs.Book.{Book, IsBook, SetsPair, owner_of, state_of, is_live, rows_of, ahead_of, behind_of, waits_of, with_pair}
use Rattle.fol_region_tables.proofs.BookFacts.{put_at, put_other, put_unused, live_slot, live_next, waits_next, waiter_lives}
use Rattle.fol_region_tables.proofs.Chosen.{chosen_below, filter_like, with_chosen, without_chosen}
use Rattle.fol_region_tables.proofs.LinkSteps.{filter_le, two_sides}

module _ (b : Book) (is : IsBook b) (u t : ℕ) (lu : is_live b u ≡ true) (lt : is_live b t ≡ true) (there : Bool) (xs ys : List ℕ)
    (hx : xs ≡ filter (with_pair (waits_of b) u t there u) (numbers_below b.next)) (hy : ys ≡ filter (λ a. with_pair (waits_of b) u t there a t) (numbers_below b.next))
    (fa : total (with_list b.ahead (slot_of b.slots u) xs) ≤ b.ahead.room) (fb : total (with_list b.behind (slot_of b.slots t) ys) ≤ b.behind.room) where
  abbrev pub paired : Book
  paired = record b { ahead = with_list b.ahead (slot_of b.slots u) xs; behind = with_list b.behind (slot_of b.slots t) ys }

  pair_at : (k : ℕ) → with_pair (waits_of b) u t there u k ≡ true → k < b.next
  pair_at k h = elim (cases_eq t k) [
    | inl e ↦ omega (arith, live_next b is t lt)
    | inr n ↦ let f : nat_eq t k ≡ false = ne_eqb t k n in let g : nat_eq u u ≡ true = eq-eqb u u refl in let m = rw (g, f) at h in waits_next b is u k m
  ]

  ahead_here : ahead_of paired u ≡ xs
  unfolding ahead_of
  ahead_here = put_at b.slots b.ahead is.ahead_numbers u (live_slot b u lu) xs

  ahead_there : (a : ℕ) → a ≢ u → ahead_of paired a ≡ ahead_of b a
  unfolding ahead_of
  ahead_there a n = put_other b.slots b.ahead is.ahead_numbers u (live_slot b u lu) xs a n

  behind_here : behind_of paired t ≡ ys
  unfolding behind_of
  behind_here = put_at b.slots b.behind is.behind_numbers t (live_slot b t lt) ys

  behind_there : (a : ℕ) → a ≢ t → behind_of paired a ≡ behind_of b a
  unfolding behind_of
  behind_there a n = put_other b.slots b.behind is.behind_numbers t (live_slot b t lt) ys a n

  pair_else : (a k : ℕ) → a ≢ u → with_pair (waits_of b) u t there a k ≡ waits_of b a k
  pair_else a k n = let f : nat_eq u a ≡ false = ne_eqb u a (λ e. n (sym e)) in rw f refl

  pair_waits : (a k : ℕ) → waits_of paired a k ≡ with_pair (waits_of b) u t there a k
  unfolding waits_of
  pair_waits a k = elim (cases_eq a u) [
    | inl e ↦ ap (λ j. list_any (nat_eq k) (ahead_of paired j)) e ∙ ap (list_any (nat_eq k)) (ahead_here ∙ hx) ∙ chosen_below (with_pair (waits_of b) u t there u) b.next pair_at k ∙ ap (λ j. with_pair (waits_of b) u t there j k) (sym e)
    | inr n ↦ ap (list_any (nat_eq k)) (ahead_there a n) ∙ sym (pair_else a k n)
  ]

  pub paired_waits : waits_of paired ≡ with_pair (waits_of b) u t there
  paired_waits = fun_ext (λ a. fun_ext (λ k. pair_waits a k))

  pub paired_book : IsBook paired
  unfolding owner_of is_live rows_of
  paired_book = record {
    rows = is.rows;
    limits = is.limits;
    ahead = λ a. elim (cases_eq a u) [
      | inl e ↦ ap (ahead_of paired) e ∙ ahead_here ∙ hx ∙ filter_like _ _ (λ k. sym (pair_waits u k)) (numbers_below b.next) ∙ ap (λ j. filter (waits_of paired j) (numbers_below b.next)) (sym e)
      | inr n ↦ ahead_there a n ∙ is.ahead a ∙ filter_like _ _ (λ k. sym (pair_waits a k ∙ pair_else a k n)) (numbers_below b.next)
    ];
    behind = λ a. elim (cases_eq a t) [
      | inl e ↦ ap (behind_of paired) e ∙ behind_here ∙ hy ∙ filter_like _ _ (λ k. sym (pair_waits k t)) (numbers_below b.next) ∙ ap (λ j. filter (λ k. waits_of paired k j) (numbers_below b.next)) (sym e)
      | inr n ↦ behind_there a n ∙ is.behind a ∙ filter_like _ _ (λ k. let f : nat_eq t a ≡ false = ne_eqb t a (λ e. n (sym e)) in
          let g : (nat_eq u k && nat_eq t a) ≡ false = ap (λ x. nat_eq u k && x) f ∙ and-false (nat_eq u k) in
          sym (pair_waits k a ∙ ap (λ x. cond x there (waits_of b k a)) g)) (numbers_below b.next)
    ];
    given = is.given;
    some = is.some;
    next = is.next;
    unused = λ k h. let old = is.unused k h in (old.0, (put_unused b.slots b.ahead is.ahead_numbers u (live_slot b u lu) xs k (λ e. h u (sym e)) ∙ old.1.0, put_unused b.slots b.behind is.behind_numbers t (live_slot b t lt) ys k (λ e. h t (sym e)) ∙ old.1.1));
    row_numbers = is.row_numbers;
    ahead_numbers = length-set {A = List ℕ} b.ahead.lists (slot_of b.slots u) xs ∙ is.ahead_numbers;
    behind_numbers = length-set {A = List ℕ} b.behind.lists (slot_of b.slots t) ys ∙ is.behind_numbers;
    total = is.total;
    row_room = is.row_room;
    ahead_fits = fa;
    behind_fits = fb;
    room = is.room;
  }

  pub paired_is : SetsPair b paired u t there
  unfolding owner_of state_of is_live
  paired_is = record { owner = refl; state = refl; waits = paired_waits; live = refl; next = refl }

module _ (b : Book) (is : IsBook b) (u t : ℕ) (lu : is_live b u ≡ true) (lt : is_live b t ≡ true) where
  own : (n : ℕ) → nat_eq n n ≡ true
  own n = eq-eqb n n refl

  pub more_ahead : with_id t (ahead_of b u) ≡ filter (with_pair (waits_of b) u t true u) (numbers_below b.next)
  more_ahead = ap (with_id t) (is.ahead u) ∙ with_chosen (waits_of b u) b.next t (live_next b is t lt) (waits_next b is u) ∙ filter_like _ _ (λ k. let e = own u in rw e (elim (nat_eq t k) as (λ x. (x || waits_of b u k) ≡ cond x true (waits_of b u k)) [ true ↦ refl | false ↦ refl ])) (numbers_below b.next)

  pub more_behind : with_id u (behind_of b t) ≡ filter (λ a. with_pair (waits_of b) u t true a t) (numbers_below b.next)
  more_behind = ap (with_id u) (is.behind t) ∙ with_chosen (λ a. waits_of b a t) b.next u (live_next b is u lu) (λ a h. live_next b is a (waiter_lives b is a t h)) ∙ filter_like _ _ (λ k. let e = own t in rw e (both (nat_eq u k) (waits_of b k t))) (numbers_below b.next)
    where
      both : (x w : Bool) → (x || w) ≡ cond (x && true) true w
      both true w = refl
      both false w = refl

  pub less_ahead : without_id t (ahead_of b u) ≡ filter (with_pair (waits_of b) u t false u) (numbers_below b.next)
  less_ahead = ap (without_id t) (is.ahead u) ∙ without_chosen (waits_of b u) b.next t ∙ filter_like _ _ (λ k. let e = own u in rw e (elim (nat_eq t k) as (λ x. (not x && waits_of b u k) ≡ cond x false (waits_of b u k)) [ true ↦ refl | false ↦ refl ])) (numbers_below b.next)

  pub less_behind : without_id u (behind_of b t) ≡ filter (λ a. with_pair (waits_of b) u t false a t) (numbers_below b.next)
  less_behind = ap (without_id u) (is.behind t) ∙ without_chosen (λ a. waits_of b a t) b.next u ∙ filter_like _ _ (λ k. let e = own t in rw e (both (nat_eq u k) (waits_of b k t))) (numbers_below b.next)
    where
      both : (x w : Bool) → (not x && w) ≡ cond (x && true) false w
      both true w = refl
      both false w = refl

-- ---- how many ids there are
pub with_few : (id : ℕ) (xs : List ℕ) → length (with_id id xs) ≤ length xs + 1
with_few id xs = omega (arith, length-append (filter (λ k. nat_lt k id) xs) (id ∷ filter (λ k. nat_lt id k) xs), two_sides id xs)

pub without_fewer : (id : ℕ) (xs : List ℕ) → list_any (nat_eq id) xs ≡ true → length (without_id id xs) + 1 ≤ length xs
without_fewer id [] h = absurd (true≢false (sym h))
without_fewer id (x ∷ xs) h = elim (cases_Bool (nat_eq id x)) [
  | inl e ↦ rw e (omega (arith, filter_le (λ k. not (nat_eq id k)) xs))
  | inr e ↦ elim (or_cases (nat_eq id x) (list_any (nat_eq id) xs) h) [
    | inl f ↦ absurd (true≢false (sym f ∙ e))
    | inr f ↦ rw e (omega (arith, without_fewer id xs f))
  ]
]

-- a pair stands in the second list too
pub behind_has : (b : Book) → IsBook b → (u t : ℕ) → waits_of b u t ≡ true → list_any (nat_eq u) (behind_of b t) ≡ true
behind_has b is u t h = ap (list_any (nat_eq u)) (is.behind t) ∙ chosen_below (λ a. waits_of b a t) b.next (λ a k. live_next b is a (waiter_lives b is a t k)) u ∙ h
