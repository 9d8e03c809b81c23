-- The seats gathered into one, and the state at the end.
use Rattle.std.proofs.Common.{◌≡◌, ◌⊎◌, ℕ, ◌+◌, ◌<◌, ◌≤◌, true, false, List, [], ◌∷◌, ◌++◌, length, map, sym, refl, ap, ◌∙◌, subst, ⊎_elim, arith, Option, Some, None, All, Contains}
use Rattle.std.proofs.lemmas.Bool.{true≢false}
use Rattle.std.proofs.lemmas.List.Elements.{All-nil, All-cons, All-weaker, All-map, All-contains, Contains-append_left, Contains-append_right}
use mathlib.Core.Option.{some}
use lib.ListN.{get_elem?}
use Rattle.atomic_table.specs.Table.{State, Me, Final, Seen}
use Rattle.fol_lock.specs.declared.view.Claim.{Claim}
use Rattle.fol_lock.specs.declared.view.View.{View}
use Rattle.fol_lock.specs.Log.{given_by}
use Rattle.fol_lock.specs.Seat.{LockId, Shown, IsIdle, numbers_of, AreAll, Continues}
use Rattle.fol_lock.specs.View.{claims, both_of}
use Rattle.fol_lock.specs.Rule.{Claimed, AtHome, IsOut, Ruled}
use Rattle.fol_lock.specs.Pass.{shown, Sits, Gathers, claim_of, HasClaim}
use Rattle.fol_lock.proofs.Lists.{one_there}

module _ {S O E : Type 0} (by : E → ℕ) (lock : LockId) (number : ℕ) (table : LockId) (m : Me (Option S) (View O E)) (s : Shown O E) where
  -- what is known of the pass of an idle seat that is taken apart
  pub record Apart : Type 0 where
    pub table_is : table ≡ lock
    pub gathers : Gathers m
    pub own : m.0.own ≡ claim_of s

  pub apart : Sits by number m → shown table m ≡ s → IsIdle lock s → Apart
  apart sits is idle = let no_turn : m.0.turn ≡ false = ap (λ (x : Shown O E). x.has_turn) is ∙ idle.1 in record {
    table_is = ap (λ (x : Shown O E). x.lock) is ∙ idle.0;
    gathers = record {
      live = sits.live;
      draws = subst (λ turn. m.0.draws ≡ Rattle.std.proofs.Common.cond turn 1 0) no_turn sits.draws;
      no_turn = no_turn;
      nothing_out = subst (λ turn. m.1 ≡ Rattle.std.proofs.Common.cond turn ((0, None) ∷ []) []) no_turn sits.out;
    };
    own = ap (λ (x : Shown O E). claim_of x) is;
  }

module _ {S O E : Type 0} where
  pub first_gathered : (m : Me (Option S) (View O E)) (s : Shown O E) → m.0.own ≡ claim_of s → All (HasClaim m.0) (s ∷ [])
  first_gathered m s is = All-cons (HasClaim m.0) s [] (0, omega arith, is) (All-nil (HasClaim m.0))

  pub one_more_gathered : (m n : Me (Option S) (View O E)) (v : View O E) (s : Shown O E) (rest : List (Shown O E)) → n ≡ (both_of m.0 v, m.1) → v.own ≡ claim_of s → Gathers m → All (HasClaim m.0) rest
      → Gathers n × All (HasClaim n.0) (s ∷ rest)
  one_more_gathered m n v s rest is own g has =
      let here : Contains (claims v) (claim_of s) = (0, omega arith, own) in
      subst (λ (k : Me (Option S) (View O E)). Gathers k × All (HasClaim k.0) (s ∷ rest)) (sym is) (
        record { live = g.live; draws = g.draws; no_turn = g.no_turn; nothing_out = g.nothing_out },
        All-cons (HasClaim (both_of m.0 v)) s rest (Contains-append_right (claims m.0) (claims v) (claim_of s) here)
            (All-weaker (HasClaim m.0) (HasClaim (both_of m.0 v)) (λ u. Contains-append_left (claims m.0) (claims v) (claim_of u)) rest has),
      )

module _ {O E : Type 0} where
  -- each number is claimed by a seat that was gathered
  numbers_claimed : (v : View O E) (count : ℕ) (seats : List (Shown O E)) → AreAll count seats → All (HasClaim v) seats → (n : ℕ) → n < count → (s : Shown O E) × HasClaim v s × (s.number ≡ n)
  numbers_claimed v count seats all has n low =
      let IsClaimed : ℕ → Type 0 = λ k. (s : Shown O E) × HasClaim v s × (s.number ≡ k) in
      All-contains IsClaimed (numbers_of seats) n (All-map IsClaimed (λ s. s.number) seats (All-weaker (HasClaim v) (λ s. IsClaimed s.number) (λ s claimed. (s, claimed, refl)) seats has)) (all n low)

  pub some_seat : (count : ℕ) (seats : List (Shown O E)) → 0 < count → AreAll count seats → 0 < length seats
  some_seat count [] low all = let none = (all 0 low).1 in absurd (omega arith)
  some_seat count (x ∷ xs) low all = omega arith

pub no_items : {X : Type 0} (xs : List X) → length xs ≡ 0 → xs ≡ []
no_items [] e = refl
no_items (x ∷ xs) e = absurd (omega arith)

module _ {S O E : Type 0} (log_of : S → List E) (origin_of : S → O) (by : E → ℕ) (origin : O) (count : ℕ) (id : ℕ) (v : View O E) where
  -- what the closed table holds, where one seat has the claims of all
  pub record Ends (seats : List (Shown O E)) (xs : List (Option S)) : Type 0 where
    pub state : S
    pub there : get_elem? xs 0 ≡ some (Some state)
    pub known : All (λ s. Continues log_of origin_of by s state) seats
    pub others : All (λ e. Contains (numbers_of seats) (by e)) (log_of state)

  module _ (s : State (Option S) (View O E)) (r : Ruled log_of origin_of by origin count s) (at : get_elem? s.views id ≡ some v) (live : v.live ≡ 1) where
    claimed : (t : Shown O E) → HasClaim v t → Claimed by origin r.books.log r.books.dealt r.books.owner id (claim_of t)
    claimed t has =
        let f = r.each id v at in
        let C : Claim O E → Type 0 = Claimed by origin r.books.log r.books.dealt r.books.owner id in
        All-contains C (claims v) (claim_of t) (All-cons C v.own v.joined (f.own live) f.joined) has

    home_continues : (h : AtHome log_of origin_of origin r.books.log s) (t : Shown O E) → HasClaim v t → Continues log_of origin_of by t h.state
    home_continues h t has = let c = claimed t has in record {
      origin_is = c.origin_is ∙ ap (λ (o : O). Some o) (sym h.origin_is);
      seen = (c.seen.0, h.log_is ∙ c.seen.1);
      mine = ap (given_by by t.number) h.log_is ∙ c.mine;
    }

    -- the seat that has the turn was gathered, so it is the one seat, which has no turn
    not_out : v.turn ≡ false → ((n : ℕ) → n < count → (t : Shown O E) × HasClaim v t × (t.number ≡ n)) → IsOut s → ⊥
    not_out no_turn all h =
        let f = r.each h.seat h.view h.there in
        let turn = f.turn h.turn in
        let draws = f.draws in
        let at_most_one = f.live in
        let own = f.own (omega (arith, turn.0, draws, at_most_one)) in
        let dealt = own.given_out in
        let within = r.at_most in
        let mine = all h.view.own.number (omega arith) in
        let here : h.seat ≡ id = sym own.owned ∙ (ap r.books.owner (sym mine.2) ∙ (claimed mine.0 mine.1).owned) in
        let is : h.view ≡ v = one_there s.views id h.view v (ap (get_elem? s.views) (sym here) ∙ h.there) at in
        true≢false (sym h.turn ∙ (ap (λ (u : View O E). u.turn) is ∙ no_turn))

  pub ends : (seats : List (Shown O E)) (ws : List ℕ) (xs : List (Option S)) → Final (Seen (Ruled log_of origin_of by origin count) id v) ws xs → v.live ≡ 1 → v.turn ≡ false
      → AreAll count seats → All (HasClaim v) seats → Ends seats xs
  ends seats ws xs final live no_turn all has =
      let s : State (Option S) (View O E) = final.0 in
      let r = final.1.0 in
      let at = final.1.1 in
      let within = r.at_most in
      ⊎_elim
      (λ (h : AtHome log_of origin_of origin r.books.log s). record {
        state = h.state;
        there = final.4 0 (Some h.state) h.slot;
        known = All-weaker (HasClaim v) (λ t. Continues log_of origin_of by t h.state) (home_continues s r at live h) seats has;
        others = subst (All (λ e. Contains (numbers_of seats) (by e))) (sym h.log_is) (All-weaker (λ e. by e < r.books.dealt) (λ e. Contains (numbers_of seats) (by e)) (λ e low. all (by e) (omega arith)) r.books.log r.authors);
      })
      (λ (h : IsOut s). absurd (not_out s r at live no_turn (numbers_claimed v count seats all has) h))
      r.home
