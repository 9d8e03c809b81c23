-- Passing the turn on keeps the rule, where the log has grown by entries of the seat.
use Rattle.std.proofs.Common.{◌≡◌, ◌≢◌, ℕ, ◌+◌, ◌%◌, ◌^◌, ◌<◌, true, false, List, [], ◌∷◌, ◌++◌, get_or, set, sym, refl, ap, ◌∙◌, subst, inl, ⊎_elim, arith, le_refl, length-set, get_or-set_other, get_or-set_same, append-nil, Option, Some, All}
use Rattle.std.specs.List.{sum_by}
use Rattle.std.specs.Option.{unwrap_or}
use Rattle.std.proofs.lemmas.Bool.{false≢true, cases_Bool}
use Rattle.std.proofs.lemmas.List.Elements.{All-nil, All-same, All-append, All-weaker}
use Rattle.std.proofs.Math.Nat.{mod-add-mod}
use mathlib.Core.Option.{some}
use lib.ListN.{get_elem?}
use Rattle.atomic_table.specs.Table.{State, Me, Step, gives, Allows}
use Rattle.atomic_table.proofs.Lists.{set_here}
use Rattle.fol_lock.specs.declared.view.View.{View}
use Rattle.fol_lock.specs.Log.{Extends}
use Rattle.fol_lock.specs.View.{after_turn}
use Rattle.fol_lock.specs.Rule.{Claimed, Books, Fits, Ruled}
use Rattle.fol_lock.specs.Steps.{passed}
use Rattle.fol_lock.proofs.Lists.{sum_by-changed, each_stays}
use Rattle.fol_lock.proofs.Logs.{given_by-other}
use Rattle.fol_lock.proofs.Stays.{fits_stays, sees_whole}
use Rattle.fol_lock.proofs.Looks.{one_with_turn}

abbrev books_after : {E : Type 0} → Books E → List E → Books E
books_after b log = record { log = log; dealt = b.dealt; owner = b.owner; served = b.served + 1; drawn = b.drawn; holder = b.holder }

module _ {O E : Type 0} (by : E → ℕ) (origin : O) (b : Books E) (id : ℕ) (v : View O E) (log : List E) where
  giver_fits : v.live ≡ 1 → v.joined ≡ [] → Fits by origin b id v → Fits by origin (books_after b log) id (after_turn by v log)
  giver_fits live alone f =
      let own = f.own live in record {
        live = f.live;
        draws = omega arith;
        own = λ _. record { origin_is = own.origin_is; seen = ([], sym (append-nil log)); mine = refl; given_out = own.given_out; owned = own.owned };
        joined = subst (All (Claimed by origin log b.dealt b.owner id)) (sym alone) (All-nil (Claimed by origin log b.dealt b.owner id));
        deals = f.deals;
        ticket = λ e. absurd (omega arith);
        turn = λ e. absurd (false≢true e);
      }

  other_fits : v.live ≡ 1 → v.turn ≡ true → Fits by origin b id v → (grows : Extends by v.own.number b.log log) → (j : ℕ) (u : View O E) → j ≢ id → Fits by origin b j u → Fits by origin (books_after b log) j u
  other_fits live turn f grows j u other =
      let t = f.turn turn in
      let held : b.holder b.served ≡ id = ap b.holder (sym t.1) ∙ (f.ticket t.0).2 in
      fits_stays by origin b (books_after b log) j u record {
        added = grows.added;
        grown = grows.goes_on;
        more = le_refl b.dealt;
        numbers = λ n _ owned. (given_by-other by v.own.number n grows.added (λ same. other (sym owned ∙ (ap b.owner same ∙ (f.own live).owned))) grows.own, owned);
        last = λ _ _ _. refl;
        tickets = λ n low high theirs. let not_served : n ≢ b.served = (λ same. other (sym theirs ∙ (ap b.holder same ∙ held))) in (omega arith, high, theirs);
        turn = λ theirs. absurd (other (sym theirs ∙ held));
      }

module _ {S O E : Type 0} (log_of : S → List E) (origin_of : S → O) (by : E → ℕ) (origin : O) (count : ℕ) where
  abbrev V : Type 0
  V = View O E

  abbrev Rule : State (Option S) V → Type 0
  Rule = Ruled log_of origin_of by origin count

  -- nobody has the turn after it was passed on
  no_turn : (s : State (Option S) V) (r : Rule s) (id : ℕ) (v : V) (log : List E) → get_elem? s.views id ≡ some v → v.turn ≡ true
      → (j : ℕ) (u : V) → get_elem? (set s.views id (after_turn by v log)) j ≡ some u → u.turn ≡ false
  no_turn s r id v log at turn =
      let f = r.each id v at in
      let t = f.turn turn in
      each_stays (λ _ (u : V). u.turn ≡ false) s.views id (after_turn by v log) refl
      (λ j u other there. ⊎_elim (λ (theirs : u.turn ≡ true). absurd (other (one_with_turn by origin r.books j id u v (r.each j u there) f theirs t.0 t.1))) (λ (none : u.turn ≡ false). none) (cases_Bool u.turn))

  pub passes : (st : Step (Option S)) (slots id : ℕ) (m : Me (Option S) V) (v : V) (x : S) → slots ≡ 1 → m ≡ (v, (0, Some x) ∷ []) → v.live ≡ 1 → v.turn ≡ true → v.joined ≡ []
      → Extends by v.own.number v.own.seen (log_of x) → v.own.origin ≡ Some (origin_of x) → Allows Rule slots id m 1 (λ n. (n + 1) % 2 ^ 64) (passed log_of by st m)
  passes st slots id m v x one_slot m_is live turn alone extends origin_is =
      subst (λ (k : Me (Option S) V). Allows Rule slots id k 1 (λ n. (n + 1) % 2 ^ 64) (passed log_of by st k)) (sym m_is) (λ s r slots_are at _.
      let b : Books E = r.books in
      let log : List E = log_of x in
      let w : V = after_turn by v log in
      let f = r.each id v at in
      let own = f.own live in
      let t = f.turn turn in
      let draws = t.0 in
      let low_number = own.given_out in
      let grows : Extends by v.own.number b.log log = subst (λ (seen : List E). Extends by v.own.number seen log) t.2 extends in
      let fewer : sum_by (λ (u : V). u.draws) (set s.views id w) + v.draws ≡ sum_by (λ (u : V). u.draws) s.views + 0 = sum_by-changed (λ u. u.draws) s.views id v w at in
      let as_live : sum_by (λ (u : V). u.live) (set s.views id w) + v.live ≡ sum_by (λ (u : V). u.live) s.views + v.live = sum_by-changed (λ u. u.live) s.views id v w at in
      let tickets = r.tickets in
      let living = r.living in
      let words = r.two_words in
      let same_origin : Some (origin_of x) ≡ Some origin = sym origin_is ∙ own.origin_is in (
        w,
        gives,
        tt,
        record {
          books = books_after b log;
          two_words = length-set s.words 1 _ ∙ words;
          next_is = get_or-set_other s.words 1 0 _ 0 (λ e. omega arith) ∙ r.next_is;
          serving_is = get_or-set_same s.words 1 _ 0 (omega arith) ∙ (ap (λ (n : ℕ). (n + 1) % 2 ^ 64) r.serving_is ∙ mod-add-mod b.served (2 ^ 64) 1);
          tickets = omega arith;
          living = omega arith;
          at_most = r.at_most;
          few = r.few;
          authors = All-same (λ e. by e < b.dealt) log (b.log ++ grows.added) grows.goes_on
              (All-append (λ e. by e < b.dealt) b.log grows.added r.authors (All-weaker (λ e. by e ≡ v.own.number) (λ e. by e < b.dealt) (λ e is. omega arith) grows.added grows.own));
          each = each_stays (Fits by origin (books_after b log)) s.views id w (giver_fits by origin b id v log live alone f) (λ j u other there. other_fits by origin b id v log live turn f grows j u other (r.each j u there));
          longest = sees_whole log s.views id v w at live refl;
          home = inl record {
            state = x;
            slot = set_here s.homes 0 (some (Some x)) (omega arith);
            log_is = refl;
            origin_is = ap (λ (o : Option O). unwrap_or o origin) same_origin;
            no_turn = no_turn s r id v log at turn;
          };
        },
        λ y e. let one : Some x ≡ Some y = ap (λ (l : List (ℕ × Option S)). (get_or l 0 (0, Some x)).1) e in
            ap (λ (z : S). (after_turn by v (log_of z), [])) (ap (λ (o : Option S). unwrap_or o x) one),
      ))
