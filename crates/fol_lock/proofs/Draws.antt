-- Drawing a ticket keeps the rule.
use Rattle.std.proofs.Common.{◌≡◌, ℕ, ◌+◌, ◌%◌, ◌^◌, ◌≤◌, false, List, [], set, sym, refl, ap, ◌∙◌, arith, le_refl, length-set, get_or-set_other, get_or-set_same, append-nil, Option}
use Rattle.std.specs.List.{sum_by}
use Rattle.std.proofs.lemmas.Bool.{false≢true}
use Rattle.std.proofs.Math.Nat.{mod-add-mod}
use Rattle.atomic_table.specs.Table.{Me, Step, keeps, Allows}
use Rattle.fol_lock.specs.declared.view.View.{View}
use Rattle.fol_lock.specs.View.{with_ticket}
use Rattle.fol_lock.specs.Rule.{Books, Fits, Ruled}
use Rattle.fol_lock.specs.Steps.{drew}
use Rattle.fol_lock.proofs.Lists.{sum_by-changed, each_stays}
use Rattle.fol_lock.proofs.Functions.{put, put_here, put_else}
use Rattle.fol_lock.proofs.Stays.{fits_stays, home_stays, longest_stays}

abbrev books_after : {E : Type 0} → Books E → ℕ → Books E
books_after b id = record { log = b.log; dealt = b.dealt; owner = b.owner; served = b.served; drawn = b.drawn + 1; holder = put b.holder b.drawn id }

module _ {O E : Type 0} (by : E → ℕ) (origin : O) where
  drawer_fits : (b : Books E) (id : ℕ) (v : View O E) → b.served ≤ b.drawn → v.live ≡ 1 → Fits by origin b id v → Fits by origin (books_after b id) id (with_ticket v b.drawn)
  drawer_fits b id v order live f = record {
    live = f.live;
    draws = omega arith;
    own = f.own;
    joined = f.joined;
    deals = f.deals;
    ticket = λ _. (omega arith, omega arith, put_here b.holder b.drawn id b.drawn refl);
    turn = λ e. absurd (false≢true e);
  }

  other_fits : (b : Books E) (id j : ℕ) (u : View O E) → Fits by origin b j u → Fits by origin (books_after b id) j u
  other_fits b id j u = fits_stays by origin b (books_after b id) j u record {
    added = [];
    grown = sym (append-nil b.log);
    more = le_refl b.dealt;
    numbers = λ n _ owned. (refl, owned);
    last = λ _ _ _. refl;
    tickets = λ t low high held. (low, omega arith, put_else b.holder b.drawn id t (λ e. omega arith) ∙ held);
    turn = λ _. (refl, refl);
  }

module _ {S O E : Type 0} (log_of : S → List E) (origin_of : S → O) (by : E → ℕ) (origin : O) (count : ℕ) where
  abbrev V : Type 0
  V = View O E

  pub draws : (st : Step (Option S)) (slots id : ℕ) (m : Me (Option S) V) → m.0.live ≡ 1 → m.0.draws ≡ 0 → m.0.turn ≡ false
      → Allows (Ruled log_of origin_of by origin count) slots id m 0 (λ n. (n + 1) % 2 ^ 64) (drew st m)
  draws st slots id m live no_ticket no_turn s r _ at _ =
      let v : V = m.0 in
      let b : Books E = r.books in
      let w : V = with_ticket v b.drawn in
      let words = r.two_words in
      let tickets = r.tickets in
      let living = r.living in
      let more : sum_by (λ (u : V). u.draws) (set s.views id w) + v.draws ≡ sum_by (λ (u : V). u.draws) s.views + 1 = sum_by-changed (λ u. u.draws) s.views id v w at in
      let as_many : sum_by (λ (u : V). u.live) (set s.views id w) + v.live ≡ sum_by (λ (u : V). u.live) s.views + v.live = sum_by-changed (λ u. u.live) s.views id v w at in
      let order : b.served ≤ b.drawn = omega arith in (
        w,
        keeps,
        tt,
        record {
          books = books_after b id;
          two_words = length-set s.words 0 _ ∙ words;
          next_is = get_or-set_same s.words 0 _ 0 (omega arith) ∙ (ap (λ (n : ℕ). (n + 1) % 2 ^ 64) r.next_is ∙ mod-add-mod b.drawn (2 ^ 64) 1);
          serving_is = get_or-set_other s.words 0 1 _ 0 (λ e. omega arith) ∙ r.serving_is;
          tickets = omega arith;
          living = omega arith;
          at_most = r.at_most;
          few = r.few;
          authors = r.authors;
          each = each_stays (Fits by origin (books_after b id)) s.views id w (drawer_fits by origin b id v order live (r.each id v at)) (λ j u _ there. other_fits by origin b id j u (r.each j u there));
          longest = longest_stays b.log s.views id v w at refl refl r.longest;
          home = home_stays log_of origin_of origin b.log _ s id v w at (sym no_turn) r.home;
        },
        (b.drawn, sym r.next_is, refl),
      )
