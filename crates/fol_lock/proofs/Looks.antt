-- Looking which ticket is served keeps the rule, and hands the state to the seat whose ticket it is.
use Rattle.std.proofs.Common.{◌≡◌, ◌≢◌, ℕ, ◌+◌, ◌%◌, ◌^◌, ◌<◌, true, false, List, [], get_or, set, sym, refl, ap, ◌∙◌, subst, inr, ⊎_elim, arith, append-nil, Option, Some}
use Rattle.std.specs.List.{sum_by}
use Rattle.std.proofs.lemmas.Bool.{true≢false}
use Rattle.std.proofs.lemmas.List.{set-get_or}
use mathlib.Core.Logic.{dite}
use mathlib.Core.Option.{some, none}
use native.Mathlib.Decide.{ℕ_discrete}
use lib.ListN.{get_elem?}
use Rattle.atomic_table.specs.Table.{State, Me, Step, Act, keeps, takes, Valid, stepped, carried_after, Allows}
use Rattle.atomic_table.proofs.Lists.{set_again, one_turn}
use Rattle.fol_lock.specs.declared.view.View.{View}
use Rattle.fol_lock.specs.Log.{given_by}
use Rattle.fol_lock.specs.View.{with_turn}
use Rattle.fol_lock.specs.Rule.{Books, Fits, AtHome, IsOut, Ruled}
use Rattle.fol_lock.specs.Steps.{looked}
use Rattle.fol_lock.proofs.Lists.{sum_by-changed, sum_by-le_sum_by, changed_here, one_there, each_stays}
use Rattle.fol_lock.proofs.Stays.{sees_whole}

module _ {O E : Type 0} (by : E → ℕ) (origin : O) (b : Books E) where
  -- the seat with the turn is the one whose ticket is served
  pub one_with_turn : (j id : ℕ) (u v : View O E) → Fits by origin b j u → Fits by origin b id v → u.turn ≡ true → v.draws ≡ 1 → v.ticket ≡ b.served → j ≡ id
  one_with_turn j id u v theirs mine turn draws served =
      let t = theirs.turn turn in
      sym (theirs.ticket t.0).2 ∙ (ap b.holder (t.1 ∙ sym served) ∙ (mine.ticket draws).2)

  winner_fits : (id : ℕ) (v : View O E) (log : List E) → log ≡ b.log → v.live ≡ 1 → v.draws ≡ 1 → v.ticket ≡ b.served → Fits by origin b id v → Fits by origin b id (with_turn v log)
  winner_fits id v log log_is live draws served f =
      let own = f.own live in record {
        live = f.live;
        draws = f.draws;
        own = λ _. record { origin_is = own.origin_is; seen = ([], sym log_is ∙ sym (append-nil log)); mine = own.mine; given_out = own.given_out; owned = own.owned };
        joined = f.joined;
        deals = f.deals;
        ticket = f.ticket;
        turn = λ _. (draws, served, log_is);
      }

module _ {S O E : Type 0} (log_of : S → List E) (origin_of : S → O) (by : E → ℕ) (origin : O) (count : ℕ) where
  abbrev V : Type 0
  V = View O E

  abbrev Tabled : Type 0
  Tabled = State (Option S) V

  abbrev Rule : Tabled → Type 0
  Rule = Ruled log_of origin_of by origin count

  -- what the step has to show: a new view, and an act that keeps the rule and tells what a look tells
  abbrev Goal : Step (Option S) → Tabled → ℕ → Me (Option S) V → Type 0
  Goal st s id m =
      (w : V) × (a : Act (Option S)) × Valid s.homes m.1 a × Rule (stepped s 1 (get_or s.words 1 0) id m.1 w a)
      × looked log_of origin_of by st m (get_or s.words 1 0) (w, carried_after m.1 a)

  -- fewer tickets are out than a word can tell apart
  tickets_fit : (s : Tabled) (r : Rule s) → r.books.drawn < r.books.served + 2 ^ 64
  tickets_fit s r =
      let tickets = r.tickets in
      let each_lives = sum_by-le_sum_by (λ (v : V). v.draws) (λ v. v.live) s.views (λ j v there. (r.each j v there).draws) in
      let living = r.living in
      let at_most = r.at_most in
      let few = r.few in
      omega arith

  -- a look writes no word
  same_words : (s : Tabled) (homes : List (mathlib.Core.Option.Option (Option S))) (views : List V) → Rule record { words = s.words; homes = homes; views = views }
      → Rule record { words = set s.words 1 (get_or s.words 1 0); homes = homes; views = views }
  same_words s homes views r = subst (λ (ws : List ℕ). Rule record { words = ws; homes = homes; views = views }) (sym (set-get_or s.words 1 0)) r

  -- the ticket is served, and the state at home
  wins : (st : Step (Option S)) (s : Tabled) (r : Rule s) (id : ℕ) (m : Me (Option S) V) → m.0.live ≡ 1 → m.0.draws ≡ 1 → get_elem? s.views id ≡ some m.0
      → get_or s.words 1 0 ≡ m.0.ticket % 2 ^ 64 → m.0.ticket ≡ r.books.served → AtHome log_of origin_of origin r.books.log s → Goal st s id m
  wins st s r id m live draws at found served h =
      let v : V = m.0 in
      let w : V = with_turn v (log_of h.state) in
      let own = (r.each id v at).own live in
      let as_many : sum_by (λ (u : V). u.draws) (set s.views id w) + v.draws ≡ sum_by (λ (u : V). u.draws) s.views + v.draws = sum_by-changed (λ u. u.draws) s.views id v w at in
      let as_live : sum_by (λ (u : V). u.live) (set s.views id w) + v.live ≡ sum_by (λ (u : V). u.live) s.views + v.live = sum_by-changed (λ u. u.live) s.views id v w at in
      let tickets = r.tickets in
      let living = r.living in (
        w,
        takes 0 (Some h.state),
        h.slot,
        same_words s (set s.homes 0 none) (set s.views id w) record {
          books = r.books;
          two_words = r.two_words;
          next_is = r.next_is;
          serving_is = r.serving_is;
          tickets = omega arith;
          living = omega arith;
          at_most = r.at_most;
          few = r.few;
          authors = r.authors;
          each = each_stays (Fits by origin r.books) s.views id w (winner_fits by origin r.books id v (log_of h.state) h.log_is live draws served (r.each id v at)) (λ j u _ there. r.each j u there);
          longest = sees_whole r.books.log s.views id v w at live h.log_is;
          home = inr record { slot = changed_here s.homes 0 (some (Some h.state)) none h.slot; seat = id; view = w; there = changed_here s.views id v w at; turn = refl };
        },
        (
          (λ other. absurd (other found)),
          λ _. record {
            state = h.state;
            after_is = refl;
            fresh = record {
              origin_is = own.origin_is ∙ ap (λ (o : O). Some o) (sym h.origin_is);
              seen = (own.seen.0, h.log_is ∙ own.seen.1);
              mine = ap (given_by by v.own.number) h.log_is ∙ own.mine;
            };
          },
        ),
      )

  -- another ticket is served
  waits : (st : Step (Option S)) (s : Tabled) (r : Rule s) (id : ℕ) (m : Me (Option S) V) → get_elem? s.views id ≡ some m.0 → get_or s.words 1 0 ≢ m.0.ticket % 2 ^ 64 → Goal st s id m
  waits st s r id m at other = (
    m.0,
    keeps,
    tt,
    same_words s s.homes (set s.views id m.0) (subst (λ (vs : List V). Rule record { words = s.words; homes = s.homes; views = vs }) (sym (set_again s.views id m.0 at)) r),
    ((λ _. refl), λ found. absurd (other found)),
  )

  -- a seat that waits does not have the turn
  not_out : (s : Tabled) (r : Rule s) (id : ℕ) (v : V) → get_elem? s.views id ≡ some v → v.draws ≡ 1 → v.turn ≡ false → v.ticket ≡ r.books.served → IsOut s → ⊥
  not_out s r id v at draws no_turn served h =
      let here : h.seat ≡ id = one_with_turn by origin r.books h.seat id h.view v (r.each h.seat h.view h.there) (r.each id v at) h.turn draws served in
      let is : h.view ≡ v = one_there s.views id h.view v (ap (get_elem? s.views) (sym here) ∙ h.there) at in
      true≢false (sym h.turn ∙ (ap (λ (u : V). u.turn) is ∙ no_turn))

  pub looks : (st : Step (Option S)) (slots id : ℕ) (m : Me (Option S) V) → m.0.live ≡ 1 → m.0.draws ≡ 1 → m.0.turn ≡ false → Allows Rule slots id m 1 (λ n. n) (looked log_of origin_of by st m)
  looks st slots id m live draws no_turn s r _ at _ = dite (ℕ_discrete (get_or s.words 1 0) (m.0.ticket % 2 ^ 64))
      (λ found.
      let ticket = (r.each id m.0 at).ticket draws in
      let low = ticket.0 in
      let high = ticket.1 in
      let fit = tickets_fit s r in
      let served : r.books.served ≡ m.0.ticket = one_turn r.books.served m.0.ticket (2 ^ 64) low (omega arith) (sym r.serving_is ∙ found) in
      ⊎_elim (λ (h : AtHome log_of origin_of origin r.books.log s). wins st s r id m live draws at found (sym served) h)
      (λ (h : IsOut s). absurd (not_out s r id m.0 at draws no_turn (sym served) h))
      r.home)
      (λ other. waits st s r id m at other)
