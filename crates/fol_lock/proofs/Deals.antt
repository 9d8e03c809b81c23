-- Dealing a seat keeps the rule.
use Rattle.std.proofs.Common.{◌≡◌, ◌≢◌, ◌⊎◌, ℕ, ◌+◌, ◌<◌, true, false, List, [], ◌∷◌, ◌++◌, length, set, sym, refl, ap, ◌∙◌, subst, inl, inr, ⊎_elim, arith, length-set, append-nil, Option, All, Contains}
use Rattle.std.specs.List.{sum_by}
use Rattle.std.proofs.lemmas.Bool.{false≢true}
use Rattle.std.proofs.lemmas.List.Elements.{All-nil, All-weaker}
use Rattle.std.proofs.lemmas.List.Sums.{sum_by_push}
use mathlib.Core.Logic.{dite}
use mathlib.Core.Option.{some}
use native.Mathlib.Decide.{ℕ_discrete}
use lib.ListN.{get_elem?}
use Rattle.atomic_table.specs.Table.{State, Splits}
use Rattle.atomic_table.proofs.Lists.{set_else, at_longer, at_last}
use Rattle.fol_lock.specs.declared.view.Claim.{Claim}
use Rattle.fol_lock.specs.declared.view.View.{View}
use Rattle.fol_lock.specs.View.{dealer_of, dealt_of}
use Rattle.fol_lock.specs.Rule.{Claimed, Books, Fits, AtHome, IsOut, SeenWhole, Ruled}
use Rattle.fol_lock.proofs.Lists.{sum_by-changed, there_or_last, one_there, each_stays}
use Rattle.fol_lock.proofs.Functions.{put, put_here, put_else}
use Rattle.fol_lock.proofs.Logs.{given_by-undealt}
use Rattle.fol_lock.proofs.Stays.{fits_stays, home_stays}

-- the dealer's number goes to the new seat, and the dealer has the next one
abbrev books_after : {E : Type 0} → Books E → ℕ → ℕ → ℕ → Books E
books_after b number id new = record { log = b.log; dealt = b.dealt + 1; owner = put (put b.owner number new) (number + 1) id; served = b.served; drawn = b.drawn; holder = b.holder }

module _ {O E : Type 0} (by : E → ℕ) (origin : O) (b : Books E) (id new : ℕ) (v : View O E) where
  abbrev after : Books E
  after = books_after b v.own.number id new

  dealer_fits : v.live ≡ 1 → v.deals ≡ true → v.joined ≡ [] → All (λ e. by e < b.dealt) b.log → Fits by origin b id v → Fits by origin after id (dealer_of v)
  dealer_fits live deals alone authors f =
      let own = f.own live in
      let last = (f.deals deals).1 in record {
        live = f.live;
        draws = f.draws;
        own = λ _. record {
          origin_is = own.origin_is;
          seen = own.seen;
          mine = given_by-undealt by (v.own.number + 1) b.dealt b.log (omega arith) authors;
          given_out = omega arith;
          owned = put_here (put b.owner v.own.number new) (v.own.number + 1) id (v.own.number + 1) refl;
        };
        joined = subst (All (Claimed by origin b.log (b.dealt + 1) after.owner id)) (sym alone) (All-nil (Claimed by origin b.log (b.dealt + 1) after.owner id));
        deals = λ _. (live, omega arith);
        ticket = f.ticket;
        turn = f.turn;
      }

  dealt_fits : v.live ≡ 1 → Fits by origin b id v → Fits by origin after new (dealt_of v)
  dealt_fits live f =
      let own = f.own live in
      let low = own.given_out in record {
        live = f.live;
        draws = omega arith;
        own = λ _. record {
          origin_is = own.origin_is;
          seen = own.seen;
          mine = own.mine;
          given_out = omega arith;
          owned = put_else (put b.owner v.own.number new) (v.own.number + 1) id v.own.number (λ e. omega arith) ∙ put_here b.owner v.own.number new v.own.number refl;
        };
        joined = All-nil (Claimed by origin b.log (b.dealt + 1) after.owner new);
        deals = λ e. absurd (false≢true e);
        ticket = λ e. absurd (omega arith);
        turn = λ e. absurd (false≢true e);
      }

  other_fits : v.live ≡ 1 → v.deals ≡ true → Fits by origin b id v → (j : ℕ) (u : View O E) → j ≢ id → Fits by origin b j u → Fits by origin after j u
  other_fits live deals f j u other =
      let own = f.own live in
      let last = (f.deals deals).1 in
      fits_stays by origin b after j u record {
        added = [];
        grown = sym (append-nil b.log);
        more = omega arith;
        numbers = λ n low owned. (
          refl,
          put_else (put b.owner v.own.number new) (v.own.number + 1) id n (λ e. omega arith)
              ∙ (put_else b.owner v.own.number new n (λ same. other (sym owned ∙ (ap b.owner same ∙ own.owned))) ∙ owned),
        );
        last = λ n highest owned. absurd (other (sym owned ∙ (let same : n ≡ v.own.number = omega arith in ap b.owner same ∙ own.owned)));
        tickets = λ t low high held. (low, high, held);
        turn = λ _. (refl, refl);
      }

module _ {S O E : Type 0} (log_of : S → List E) (origin_of : S → O) (origin : O) where
  -- the state is where it was, if one more seat comes, with no turn
  home_longer : (log : List E) (s : State (Option S) (View O E)) (u : View O E) → u.turn ≡ false → AtHome log_of origin_of origin log s ⊎ IsOut s
      → AtHome log_of origin_of origin log record { words = s.words; homes = s.homes; views = s.views ++ u ∷ [] } ⊎ IsOut record { words = s.words; homes = s.homes; views = s.views ++ u ∷ [] }
  home_longer log s u still (inl h) = inl record {
    state = h.state;
    slot = h.slot;
    log_is = h.log_is;
    origin_is = h.origin_is;
    no_turn = λ j d there. ⊎_elim (λ (before : get_elem? s.views j ≡ some d). h.no_turn j d before) (λ (last : (j ≡ length s.views) × (u ≡ d)). ap (λ (e : View O E). e.turn) (sym last.1) ∙ still) (there_or_last s.views u d j there);
  }
  home_longer log s u still (inr h) = inr record { slot = h.slot; seat = h.seat; view = h.view; there = at_longer s.views (u ∷ []) h.seat h.view h.there; turn = h.turn }

module _ {O E : Type 0} where
  -- what the dealer had seen, the new seat has seen
  longest_dealt : (log : List E) (views : List (View O E)) (id : ℕ) (v : View O E) → get_elem? views id ≡ some v → v.joined ≡ [] → SeenWhole log views → SeenWhole log (set views id (dealer_of v) ++ dealt_of v ∷ [])
  longest_dealt log views id v at alone h = dite (ℕ_discrete h.seat id)
      (λ here. let is : h.view ≡ v = one_there views id h.view v (ap (get_elem? views) (sym here) ∙ h.there) at in record {
        seat = length (set views id (dealer_of v));
        view = dealt_of v;
        there = at_last (set views id (dealer_of v)) (dealt_of v) (length (set views id (dealer_of v))) refl;
        live = ap (λ (u : View O E). u.live) (sym is) ∙ h.live;
        claim = h.claim;
        claimed = subst (λ (cs : List (Claim O E)). Contains (v.own ∷ cs) h.claim) alone (subst (λ (u : View O E). Contains (u.own ∷ u.joined) h.claim) is h.claimed);
        seen = h.seen;
      })
      (λ other. record {
        seat = h.seat;
        view = h.view;
        there = at_longer (set views id (dealer_of v)) (dealt_of v ∷ []) h.seat h.view (set_else views id h.seat (dealer_of v) other ∙ h.there);
        live = h.live;
        claim = h.claim;
        claimed = h.claimed;
        seen = h.seen;
      })

module _ {S O E : Type 0} (log_of : S → List E) (origin_of : S → O) (by : E → ℕ) (origin : O) (count : ℕ) where
  abbrev V : Type 0
  V = View O E

  pub deals : (id : ℕ) (v : V) → v.live ≡ 1 → v.deals ≡ true → v.joined ≡ [] → v.own.number + 1 < count → Splits (Ruled log_of origin_of by origin count) id v (dealer_of v) (dealt_of v)
  deals id v live dealer alone room s r at =
      let b : Books E = r.books in
      let w : V = dealer_of v in
      let u : V = dealt_of v in
      let new : ℕ = length s.views in
      let after : Books E = books_after b v.own.number id new in
      let f = r.each id v at in
      let last = (f.deals dealer).1 in
      let tickets : sum_by (λ (u : V). u.draws) (set s.views id w) + v.draws ≡ sum_by (λ (u : V). u.draws) s.views + v.draws = sum_by-changed (λ u. u.draws) s.views id v w at in
      let lives : sum_by (λ (u : V). u.live) (set s.views id w) + v.live ≡ sum_by (λ (u : V). u.live) s.views + v.live = sum_by-changed (λ u. u.live) s.views id v w at in
      let tickets' : sum_by (λ (u : V). u.draws) (set s.views id w ++ u ∷ []) ≡ sum_by (λ (u : V). u.draws) (set s.views id w) + 0 = sum_by_push (λ u. u.draws) (set s.views id w) u in
      let lives' : sum_by (λ (u : V). u.live) (set s.views id w ++ u ∷ []) ≡ sum_by (λ (u : V). u.live) (set s.views id w) + v.live = sum_by_push (λ u. u.live) (set s.views id w) u in
      let t = r.tickets in
      let l = r.living in record {
        books = after;
        two_words = r.two_words;
        next_is = r.next_is;
        serving_is = r.serving_is;
        tickets = omega arith;
        living = omega arith;
        at_most = omega arith;
        few = r.few;
        authors = All-weaker (λ e. by e < b.dealt) (λ e. by e < b.dealt + 1) (λ e low. omega arith) b.log r.authors;
        each = λ j d there. ⊎_elim
            (each_stays (Fits by origin after) s.views id w (dealer_fits by origin b id new v live dealer alone r.authors f) (λ k e other here. other_fits by origin b id new v live dealer f k e other (r.each k e here)) j d)
            (λ (h : (j ≡ length (set s.views id w)) × (u ≡ d)).
            let here : j ≡ new = h.0 ∙ length-set s.views id w in
            subst (λ (x : ℕ × V). Fits by origin after x.0 x.1) (λ i. (sym here i, h.1 i)) (dealt_fits by origin b id new v live f))
            (there_or_last (set s.views id w) u d j there);
        longest = longest_dealt b.log s.views id v at alone r.longest;
        home = home_longer log_of origin_of origin b.log record { words = s.words; homes = s.homes; views = set s.views id w } u refl (home_stays log_of origin_of origin b.log s.words s id v w at refl r.home);
      }
