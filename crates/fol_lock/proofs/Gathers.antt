-- Joining a seat into another keeps the rule.
use Rattle.std.proofs.Common.{◌≡◌, ◌≢◌, ℕ, ◌+◌, false, List, [], ◌∷◌, ◌++◌, set, sym, refl, ap, ◌∙◌, subst, arith, le_refl, append-nil, Contains}
use Rattle.std.specs.List.{sum_by}
use Rattle.std.proofs.lemmas.Bool.{false≢true}
use Rattle.std.proofs.lemmas.List.Elements.{All-nil, All-cons, All-append, All-weaker, Contains-append_left, Contains-append_right}
use mathlib.Core.Logic.{dite}
use mathlib.Core.Option.{some}
use native.Mathlib.Decide.{ℕ_discrete}
use lib.ListN.{get_elem?}
use Rattle.atomic_table.specs.Table.{Joins}
use Rattle.atomic_table.proofs.Lists.{set_else}
use Rattle.fol_lock.specs.declared.view.Claim.{Claim}
use Rattle.fol_lock.specs.declared.view.View.{View}
use Rattle.fol_lock.specs.View.{claims, both_of, spent}
use Rattle.fol_lock.specs.Rule.{Claimed, Books, Fits, SeenWhole, Ruled}
use Rattle.fol_lock.proofs.Lists.{sum_by-changed, changed_here, one_there, each_stays}
use Rattle.fol_lock.proofs.Functions.{redirect, redirect_hit, redirect_miss}
use Rattle.fol_lock.proofs.Stays.{claim_stays, fits_stays, home_stays}

-- what the seat `other` owned, the seat id owns now
abbrev books_after : {E : Type 0} → Books E → ℕ → ℕ → Books E
books_after b other id = record { log = b.log; dealt = b.dealt; owner = redirect b.owner other id; served = b.served; drawn = b.drawn; holder = b.holder }

module _ {O E : Type 0} (by : E → ℕ) (origin : O) (b : Books E) (other id : ℕ) where
  abbrev after : Books E
  after = books_after b other id

  claim_moves : (seat seat' : ℕ) (c : Claim O E) → after.owner c.number ≡ seat' → Claimed by origin b.log b.dealt b.owner seat c → Claimed by origin b.log b.dealt after.owner seat' c
  claim_moves seat seat' c owned k = claim_stays by origin b.log b.log [] b.dealt b.dealt b.owner after.owner seat seat' c (sym (append-nil b.log)) refl (le_refl b.dealt) owned k

  both_fits : (v w : View O E) → other ≢ id → w.live ≡ 1 → Fits by origin b id v → Fits by origin b other w → Fits by origin after id (both_of v w)
  both_fits v w apart live f g =
      let mine : (c : Claim O E) → Claimed by origin b.log b.dealt b.owner id c → Claimed by origin b.log b.dealt after.owner id c = λ c k.
      claim_moves id id c (redirect_miss b.owner other id c.number (λ same. apart (sym same ∙ k.owned)) ∙ k.owned) k in
      let theirs : (c : Claim O E) → Claimed by origin b.log b.dealt b.owner other c → Claimed by origin b.log b.dealt after.owner id c = λ c k.
      claim_moves other id c (redirect_hit b.owner other id c.number k.owned) k in
      let New : Claim O E → Type 0 = Claimed by origin b.log b.dealt after.owner id in record {
        live = f.live;
        draws = f.draws;
        own = λ one. mine v.own (f.own one);
        joined = All-append New v.joined (w.own ∷ w.joined) (All-weaker (Claimed by origin b.log b.dealt b.owner id) New mine v.joined f.joined)
            (All-cons New w.own w.joined (theirs w.own (g.own live)) (All-weaker (Claimed by origin b.log b.dealt b.owner other) New theirs w.joined g.joined));
        deals = f.deals;
        ticket = f.ticket;
        turn = f.turn;
      }

  spent_fits : Fits by origin after other spent
  spent_fits = record {
    live = omega arith;
    draws = omega arith;
    own = λ e. absurd (omega arith);
    joined = All-nil (Claimed by origin b.log b.dealt after.owner other);
    deals = λ e. absurd (false≢true e);
    ticket = λ e. absurd (omega arith);
    turn = λ e. absurd (false≢true e);
  }

  third_fits : (j : ℕ) (u : View O E) → j ≢ other → Fits by origin b j u → Fits by origin after j u
  third_fits j u third = fits_stays by origin b after j u record {
    added = [];
    grown = sym (append-nil b.log);
    more = le_refl b.dealt;
    numbers = λ n _ owned. (refl, redirect_miss b.owner other id n (λ same. third (sym owned ∙ same)) ∙ owned);
    last = λ _ _ _. refl;
    tickets = λ t low high held. (low, high, held);
    turn = λ _. (refl, refl);
  }

module _ {O E : Type 0} where
  -- what either seat had seen, the one seat has seen
  longest_joined : (log : List E) (views : List (View O E)) (id other : ℕ) (v w : View O E) → get_elem? views id ≡ some v → get_elem? views other ≡ some w → other ≢ id → v.live ≡ 1
      → SeenWhole log views → SeenWhole log (set (set views id (both_of v w)) other spent)
  longest_joined log views id other v w at at_other apart live h =
      let both : View O E = both_of v w in
      let there : get_elem? (set (set views id both) other spent) id ≡ some both = set_else (set views id both) other id spent (λ same. apart (sym same)) ∙ changed_here views id v both at in
      let by_both : Contains (claims v ++ claims w) h.claim → SeenWhole log (set (set views id both) other spent) = λ claimed. record { seat = id; view = both; there = there; live = live; claim = h.claim; claimed = claimed; seen = h.seen } in
      dite (ℕ_discrete h.seat id)
      (λ here. by_both (Contains-append_left (claims v) (claims w) h.claim (subst (λ (u : View O E). Contains (claims u) h.claim) (one_there views id h.view v (ap (get_elem? views) (sym here) ∙ h.there) at) h.claimed)))
      (λ not_id. dite (ℕ_discrete h.seat other)
      (λ here. by_both (Contains-append_right (claims v) (claims w) h.claim (subst (λ (u : View O E). Contains (claims u) h.claim) (one_there views other h.view w (ap (get_elem? views) (sym here) ∙ h.there) at_other) h.claimed)))
      (λ not_other. record {
        seat = h.seat;
        view = h.view;
        there = set_else (set views id both) other h.seat spent not_other ∙ (set_else views id h.seat both not_id ∙ h.there);
        live = h.live;
        claim = h.claim;
        claimed = h.claimed;
        seen = h.seen;
      }))

module _ {S O E : Type 0} (log_of : S → List E) (origin_of : S → O) (by : E → ℕ) (origin : O) (count : ℕ) where
  abbrev V : Type 0
  V = View O E

  pub gathers : (id : ℕ) (v : V) (other : ℕ) (w : V) → v.live ≡ 1 → w.live ≡ 1 → w.draws ≡ 0 → w.turn ≡ false → Joins (Ruled log_of origin_of by origin count) id v other w (both_of v w) spent
  gathers id v other w v_live live idle no_turn s r at apart at_other =
      let b : Books E = r.books in
      let both : V = both_of v w in
      let views : List V = set s.views id both in
      let there : get_elem? s.views other ≡ some w = sym (set_else s.views id other both apart) ∙ at_other in
      let tickets : sum_by (λ (u : V). u.draws) views + v.draws ≡ sum_by (λ (u : V). u.draws) s.views + v.draws = sum_by-changed (λ u. u.draws) s.views id v both at in
      let lives : sum_by (λ (u : V). u.live) views + v.live ≡ sum_by (λ (u : V). u.live) s.views + v.live = sum_by-changed (λ u. u.live) s.views id v both at in
      let tickets' : sum_by (λ (u : V). u.draws) (set views other spent) + w.draws ≡ sum_by (λ (u : V). u.draws) views + 0 = sum_by-changed (λ u. u.draws) views other w spent at_other in
      let lives' : sum_by (λ (u : V). u.live) (set views other spent) + w.live ≡ sum_by (λ (u : V). u.live) views + 0 = sum_by-changed (λ u. u.live) views other w spent at_other in
      let t = r.tickets in
      let l = r.living in
      let after : Books E = books_after b other id in record {
        books = after;
        two_words = r.two_words;
        next_is = r.next_is;
        serving_is = r.serving_is;
        tickets = omega arith;
        living = omega arith;
        at_most = r.at_most;
        few = r.few;
        authors = r.authors;
        each = each_stays (Fits by origin after) views other spent (spent_fits by origin b other id)
            (λ j d not_other in_views. each_stays (λ (k : ℕ) (u : V). k ≢ other → Fits by origin after k u) s.views id both
            (λ _. both_fits by origin b other id v w apart live (r.each id v at) (r.each other w there))
            (λ k u _ here third. third_fits by origin b other id k u third (r.each k u here))
            j d in_views not_other);
        longest = longest_joined b.log s.views id other v w at there apart v_live r.longest;
        home = home_stays log_of origin_of origin b.log s.words record { words = s.words; homes = s.homes; views = views } other w spent at_other (sym no_turn) (home_stays log_of origin_of origin b.log s.words s id v both at refl r.home);
      }
