-- What a step leaves as it was: what the other seats know, where the state is, and that a seat has seen the whole log.
use Rattle.std.proofs.Common.{◌≡◌, ◌⊎◌, ℕ, ◌+◌, ◌<◌, ◌≤◌, false, List, [], ◌++◌, set, sym, refl, ap, ◌∙◌, subst, inl, inr, arith, Option, Contains, append-nil, append_assoc}
use Rattle.std.proofs.lemmas.List.Elements.{All-weaker}
use mathlib.Core.Logic.{dite}
use mathlib.Core.Option.{some}
use native.Mathlib.Decide.{ℕ_discrete}
use lib.ListN.{get_elem?}
use Rattle.atomic_table.specs.Table.{State}
use Rattle.atomic_table.proofs.Lists.{set_else}
use Rattle.fol_lock.specs.declared.view.Claim.{Claim}
use Rattle.fol_lock.specs.declared.view.View.{View}
use Rattle.fol_lock.specs.Log.{given_by}
use Rattle.fol_lock.specs.View.{claims}
use Rattle.fol_lock.specs.Rule.{Claimed, Books, Fits, AtHome, IsOut, SeenWhole}
use Rattle.fol_lock.proofs.Lists.{changed_here, one_there, each_stays}
use Rattle.fol_lock.proofs.Logs.{given_by-append}

-- what a step does to the books, as far as the seat with this place among the views is concerned
pub record Leaves {E : Type 0} (by : E → ℕ) (old new : Books E) (seat : ℕ) : Type 0 where
  pub added : List E
  pub grown : new.log ≡ old.log ++ added
  pub more : old.dealt ≤ new.dealt
  -- the seat keeps its numbers, and gets no entry
  pub numbers : (n : ℕ) → n < old.dealt → old.owner n ≡ seat → (given_by by n added ≡ []) × (new.owner n ≡ seat)
  -- where the seat has the last number, no further one is dealt
  pub last : (n : ℕ) → n + 1 ≡ old.dealt → old.owner n ≡ seat → new.dealt ≡ old.dealt
  pub tickets : (t : ℕ) → old.served ≤ t → t < old.drawn → old.holder t ≡ seat → (new.served ≤ t) × (t < new.drawn) × (new.holder t ≡ seat)
  -- where the seat has the turn, it keeps it
  pub turn : old.holder old.served ≡ seat → (new.served ≡ old.served) × (new.log ≡ old.log)

module _ {O E : Type 0} (by : E → ℕ) (origin : O) where
  -- a claim stays so where the log grows by entries of others
  pub claim_stays : (log log' added : List E) (dealt dealt' : ℕ) (owner owner' : ℕ → ℕ) (seat seat' : ℕ) (c : Claim O E)
      → log' ≡ log ++ added → given_by by c.number added ≡ [] → dealt ≤ dealt' → owner' c.number ≡ seat' → Claimed by origin log dealt owner seat c → Claimed by origin log' dealt' owner' seat' c
  claim_stays log log' added dealt dealt' owner owner' seat seat' c grown not_mine more owned k =
      let low = k.given_out in record {
        origin_is = k.origin_is;
        seen = (k.seen.0 ++ added, grown ∙ (ap (λ (l : List E). l ++ added) k.seen.1 ∙ append_assoc c.seen k.seen.0 added));
        mine = ap (given_by by c.number) grown ∙ (given_by-append by c.number log added ∙ (ap (λ (l : List E). given_by by c.number log ++ l) not_mine ∙ (append-nil (given_by by c.number log) ∙ k.mine)));
        given_out = omega arith;
        owned = owned;
      }

  pub fits_stays : (old new : Books E) (seat : ℕ) (v : View O E) → Leaves by old new seat → Fits by origin old seat v → Fits by origin new seat v
  fits_stays old new seat v l f =
      let keep : (c : Claim O E) → Claimed by origin old.log old.dealt old.owner seat c → Claimed by origin new.log new.dealt new.owner seat c = λ c k.
      let n = l.numbers c.number k.given_out k.owned in
      claim_stays old.log new.log l.added old.dealt new.dealt old.owner new.owner seat seat c l.grown n.0 l.more n.1 k in record {
        live = f.live;
        draws = f.draws;
        own = λ live. keep v.own (f.own live);
        joined = All-weaker (Claimed by origin old.log old.dealt old.owner seat) (Claimed by origin new.log new.dealt new.owner seat) keep v.joined f.joined;
        deals = λ deals. let d = f.deals deals in (d.0, d.1 ∙ sym (l.last v.own.number d.1 (f.own d.0).owned));
        ticket = λ draws. let t = f.ticket draws in l.tickets v.ticket t.0 t.1 t.2;
        turn = λ turn.
            let t = f.turn turn in
            let kept = l.turn (ap old.holder (sym t.1) ∙ (f.ticket t.0).2) in
            (t.0, t.1 ∙ sym kept.0, t.2 ∙ sym kept.1);
      }

module _ {S O E : Type 0} (log_of : S → List E) (origin_of : S → O) (origin : O) where
  abbrev V : Type 0
  V = View O E

  abbrev Tabled : Type 0
  Tabled = State (Option S) V

  -- the state is where it was, if one view changes and its turn does not
  pub home_stays : (log : List E) (words : List ℕ) (s : Tabled) (me : ℕ) (v w : V) → get_elem? s.views me ≡ some v → w.turn ≡ v.turn
      → AtHome log_of origin_of origin log s ⊎ IsOut s
      → AtHome log_of origin_of origin log record { words = words; homes = s.homes; views = set s.views me w } ⊎ IsOut record { words = words; homes = s.homes; views = set s.views me w }
  home_stays log words s me v w at same (inl h) = inl record {
    state = h.state;
    slot = h.slot;
    log_is = h.log_is;
    origin_is = h.origin_is;
    no_turn = each_stays (λ _ (u : V). u.turn ≡ false) s.views me w (same ∙ h.no_turn me v at) (λ j u _ there. h.no_turn j u there);
  }
  home_stays log words s me v w at same (inr h) = dite (ℕ_discrete h.seat me)
      (λ here. inr record {
        slot = h.slot;
        seat = me;
        view = w;
        there = changed_here s.views me v w at;
        turn = same ∙ (ap (λ (u : V). u.turn) (sym (one_there s.views me h.view v (ap (get_elem? s.views) (sym here) ∙ h.there) at)) ∙ h.turn);
      })
      (λ other. inr record { slot = h.slot; seat = h.seat; view = h.view; there = set_else s.views me h.seat w other ∙ h.there; turn = h.turn })

module _ {O E : Type 0} where
  -- a seat has seen the whole log, if one view changes and its claims do not
  pub longest_stays : (log : List E) (views : List (View O E)) (me : ℕ) (v w : View O E) → get_elem? views me ≡ some v → w.live ≡ v.live → claims w ≡ claims v
      → SeenWhole log views → SeenWhole log (set views me w)
  longest_stays log views me v w at live same h = dite (ℕ_discrete h.seat me)
      (λ here. let is : h.view ≡ v = one_there views me h.view v (ap (get_elem? views) (sym here) ∙ h.there) at in record {
        seat = me;
        view = w;
        there = changed_here views me v w at;
        live = live ∙ (ap (λ (u : View O E). u.live) (sym is) ∙ h.live);
        claim = h.claim;
        claimed = subst (λ (cs : List (Claim O E)). Contains cs h.claim) (ap (λ (u : View O E). claims u) is ∙ sym same) h.claimed;
        seen = h.seen;
      })
      (λ other. record { seat = h.seat; view = h.view; there = set_else views me h.seat w other ∙ h.there; live = h.live; claim = h.claim; claimed = h.claimed; seen = h.seen })

  -- a seat has just seen the whole log
  pub sees_whole : (log : List E) (views : List (View O E)) (me : ℕ) (v w : View O E) → get_elem? views me ≡ some v → w.live ≡ 1 → w.own.seen ≡ log → SeenWhole log (set views me w)
  sees_whole log views me v w at live seen = record { seat = me; view = w; there = changed_here views me v w at; live = live; claim = w.own; claimed = (0, omega arith, refl); seen = seen }
