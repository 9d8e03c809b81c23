-- The rule holds of a new lock.
use Rattle.std.proofs.Common.{◌≡◌, ℕ, zero, suc, ◌<◌, false, List, [], ◌∷◌, refl, sym, inl, arith, Some}
use Rattle.std.proofs.lemmas.Bool.{false≢true}
use Rattle.std.proofs.lemmas.List.Elements.{All-nil}
use mathlib.Core.Option.{some, some-ne-none}
use lib.ListN.{get_elem?}
use Rattle.atomic_table.specs.Table.{opening}
use Rattle.fol_lock.specs.declared.view.View.{View}
use Rattle.fol_lock.specs.View.{first_view}
use Rattle.fol_lock.specs.Rule.{Claimed, Books, Fits, Ruled}
use Rattle.fol_lock.proofs.Lists.{each_stays}

alone : {X : Type 0} (x y : X) (j : ℕ) → get_elem? (x ∷ []) j ≡ some y → j ≡ 0
alone x y zero there = refl
alone x y (suc j) there = absurd (some-ne-none y (sym there))

module _ {S O E : Type 0} (log_of : S → List E) (origin_of : S → O) (by : E → ℕ) (origin : O) (count : ℕ) where
  abbrev first_books : Books E
  first_books = record { log = []; dealt = 1; owner = λ _. 0; served = 0; drawn = 0; holder = λ _. 0 }

  first_fits : Fits by origin first_books 0 (first_view origin)
  first_fits = record {
    live = omega arith;
    draws = omega arith;
    own = λ _. record { origin_is = refl; seen = ([], refl); mine = refl; given_out = omega arith; owned = refl };
    joined = All-nil (Claimed by origin [] 1 (λ _. 0) 0);
    deals = λ _. (refl, refl);
    ticket = λ e. absurd (omega arith);
    turn = λ e. absurd (false≢true e);
  }

  pub starts : (x : S) → log_of x ≡ [] → origin_of x ≡ origin → 0 < count → count < 65536 → Ruled log_of origin_of by origin count (opening (0 ∷ 0 ∷ []) (Some x ∷ []) (first_view origin))
  starts x empty origin_is some_seat few = record {
    books = first_books;
    two_words = refl;
    next_is = refl;
    serving_is = refl;
    tickets = refl;
    living = omega arith;
    at_most = omega arith;
    few = few;
    authors = All-nil (λ e. by e < 1);
    each = each_stays (Fits by origin first_books) (first_view origin ∷ []) 0 (first_view origin) first_fits (λ j v other there. absurd (other (alone (first_view origin) v j there)));
    longest = record { seat = 0; view = first_view origin; there = refl; live = refl; claim = (first_view origin).own; claimed = (0, omega arith, refl); seen = refl };
    home = inl record {
      state = x;
      slot = refl;
      log_is = empty;
      origin_is = origin_is;
      no_turn = each_stays (λ _ (v : View O E). v.turn ≡ false) (first_view origin ∷ []) 0 (first_view origin) refl (λ j v other there. absurd (other (alone (first_view origin) v j there)));
    };
  }
