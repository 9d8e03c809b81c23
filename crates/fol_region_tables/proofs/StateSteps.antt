-- A region gets another state: the slots stay.
use Rattle.std.proofs.Common.{◌≡◌, ℕ, refl, sym, ◌∙◌, ap, arith, length}
use Rattle.std.specs.Prelude.{nat_eq, nat_lt}
use Rattle.std.specs.List.{list_any}
use Rattle.std.proofs.Math.Path.{fun_ext}
use Rattle.fol_lists.specs.Numbered.{list_at}
use Rattle.fol_model.specs.declared.regions.State.{State}
use Rattle.fol_model.specs.GridState.{with_state}
use Rattle.fol_model.specs.Universe.{numbers_below}
use Rattle.fol_region_tables.specs.Slots.{SlotTable, slot_of, slot_state}
use Rattle.fol_region_tables.specs.Book.{Book, IsBook, SetsState, owner_of, state_of, is_live, rows_of, ahead_of, behind_of, waits_of}
use Rattle.fol_region_tables.proofs.Chosen.{filter_like}

module _ (b : Book) (is : IsBook b) (slots : SlotTable) (same : slot_of slots ≡ slot_of b.slots) (room : slots.room ≡ b.slots.room) where
  abbrev pub moved : Book
  moved = record b { slots = slots }

  at : (r : ℕ) → slot_of slots r ≡ slot_of b.slots r
  at r = ap (λ (f : ℕ → ℕ). f r) same

  rows_same : (r : ℕ) → rows_of moved r ≡ rows_of b r
  unfolding rows_of
  rows_same r = ap (list_at b.rows) (at r)

  ahead_same : (r : ℕ) → ahead_of moved r ≡ ahead_of b r
  unfolding ahead_of
  ahead_same r = ap (list_at b.ahead) (at r)

  behind_same : (r : ℕ) → behind_of moved r ≡ behind_of b r
  unfolding behind_of
  behind_same r = ap (list_at b.behind) (at r)

  waits_same : (u t : ℕ) → waits_of moved u t ≡ waits_of b u t
  unfolding waits_of
  waits_same u t = ap (list_any (nat_eq t)) (ahead_same u)

  live_same : (r : ℕ) → is_live moved r ≡ is_live b r
  unfolding is_live
  live_same r = λ i. nat_lt (at r i) (room i)

  pub moved_book : IsBook moved
  unfolding owner_of
  moved_book = record {
    rows = λ r p. rows_same r ∙ is.rows r p;
    limits = is.limits;
    ahead = λ u. ahead_same u ∙ is.ahead u ∙ filter_like _ _ (λ k. sym (waits_same u k)) (numbers_below b.next);
    behind = λ t. behind_same t ∙ is.behind t ∙ filter_like _ _ (λ k. sym (waits_same k t)) (numbers_below b.next);
    given = λ r h. is.given r (sym (live_same r) ∙ h);
    some = λ r h. omega (arith, ap length (rows_same r), is.some r (sym (live_same r) ∙ h));
    next = is.next;
    unused = λ k h. is.unused k (λ q e. h q (at q ∙ e));
    row_numbers = is.row_numbers ∙ sym room;
    ahead_numbers = is.ahead_numbers ∙ sym room;
    behind_numbers = is.behind_numbers ∙ sym room;
    total = is.total;
    row_room = is.row_room;
    ahead_fits = is.ahead_fits;
    behind_fits = is.behind_fits;
    room = omega (arith, room, is.room);
  }

  pub moved_is : (r : ℕ) (state : State) → slot_state slots ≡ with_state (slot_state b.slots) r state → SetsState b moved r state
  unfolding owner_of state_of
  moved_is r state h = record {
    owner = fun_ext (λ s. refl);
    state = fun_ext (λ q. ap (λ (f : ℕ → State). f q) h);
    waits = fun_ext (λ u. fun_ext (λ t. waits_same u t));
    live = fun_ext live_same;
    next = refl;
    rooms = record { free = omega arith; ahead = omega arith; behind = omega arith; ahead_room = refl; behind_room = refl };
  }
