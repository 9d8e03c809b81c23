-- The list of new seats, one longer.
use Rattle.std.proofs.Common.{◌≡◌, ℕ, zero, suc, ◌+◌, false, List, [], ◌∷◌, ◌++◌, length, sym, refl, ap, ◌∙◌, arith, Option, Some, length-append}
use Rattle.std.specs.Prelude.{slice_get}
use mathlib.Core.Logic.{dite}
use native.Mathlib.Decide.{ℕ_discrete}
use Rattle.atomic_table.specs.Table.{Me}
use Rattle.fol_lock.specs.declared.view.View.{View}
use Rattle.fol_lock.specs.Seat.{LockId, Shown, newcomer, AreNew}
use Rattle.fol_lock.specs.View.{claim}
use Rattle.fol_lock.specs.Pass.{shown}

module _ {X : Type 0} where
  get_longer : (xs ys : List X) (k : ℕ) (x : X) → slice_get xs k ≡ Some x → slice_get (xs ++ ys) k ≡ Some x
  get_longer [] ys k x there = absurd (cc)
  get_longer (z ∷ zs) ys zero x there = there
  get_longer (z ∷ zs) ys (suc k) x there = get_longer zs ys k x there

  get_last : (xs : List X) (x : X) (k : ℕ) → k ≡ length xs → slice_get (xs ++ x ∷ []) k ≡ Some x
  get_last [] x zero last = refl
  get_last [] x (suc k) last = absurd (omega arith)
  get_last (z ∷ zs) x zero last = absurd (omega arith)
  get_last (z ∷ zs) x (suc k) last = get_last zs x k (omega arith)

module _ {O E : Type 0} (lock : LockId) (origin : O) where
  pub no_seats : AreNew {O = O} {E = E} lock origin 0 []
  no_seats = record { as_many = refl; each = λ n low. absurd (omega arith) }

  pub one_more_seat : (count : ℕ) (seats : List (Shown O E)) (seat : Shown O E) → seat ≡ newcomer lock count origin → AreNew lock origin count seats → AreNew lock origin (count + 1) (seats ++ seat ∷ [])
  one_more_seat count seats seat is new = let as_many = new.as_many in record {
    as_many = length-append seats (seat ∷ []) ∙ omega (arith, as_many);
    each = λ n low. dite (ℕ_discrete n count)
        (λ last. get_last seats seat n (last ∙ sym as_many) ∙ ap (λ (s : Shown O E). Some s) (is ∙ ap (λ (i : ℕ). newcomer lock i origin) (sym last)))
        (λ before. get_longer seats (seat ∷ []) n (newcomer lock n origin) (new.each n (omega arith)));
  }

module _ {S O E : Type 0} where
  pub shows_newcomer : (origin : O) (table lock : LockId) (m : Me (Option S) (View O E)) (n : ℕ) → table ≡ lock → m.0.own ≡ claim n (Some origin) [] [] → m.0.turn ≡ false
      → shown table m ≡ newcomer lock n origin
  shows_newcomer origin table lock m n same_lock own no_turn = λ i. record { lock = same_lock i; number = (own i).number; origin = (own i).origin; seen = (own i).seen; mine = (own i).mine; has_turn = no_turn i }
