-- The bags of a list, by their ids.
use Rattle.std.proofs.Common.{◌≡◌, ◌≢◌, ℕ, zero, suc, ◌<◌, Bool, true, false, ◌||◌, List, [], ◌∷◌, length, get_or, refl, ◌∙◌, inl, inr, arith}
use Rattle.std.specs.Prelude.{nat_eq, if◌then◌else◌}
use Rattle.std.proofs.lemmas.Bool.{cases_Bool, eqb-true}
use Rattle.fol_queues.proofs.Numbers.{nat_self}
use Rattle.fol_bags.specs.declared.slot.Slot.{Slot}
use Rattle.fol_bags.specs.Slots.{no_slot, is_open}

-- a bag that is here has an id that was given out
pub here_range : (bags : List Slot) (id : ℕ) → (get_or bags id no_slot).here ≡ true → id < length bags
here_range [] id h = cc
here_range (b ∷ bs) zero h = omega arith
here_range (b ∷ bs) (suc id) h = let l : id < length bs = here_range bs id h in omega arith

pub taken_range : (bags : List Slot) (id : ℕ) → (get_or bags id no_slot).taken ≡ true → id < length bags
taken_range [] id h = cc
taken_range (b ∷ bs) zero h = omega arith
taken_range (b ∷ bs) (suc id) h = let l : id < length bs = taken_range bs id h in omega arith

pub open_range : (bags : List Slot) (id : ℕ) → ((get_or bags id no_slot).here || (get_or bags id no_slot).taken) ≡ true → id < length bags
open_range [] id h = cc
open_range (b ∷ bs) zero h = omega arith
open_range (b ∷ bs) (suc id) h = let l : id < length bs = open_range bs id h in omega arith

pub here_open : (bags : List Slot) (id : ℕ) → (get_or bags id no_slot).here ≡ true → is_open (get_or bags id no_slot) ≡ true
here_open bags id h = rw h refl

pub taken_open : (bags : List Slot) (id : ℕ) → (get_or bags id no_slot).taken ≡ true → is_open (get_or bags id no_slot) ≡ true
taken_open bags id h = either (get_or bags id no_slot).here
  where
    either : (b : Bool) → (b || (get_or bags id no_slot).taken) ≡ true
    either true = refl
    either false = h

-- a bag that changes, and the second of two, are as open as what they change to
pub first_open : (a : ℕ) (x y w : Slot) → w ≡ (if nat_eq a a then x else y) → x.here ≡ true → is_open w ≡ true
first_open a x y w e h = let f : w ≡ x = e ∙ rw (nat_self a) refl in rw (f, h) refl

pub second_open : (a b : ℕ) (x y z w : Slot) → a ≢ b → w ≡ (if nat_eq a b then x else (if nat_eq b b then y else z)) → y.here ≡ true → is_open w ≡ true
second_open a b x y z w n e h =
    elim (cases_Bool (nat_eq a b)) [
      | inl q ↦ absurd (n (eqb-true a b q))
      | inr q ↦ let f : w ≡ y = e ∙ rw (q, nat_self b) refl in rw (f, h) refl
    ]

-- an element within the list is the same whatever stands for those past its end
pub get_or-any : {X : Type 0} (xs : List X) (i : ℕ) (d e : X) → i < length xs → get_or xs i d ≡ get_or xs i e
get_or-any [] i d e l = absurd (omega arith)
get_or-any (x ∷ xs) zero d e l = refl
get_or-any (x ∷ xs) (suc i) d e l = get_or-any xs i d e (omega arith)
