-- What a history with one event more says of that event, and what makes it the beginning of a history of the script.
use Rattle.std.proofs.Common.{◌≡◌, ℕ, ◌+◌, ◌≤◌, refl, sym, ◌∙◌, ap, arith, true, false, ◌&&◌, Some, List, [], ◌∷◌, ◌++◌, length, take, drop, append_assoc, append-nil, IsTrue}
use Rattle.std.specs.Prelude.{suc, zero, nat_eq, slice_get}
use Rattle.std.specs.List.{list_all}
use Rattle.std.proofs.lemmas.Bool.{and_parts, and_from}
use Rattle.std.specs.Prelude.{Bool}
use Rattle.std.proofs.lemmas.List.{append_cancel_left, take-append-drop, take_more}
use Rattle.std.proofs.lemmas.List.Concat.{flat_map-append}
use Rattle.std.proofs.lemmas.List.Folds.{list_all-append}
use Rattle.std.proofs.lemmas.Option.{get_or_from_slice_get, slice_get_within}
use Rattle.fol_model.specs.declared.events.Entry.{Entry}
use Rattle.fol_model.specs.World.{World}
use Rattle.fol_model.specs.Run.{Allowed, RunFrom, after, after_all}
use Rattle.fol_model.specs.Legal.{Doing, IsTurn, orders, orders_of, worker_of}
use Rattle.fol_model.specs.SoFar.{TicksSoFar}
use Rattle.fol_seat_laws.specs.Turns.{Turns}
use Rattle.fol_seat_laws.proofs.Turning.{turned}

-- ---- the last entry of a run

pub last_allowed : (w : World) (es : List Entry) (e : Entry) → RunFrom w (es ++ e ∷ []) → ((after_all w es).finished ≡ false) × Allowed (after_all w es) e.event
last_allowed w [] e run = (run.0, run.1)
last_allowed w (x ∷ es) e run = last_allowed (after w x.event) es e run.2

pub last_turn : (k : ℕ) (w : World) (d f : Doing) (es : List Entry) (e : Entry) → Turns k w d es f → TicksSoFar k w d (es ++ e ∷ []) → IsTrue (nat_eq (worker_of e.event) k) → IsTurn f e.event
last_turn k w d f [] e t so own = rw (← t) (so.0 own)
last_turn k w d f (x ∷ es) e t so own = last_turn k (after w x.event) (turned k w d x) f es e t.1 so.1 own

-- a worker whose turns these are has ticked so far
pub turns_so_far : (k : ℕ) (w : World) (d f : Doing) (es : List Entry) → Turns k w d es f → TicksSoFar k w d es
turns_so_far k w d f [] t = tt
turns_so_far k w d f (x ∷ es) t = (t.0, turns_so_far k (after w x.event) (turned k w d x) f es t.1)

-- ---- one more of a list

pub last_of : {X : Type 0} (p : X → Bool) (xs : List X) (x : X) → list_all p (xs ++ x ∷ []) ≡ true → p x ≡ true
last_of p xs x h = (and_parts (p x) true (and_parts (list_all p xs) (p x && true) (sym (list_all-append p xs (x ∷ [])) ∙ h)).1).0

pub all_with : {X : Type 0} (p : X → Bool) (xs : List X) (x : X) → list_all p xs ≡ true → p x ≡ true → list_all p (xs ++ x ∷ []) ≡ true
all_with p xs x h own = list_all-append p xs (x ∷ []) ∙ and_from (list_all p xs) (p x && true) h (and_from (p x) true own refl)

pub orders_with : (es : List Entry) (e : Entry) → orders (es ++ e ∷ []) ≡ orders es ++ orders_of e.event
orders_with es e = flat_map-append (λ (x : Entry). orders_of x.event) es (e ∷ []) ∙ ap (λ os. orders es ++ os) (append-nil (orders_of e.event))

-- what is left of a list behind its first n
pub left_behind : {X : Type 0} (all before own later : List X) (n : ℕ) → before ≡ take n all → (before ++ own) ++ later ≡ all → own ++ later ≡ drop n all
left_behind all before own later n first whole =
    append_cancel_left before (own ++ later) (drop n all)
    (sym (append_assoc before own later) ∙ whole ∙ sym (take-append-drop n all) ∙ ap (λ xs. xs ++ drop n all) (sym first))

pub first_left : {X : Type 0} (all later : List X) (x : X) (n : ℕ) → x ∷ later ≡ drop n all → slice_get all n ≡ Some x
first_left [] later x zero e = absurd (cc)
first_left [] later x (suc n) e = absurd (cc)
first_left (y ∷ ys) later x zero e = let same : x ≡ y = cc in ap Some (sym same)
first_left (y ∷ ys) later x (suc n) e = first_left ys later x n e

pub taken_with : {X : Type 0} (all : List X) (x : X) (n : ℕ) → slice_get all n ≡ Some x → take (n + 1) all ≡ take n all ++ x ∷ []
taken_with all x n at =
    take_more all n x (slice_get_within all n x at) ∙ ap (λ y. take n all ++ y ∷ []) (get_or_from_slice_get all n x x at)

-- nothing is left behind all
pub none_left : {X : Type 0} (all later : List X) (n : ℕ) → later ≡ [] → later ≡ drop n all → length all ≤ n
none_left [] later n none e = omega arith
none_left (y ∷ ys) later zero none e = absurd (let x : [] ≡ y ∷ ys = sym none ∙ e in cc)
none_left (y ∷ ys) later (suc n) none e = let less = none_left ys later n none e in omega arith

pub dropped_at : {X : Type 0} (xs : List X) (x : X) (n : ℕ) → slice_get xs n ≡ Some x → drop n xs ≡ x ∷ drop (suc n) xs
dropped_at [] x n at = absurd (cc)
dropped_at (y ∷ ys) x zero at = let same : y ≡ x = cc in rw same refl
dropped_at (y ∷ ys) x (suc n) at = dropped_at ys x n at
