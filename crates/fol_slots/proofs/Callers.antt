-- What callers need to reason about the seats: the places that a keeper's seat shows, and the seats of new slots.
use Rattle.std.proofs.Common.{◌≡◌, ◌≢◌, ℕ, zero, suc, ◌+◌, ◌<◌, List, [], ◌∷◌, length, get_or, refl, ap, arith, length-set, get_or-set_other, get_or-set_same, Some, None, All, IsSome}
use Rattle.std.specs.Prelude.{slice_get}
use Rattle.std.proofs.lemmas.List.Elements.{All-from_get_or}
use Rattle.atomic_table.specs.Seated.{TableId}
use Rattle.fol_slots.specs.declared.view.Place.{Place}
use Rattle.fol_slots.specs.Hands.{place}
use Rattle.fol_slots.specs.Shown.{Worker, Keeper, place_at, new_keeper, new_worker, AreNew, knowing}

module _ {T : Type 0} where
  -- the keeper learns of slot i
  pub as_many : (k : Keeper T) (i : ℕ) (p : Place T) → length (knowing k i p).places ≡ length k.places
  as_many k i p = length-set k.places i p

  pub place_here : (k : Keeper T) (i : ℕ) (p : Place T) → i < length k.places → place_at (knowing k i p) i ≡ p
  place_here k i p low = get_or-set_same k.places i p (place None None None) low

  pub place_else : (k : Keeper T) (i j : ℕ) (p : Place T) → j ≢ i → place_at (knowing k i p) j ≡ place_at k j
  place_else k i j p other = get_or-set_other k.places i j p (place None None None) other

  -- The keeper's seat of new slots, for however many workers, has a place for each body, and keeps it.
  pub new_as_many : (z : TableId) (bodies : List T) → length (new_keeper z bodies 0).places ≡ length bodies
  new_as_many z [] = refl
  new_as_many z (x ∷ xs) = ap suc (new_as_many z xs)

  pub kept_new : (z : TableId) (bodies : List T) (i : ℕ) → i < length bodies → IsSome (place_at (new_keeper z bodies 0) i).kept
  kept_new z [] i low = absurd (omega arith)
  kept_new z (x ∷ xs) zero low = refl
  kept_new z (x ∷ xs) (suc i) low = kept_new z xs i (omega arith)

  -- with the first of the bodies, and so on
  pub body_new : (z : TableId) (bodies : List T) (i : ℕ) (b : T) → slice_get bodies i ≡ Some b → place_at (new_keeper z bodies 0) i ≡ place (Some b) None None
  body_new z [] i b e = absurd (cc)
  body_new z (x ∷ xs) zero b e = ap (λ o. place o None None) e
  body_new z (x ∷ xs) (suc i) b e = body_new z xs i b e

get_there : {X : Type 0} (xs : List X) (k : ℕ) (d a : X) → slice_get xs k ≡ Some a → get_or xs k d ≡ a
get_there [] k d a e = absurd (cc)
get_there (x ∷ xs) zero d a e = cc
get_there (x ∷ xs) (suc k) d a e = get_there xs k d a e

-- no new worker's seat holds a slot
pub new_free : {T : Type 0} (z : TableId) (n : ℕ) (seats : List (Worker T)) → AreNew z n seats → All (λ (s : Worker T). (s.slots ≡ z) × (s.slot ≡ None)) seats
new_free z n seats a = let long = a.count_is in All-from_get_or (λ (s : Worker _). (s.slots ≡ z) × (s.slot ≡ None)) seats (new_worker z 0)
    (λ k low. let is = get_there seats k (new_worker z 0) (new_worker z (k + 1)) (a.each k (omega arith)) in (ap (λ (s : Worker _). s.slots) is, ap (λ (s : Worker _). s.slot) is))
