-- The views that the steps of a lock make.
use Rattle.std.specs.Prelude.{ℕ, ◌+◌, Bool, true, false, List, [], ◌∷◌, ◌++◌, Option, Some, None}
use Rattle.fol_lock.specs.declared.view.Claim.{Claim}
use Rattle.fol_lock.specs.declared.view.View.{View}
use Rattle.fol_lock.specs.Log.{given_by}

module _ {O E : Type 0} where
  abbrev pub claim : ℕ → Option O → List E → List E → Claim O E
  claim number origin seen mine = record { number = number; origin = origin; seen = seen; mine = mine }

  abbrev pub view : ℕ → ℕ → Bool → Bool → ℕ → Claim O E → List (Claim O E) → View O E
  view live draws deals turn ticket own joined = record { live = live; draws = draws; deals = deals; turn = turn; ticket = ticket; own = own; joined = joined }

  -- a seat's own claim, and those of the seats that were joined into it
  abbrev pub claims : View O E → List (Claim O E)
  claims v = v.own ∷ v.joined

  -- the seat that deals the others, while it has this number
  abbrev pub dealer : ℕ → O → View O E
  dealer number origin = view 1 0 true false 0 (claim number (Some origin) [] []) []

  abbrev pub first_view : O → View O E
  first_view origin = dealer 0 origin

  -- a seat that was joined into another
  abbrev pub spent : View O E
  spent = view 0 0 false false 0 (claim 0 None [] []) []

  -- the seat has drawn this ticket
  abbrev pub with_ticket : View O E → ℕ → View O E
  with_ticket v ticket = view v.live 1 v.deals false ticket v.own v.joined

  -- the seat has the turn, and has seen this log
  abbrev pub with_turn : View O E → List E → View O E
  with_turn v log = view v.live v.draws v.deals true v.ticket (claim v.own.number v.own.origin log v.own.mine) v.joined

  -- the seat has passed the turn on, in which the log became this one
  abbrev pub after_turn : (E → ℕ) → View O E → List E → View O E
  after_turn by v log = view v.live 0 v.deals false v.ticket (claim v.own.number v.own.origin log (given_by by v.own.number log)) v.joined

  -- the dealer has gone on to the next number
  abbrev pub dealer_of : View O E → View O E
  dealer_of v = view v.live v.draws v.deals v.turn v.ticket (claim (v.own.number + 1) v.own.origin v.own.seen []) v.joined

  -- a new seat has the number that the dealer had
  abbrev pub dealt_of : View O E → View O E
  dealt_of v = view v.live 0 false false 0 v.own []

  -- the seat v has taken in the claims of the seat w
  abbrev pub both_of : View O E → View O E → View O E
  both_of v w = view v.live v.draws v.deals v.turn v.ticket v.own (v.joined ++ (w.own ∷ w.joined))
