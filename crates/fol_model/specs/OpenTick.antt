-- The tick of a region from its Begin to its End.
use Rattle.std.specs.Prelude.{ℕ, ◌≡◌, Bool, false, nat_eq, List, [], ◌∷◌}
use Rattle.fol_model.specs.declared.events.Event.{Event}
use Rattle.fol_model.specs.declared.events.Event.TheVariants.{Begin, End}
use Rattle.fol_model.specs.declared.events.Entry.{Entry}

abbrev pub is_begin : ℕ → Event → Bool
is_begin r (Begin worker q) = nat_eq q r
is_begin r _ = false

abbrev pub is_end : ℕ → Event → Bool
is_end r (End worker q tick ran accepts) = nat_eq q r
is_end r _ = false

-- no entry is an End of r
abbrev pub NoEnd : ℕ → List Entry → Type 0
NoEnd r [] = Unit {0}
NoEnd r (e ∷ es) = (is_end r e.event ≡ false) × NoEnd r es
