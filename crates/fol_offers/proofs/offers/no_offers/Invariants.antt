use Rattle.std.proofs.Common.{◌≡◌, ◌≤◌, All}
use Rattle.std.specs.Vec.{vec_len, vec_capacity}
use Rattle.fol_offers.proofs.offers.no_offers.Given as goal
use Rattle.fol_offers.specs.Offered.{nothing}

abbrev pub invariant-loop : goal.invariant-loop
invariant-loop l = (vec_len l.bodies ≡ l.counter) × (l.count ≤ vec_capacity l.bodies) × All (λ b. b ≡ nothing) l.bodies.items
