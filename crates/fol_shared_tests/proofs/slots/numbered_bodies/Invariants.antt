use Rattle.std.proofs.Common.{◌≡◌, vec_len}
use Rattle.fol_shared_tests.proofs.slots.numbered_bodies.Given as goal

abbrev pub invariant-loop-number : goal.invariant-loop-number
invariant-loop-number l = vec_len l.bodies ≡ l.number
