use Rattle.std.proofs.Common.{◌≡◌, ◌+◌, ◌≤◌, cond, take}
use Rattle.std.specs.Prelude.{ℤ}
use Rattle.std.specs.HashMap.{spare}
use Rattle.fol_chunks.specs.Tallies.{is_key_of, number_of, total_of}
use Rattle.fol_chunks.proofs.tally.move_listed.Given as goal

abbrev pub invariant-loop-c : goal.invariant-loop-c
invariant-loop-c l = record {
  total : l.moved ≡ total_of l.initial.tally.entries (take l.c-index l.chunks);
  left : (q : ℤ × ℤ) → number_of l.tally.entries q ≡ cond (is_key_of (take l.c-index l.chunks) q) 0 (number_of l.initial.tally.entries q);
  moved : (q : ℤ × ℤ) → number_of l.into.entries q ≡ number_of l.initial.into.entries q + cond (is_key_of (take l.c-index l.chunks) q) (number_of l.initial.tally.entries q) 0;
  room : spare l.initial.tally ≤ spare l.tally;
  into_room : spare l.initial.into ≤ spare l.into + l.moved;
}
