use Rattle.std.proofs.Common.{◌≡◌, take}
use Rattle.fol_chunks.specs.Tallies.{total_of}
use Rattle.fol_chunks.proofs.tally.total.Given as goal

abbrev pub invariant-loop-c : goal.invariant-loop-c
invariant-loop-c l = l.total ≡ total_of l.tally.entries (take l.c-index l.chunks)
