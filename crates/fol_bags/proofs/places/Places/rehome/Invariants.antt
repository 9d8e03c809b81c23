use Rattle.std.proofs.Common.{◌≡◌, take}
use Rattle.fol_model.specs.declared.places.ChunkPos.{ChunkPos}
use Rattle.fol_bags.specs.Places.{place_at, rehomed}
use Rattle.fol_bags.proofs.places.Places.rehome.Given as goal

abbrev pub invariant-loop-c : goal.invariant-loop-c
invariant-loop-c l = (q : ChunkPos) → place_at l.self q ≡ rehomed (take l.c-index l.chunks) l.from l.to q (place_at l.fn.self q)
