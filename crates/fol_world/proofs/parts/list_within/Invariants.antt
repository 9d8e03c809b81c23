use Rattle.std.proofs.Common.{◌≡◌, ◌≤◌, take, length, filter}
use Rattle.std.specs.Vec.{vec_capacity}
use Rattle.fol_regions.specs.Table.{grid_state}
use Rattle.fol_world.specs.Released.{is_within}
use Rattle.fol_world.proofs.parts.list_within.Given as goal

abbrev pub invariant-loop-c : goal.invariant-loop-c
invariant-loop-c l = record {
  kept : l.own.items ≡ filter (is_within (grid_state l.regions) l.id) (take l.c-index l.chunks);
  few : length l.own.items ≤ l.c-index;
  room : length l.chunks ≤ vec_capacity l.own;
}
