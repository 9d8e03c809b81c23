use Rattle.std.proofs.Common.{◌≤◌, vec_len}
use Rattle.std.specs.Io.KnownBytes.{Consumes}
use Rattle.fol_io.proofs.file_shelf.read_to_limit.Given as goal

abbrev pub invariant-loop-turn : goal.invariant-loop-turn
invariant-loop-turn g l = record {
  each_took : l.turn ≤ vec_len l.bytes;
  within : vec_len l.bytes ≤ l.limit;
  read : Consumes (g.S.Read.remaining l.initial.source) (g.S.Read.remaining l.source) l.bytes.items;
}
