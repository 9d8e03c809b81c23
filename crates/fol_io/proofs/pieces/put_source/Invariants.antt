use Rattle.std.proofs.Common.{◌≡◌, ◌≤◌, [], length}
use Rattle.fol_io.proofs.WholePieces.{AtPiece}
use Rattle.fol_io.proofs.pieces.put_source.Given as goal

abbrev pub invariant-loop-carry : goal.invariant-loop-carry
invariant-loop-carry g l = record {
  at : AtPiece (g.S.Source.left l.initial.source) (g.S.Source.left l.source) (g.K.Sink.received l.initial.sink) (g.K.Sink.received l.sink) (g.K.Sink.puts l.initial.sink) (g.K.Sink.puts l.sink);
  never_falls : g.K.Sink.faults l.initial.sink ≤ g.K.Sink.faults l.sink;
  untouched : g.S.Source.left l.initial.source ≡ [] → l.sink ≡ l.initial.sink;
}

abbrev pub decreases-loop-carry : goal.decreases-loop-carry
decreases-loop-carry g l = length (g.S.Source.left l.source)
