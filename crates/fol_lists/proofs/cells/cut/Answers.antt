use Rattle.std.proofs.Common.{ap}
use Rattle.fol_lists.specs.declared.spans.Span.{Span}
use Rattle.fol_lists.proofs.Pieces.{pieces_cut, spans_cut}
use Rattle.fol_lists.proofs.cells.cut.Goals as goal

pub returns : goal.returns
returns g c =
    let d : Span = record { from = 0; to = 0; end = 0 } in
    let from = ap (λ (i : Span). i.from) c.front.ensures in
    let to = ap (λ (i : Span). i.to) c.front.ensures in
    let end = ap (λ (i : Span). i.end) c.front.ensures in
    record {
      cut = pieces_cut c.args.cells.now c.args.spans.now c.args.n c.requires.number d c.requires.fit c.args.len c.requires.few c.front.result from to end;
      lists = spans_cut c.args.cells.now c.args.spans.now c.args.n c.requires.number d c.requires.fit c.args.len c.requires.few c.front.result from to end;
    }
