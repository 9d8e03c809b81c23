use Rattle.fol_lists.specs.declared.spans.Span.{Span}
use Rattle.fol_lists.proofs.Shifted.{pieces_shifted}
use Rattle.fol_lists.proofs.cells.shift_list.Goals as goal

pub returns-clause-shifted : goal.returns-clause-shifted
returns-clause-shifted g c =
    let d : Span = record { from = 0; to = 0; end = 0 } in
    rw c.shift.ensures
    (pieces_shifted c.args.cells.now c.args.spans.now c.args.n c.requires.number d c.requires.fit c.requires.apart c.args.start c.args.end c.args.by c.args.xs.now c.requires.rising c.requires.within)
