use Rattle.std.proofs.Common.{◌+◌, refl, arith, get_or, length}
use Rattle.fol_lists.specs.declared.spans.Span.{Span}
use Rattle.fol_lists.proofs.Apart.{apart_kept}
use Rattle.fol_lists.proofs.Over.{pieces_filled}
use Rattle.fol_lists.proofs.cells.fill_free.Goals as goal

pub returns-clause-grown : goal.returns-clause-grown
returns-clause-grown g c =
    let d : Span = record { from = 0; to = 0; end = 0 } in
    let span = get_or c.args.spans.now c.args.n d in
    let is = c.requires.fit c.args.n d c.requires.number in
    rw c.copy_from_slice.ensures.after
    (pieces_filled c.args.cells.now span.to (span.to + length c.args.xs.now) c.args.xs.now (omega arith) (omega (arith, is.within, c.requires.free d)) (omega arith)
    c.args.spans.now c.args.n c.requires.number d c.requires.fit c.requires.apart is.rising (c.requires.free d) _ refl refl refl)

pub returns-clause-apart : goal.returns-clause-apart
returns-clause-apart g c =
    let d : Span = record { from = 0; to = 0; end = 0 } in
    apart_kept c.args.spans.now c.args.n c.requires.number _ d refl refl c.requires.apart
