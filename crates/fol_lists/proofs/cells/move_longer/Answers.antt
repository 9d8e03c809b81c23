use Rattle.std.proofs.Common.{◌≡◌, ◌∙◌, ◌++◌, [], sym, ap, arith, get_or, length, length-append}
use Rattle.fol_lists.specs.declared.spans.Span.{Span}
use Rattle.fol_lists.specs.Spans.{piece_of, pieces_of}
use Rattle.fol_lists.proofs.Apart.{apart_moved}
use Rattle.fol_lists.proofs.Pieces.{piece_at, pieces_moved}
use Rattle.fol_lists.proofs.cells.move_longer.Goals as goal

pub returns-clause-grown : goal.returns-clause-grown
returns-clause-grown g c =
    let d : Span = record { from = 0; to = 0; end = 0 } in
    let cells = c.args.cells.now.items in
    let xs = c.args.xs.now in
    let piece = piece_of cells (get_or c.args.spans.now c.args.n d) in
    let at = piece_at cells c.args.spans.now c.args.n c.requires.number d in
    let long = length-append (get_or (pieces_of cells c.args.spans.now) c.args.n []) xs in
    let short = ap length at in
    let read : piece_of c.deref.result.now (get_or c.args.spans.now c.args.n d) ≡ piece = ap (λ cs. piece_of cs (get_or c.args.spans.now c.args.n d)) c.deref.ensures.value in
    let empty = ap length c.requires.none in
    let first = rw (c.extend_from_slice.ensures.succeeds (omega (arith, c.requires.spare, long, short, empty, ap length read)), c.requires.none) at c.extend_from_slice.ensures.items in
    let one = first ∙ read in
    let second = rw (c.extend_from_slice-2.ensures.succeeds (omega (arith, c.requires.spare, long, short, ap length one))) at c.extend_from_slice-2.ensures.items in
    let both = second ∙ ap (λ ps. ps ++ xs) (one ∙ sym at) in
    let third = rw (c.extend_from_slice-3.ensures.succeeds (omega (arith, c.requires.room, ap length both, ap length c.deref-2.ensures.value))) at c.extend_from_slice-3.ensures.items in
    let written = third ∙ ap (λ ps. cells ++ ps) (c.deref-2.ensures.value ∙ both) in
    let fourth = rw (c.extend_from_slice-4.ensures.succeeds (omega (arith, c.requires.room, ap length both, ap length c.deref-3.ensures.value, ap length written, length-append cells (get_or (pieces_of cells c.args.spans.now) c.args.n [] ++ xs)))) at c.extend_from_slice-4.ensures.items in
    rw (fourth, written)
    (pieces_moved cells c.args.spans.now c.args.n c.requires.number d (get_or (pieces_of cells c.args.spans.now) c.args.n [] ++ xs) c.deref-3.result.now _ c.requires.fit (omega arith) (omega (arith, ap length written)))

pub returns-clause-apart : goal.returns-clause-apart
returns-clause-apart g c = apart_moved c.args.spans.now c.args.n c.requires.number _ (length c.args.cells.now.items) c.requires.fit (omega arith) c.requires.apart
