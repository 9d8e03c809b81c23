use Rattle.std.proofs.Common.{◌++◌, flat_map, sym, ap, ◌∙◌}
use Rattle.std.proofs.lemmas.List.{drop-append-le, take-append-le}
use Rattle.fol_io.proofs.left.LeftSource.put_piece.Goals as goal

pub returns-then-self-ge-PIECE_SIZE-clause-left : goal.returns-then-self-ge-PIECE_SIZE-clause-left
returns-then-self-ge-PIECE_SIZE-clause-left g c =
    ap (λ t. t ++ flat_map (λ part. part.items) c.args.self.now.parts.now) c.split_at.ensures.back ∙ sym (drop-append-le 4096 c.args.self.now.row.now (flat_map (λ part. part.items) c.args.self.now.parts.now) c.if-self-ge-PIECE_SIZE.true)

pub returns-then-self-ge-PIECE_SIZE-clause-takes : goal.returns-then-self-ge-PIECE_SIZE-clause-takes
returns-then-self-ge-PIECE_SIZE-clause-takes g c =
    let e = c.split_at.ensures.front ∙ sym (take-append-le 4096 c.args.self.now.row.now (flat_map (λ part. part.items) c.args.self.now.parts.now) c.if-self-ge-PIECE_SIZE.true) in
    rw e at c.put.ensures.takes
