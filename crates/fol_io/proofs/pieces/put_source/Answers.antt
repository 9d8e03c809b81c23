use Rattle.std.proofs.Common.{◌+◌, length, refl, ap, arith}
use Rattle.std.specs.Prelude.{◌≢◌, []}
use Rattle.std.proofs.lemmas.List.{length-drop}
use Rattle.fol_io.proofs.Received.{ReceivedPrefix-after}
use Rattle.fol_io.proofs.WholePieces.{AtPiece-begin, AtPiece-next, AtPiece-same, AtPiece-some, ReceivedInPieces-failed, some_left, some_of_all}
use Rattle.fol_io.proofs.pieces.put_source.Goals as goal

pub loop-carry-init : goal.loop-carry-init
loop-carry-init g c = record { at = AtPiece-begin _ _ _; never_falls = omega arith; untouched = λ none. refl }

pub loop-carry-smaller : goal.loop-carry-smaller
loop-carry-smaller g c =
    let left = g.S.Source.left c.has_more.new.self in
    let some = some_left left (c.has_more.ensures.more c.loop-carry-test.true) in
    omega (arith, some, ap length c.has_more.ensures.same, ap length c.put_piece.ensures.left, length-drop 4096 left)

pub loop-carry-preserved : goal.loop-carry-preserved
loop-carry-preserved g c =
    let left = g.S.Source.left c.has_more.new.self in
    let at = AtPiece-same _ _ left _ _ _ _ c.has_more.ensures.same c.loop-carry.invariant.at in
    let some : left ≢ [] = c.has_more.ensures.more c.loop-carry-test.true in
    record {
      at = AtPiece-same _ _ _ _ _ _ _ c.put_piece.ensures.left (AtPiece-next _ left _ _ _ _ at _ _ some c.in-Ok.ensures.takes (c.put_piece.ensures.numbers some));
      never_falls = omega (arith, c.put_piece.ensures.faults_never_fall, c.loop-carry.invariant.never_falls);
      untouched = λ none. absurd (AtPiece-some _ left _ _ _ _ at some none);
    }

pub returns-in-Failed-clause-takes : goal.returns-in-Failed-clause-takes
returns-in-Failed-clause-takes g c =
    let left = g.S.Source.left c.has_more.new.self in
    let at = AtPiece-same _ _ left _ _ _ _ c.has_more.ensures.same c.loop-carry.invariant.at in
    let piece = c.in-Failed.ensures.takes in
    let prefix = ReceivedPrefix-after _ _ _ 4096 at.sent left _ at.split at.received piece.0 in
    ((length at.sent + prefix.0, prefix.2), omega (arith, piece.1, c.loop-carry.invariant.never_falls))

pub returns-in-Failed-clause-pieces : goal.returns-in-Failed-clause-pieces
returns-in-Failed-clause-pieces g c failed =
    let left = g.S.Source.left c.has_more.new.self in
    let at = AtPiece-same _ _ left _ _ _ _ c.has_more.ensures.same c.loop-carry.invariant.at in
    let some : left ≢ [] = c.has_more.ensures.more c.loop-carry-test.true in
    ReceivedInPieces-failed _ left _ _ _ _ at _ _ some c.in-Failed.ensures.takes.0 (c.put_piece.ensures.numbers some)

pub returns-in-Failed-clause-empty : goal.returns-in-Failed-clause-empty
returns-in-Failed-clause-empty g c none =
    absurd (some_of_all _ _ _ _ _ _ _ c.has_more.ensures.same c.loop-carry.invariant.at (c.has_more.ensures.more c.loop-carry-test.true) none)

pub returns-in-Failed-clause-empty_makes_no_put : goal.returns-in-Failed-clause-empty_makes_no_put
returns-in-Failed-clause-empty_makes_no_put g c none =
    absurd (some_of_all _ _ _ _ _ _ _ c.has_more.ensures.same c.loop-carry.invariant.at (c.has_more.ensures.more c.loop-carry-test.true) none)
