use Rattle.std.proofs.Common.{sym, ◌∙◌, ap, arith}
use Rattle.fol_model.specs.declared.places.ChunkPos.{ChunkPos}
use Rattle.fol_keyed.specs.Members.{is_listed}
use Rattle.fol_keyed.proofs.Rooms.{room_for_more}
use Rattle.fol_keyed.proofs.rows.copy_listed.Goals as goal

pub push_reserved-requires : goal.push_reserved-requires
push_reserved-requires g c =
    let passes = ap (λ (q : ChunkPos). is_listed c.args.list.now.chunks.now q) (sym c.chunk.ensures) ∙ sym c.has.ensures ∙ c.if-has.true in
    let same = rw c.row-item.is at passes in
    let room = room_for_more (λ r. is_listed c.args.list.now.chunks.now (g.T.Row.place r)) c.args.rows.now _ _ c.loop-row.row-index c.row-item.result c.loop-row-test.true same c.loop-row.invariant.copied in
    omega (arith, room, c.requires)
