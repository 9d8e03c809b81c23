use Rattle.std.proofs.Common.{◌≡◌, arith, length}
use Rattle.fol_lists.proofs.Written.{next_fit, next_room, written_all, written_apart, written_fit, written_next, written_used}
use Rattle.fol_lists.proofs.cells.write_all.Goals as goal

pub write-requires-clause-fit : goal.write-requires-clause-fit
write-requires-clause-fit g c = next_fit _ _ _ _ _ c.loop-i.invariant.written (omega (arith, c.loop-i.invariant.written.len, c.loop-i-test.true)) _ c.requires.fit

pub write-requires-clause-room : goal.write-requires-clause-room
write-requires-clause-room g c = omega (arith, next_room _ _ _ _ _ c.loop-i.invariant.written (omega (arith, c.loop-i.invariant.written.len, c.loop-i-test.true)) (record { from = 0; to = 0; end = 0 }), c.requires.room)

pub loop-i-preserved : goal.loop-i-preserved
loop-i-preserved g c = record {
  written = written_next _ _ _ _ _ c.loop-i.invariant.written (omega (arith, c.loop-i.invariant.written.len, c.loop-i-test.true)) _ _ _ c.write.ensures.written c.write.ensures.from c.write.ensures.to c.write.ensures.end;
  capacity = omega arith;
}

pub returns : goal.returns
returns g c =
    let all : c.loop-i.i ≡ length c.args.spans.now = omega arith in
    let w = c.loop-i.invariant.written in
    record {
      lists = written_all _ _ _ _ _ w all;
      fit = written_fit _ _ _ _ _ w all;
      apart = written_apart _ _ _ _ _ w all;
      used = written_used _ _ _ _ _ w all;
      capacity = omega (arith, c.loop-i.invariant.capacity);
    }
