use Rattle.std.proofs.Common.{rules}
use Rattle.std.proofs.Math.Seq.{take-add}
use Rattle.std.proofs.KnownBytes.{Appends-nil, Appends-trans}
use Rattle.std.proofs.lemmas.List.{take_rest}
use Rattle.fol_io.proofs.std_sink.write_whole.Goals as goal

pub loop-done-init : goal.loop-done-init
loop-done-init g c = record { within = search rules; wrote = Appends-nil (g.W.Write.contents c.args.stream.now) }

pub loop-done-preserved : goal.loop-done-preserved
loop-done-preserved g c =
    let piece = rw (take_rest c.args.bytes.now c.loop-done.done) at c.in-Ok.ensures.bytes in
    record {
      within = search rules;
      wrote = rw (take-add c.loop-done.done c.in-Ok.count c.args.bytes.now) (Appends-trans _ _ _ _ _ c.loop-done.invariant.wrote piece);
    }
