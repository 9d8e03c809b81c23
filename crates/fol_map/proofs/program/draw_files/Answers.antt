use Rattle.fol_map.specs.Runs.{Course}
use Rattle.fol_map.proofs.Outcomes.{files_end}
use Rattle.fol_map.proofs.program.draw_files.Goals as goal

pub returns : goal.returns
returns g c words =
    let held = rw (c.in-Ok.ensures.holds_the_same c.args.report.now) at c.in-Ok-read_file.ensures.held in
    let v : Course = record {
      words = words;
      held = g.F.Shelf.held c.args.shelf.now;
      faults = g.F.Shelf.faults c.args.shelf.now;
      faults_later = g.F.Shelf.faults c.read_file-2.new.shelf;
      taken = g.F.Shelf.taken c.args.shelf.now;
      taken_later = g.F.Shelf.taken c.read_file-2.new.shelf;
      reads = g.F.Shelf.reads c.args.shelf.now;
      reads_later = g.F.Shelf.reads c.read_file-2.new.shelf;
      received = g.K.Sink.received c.args.out.now;
      received_later = g.K.Sink.received c.draw_texts.new.out;
      write_faults = g.K.Sink.faults c.args.out.now;
      write_faults_later = g.K.Sink.faults c.draw_texts.new.out;
      puts = g.K.Sink.puts c.args.out.now;
      puts_later = g.K.Sink.puts c.draw_texts.new.out;
    } in
    files_end v c.args.world.now c.args.report.now c.as_slice.result.now c.as_slice-2.result.now (rw c.as_slice.ensures c.in-Ok.ensures.held) (rw c.as_slice-2.ensures held) c.draw_texts.result c.draw_texts.ensures
