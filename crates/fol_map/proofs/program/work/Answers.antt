use Rattle.std.proofs.Common.{ℕ, List, map}
use Rattle.fol_map.specs.Runs.{Course}
use Rattle.fol_map.proofs.Outcomes.{run_ends}
use Rattle.fol_map.proofs.program.work.Goals as goal

pub returns-in-Some : goal.returns-in-Some
returns-in-Some g c =
    let words : List (List ℕ) = map (λ w. w.now) c.args.words.now in
    let v : Course = record {
      words = words;
      held = g.F.Shelf.held c.args.shelf.now;
      faults = g.F.Shelf.faults c.args.shelf.now;
      faults_later = g.F.Shelf.faults c.draw_files.new.shelf;
      taken = g.F.Shelf.taken c.args.shelf.now;
      taken_later = g.F.Shelf.taken c.draw_files.new.shelf;
      reads = g.F.Shelf.reads c.args.shelf.now;
      reads_later = g.F.Shelf.reads c.draw_files.new.shelf;
      received = g.K.Sink.received c.args.out.now;
      received_later = g.K.Sink.received c.draw_files.new.out;
      write_faults = g.K.Sink.faults c.args.out.now;
      write_faults_later = g.K.Sink.faults c.draw_files.new.out;
      puts = g.K.Sink.puts c.args.out.now;
      puts_later = g.K.Sink.puts c.draw_files.new.out;
    } in
    run_ends v c.in-Some.names.world.now c.in-Some.names.report.now c.in-Some.ensures c.draw_files.result (c.draw_files.ensures words)
