use Rattle.std.proofs.Common.{List, ℕ, map, Bor}
use Rattle.fol_top.specs.Outcome.{Course}
use Rattle.fol_top.proofs.Outcomes.{outcome_of}
use Rattle.fol_top.proofs.RunEndings.{told_came}
use Rattle.fol_top.proofs.program.run.Goals as goal

pub returns-clause-outcome : goal.returns-clause-outcome
returns-clause-outcome g c =
    let v : Course = record {
      words = map (λ (w : Bor (List ℕ)). w.now) c.args.words.now;
      held = g.F.Shelf.held c.args.shelf.now;
      faults = g.F.Shelf.faults c.args.shelf.now;
      faults_later = g.F.Shelf.faults c.work-ending.new.shelf;
      taken = g.F.Shelf.taken c.args.shelf.now;
      taken_later = g.F.Shelf.taken c.work-ending.new.shelf;
      reads = g.F.Shelf.reads c.args.shelf.now;
      reads_later = g.F.Shelf.reads c.work-ending.new.shelf;
      received = g.K.Sink.received c.args.out.now;
      received_later = g.K.Sink.received c.work-ending.new.out;
      write_faults = g.K.Sink.faults c.args.out.now;
      write_faults_later = g.K.Sink.faults c.work-ending.new.out;
      puts = g.K.Sink.puts c.args.out.now;
      puts_later = g.K.Sink.puts c.work-ending.new.out;
    } in
    rw c.status.ensures (outcome_of v c.complain.result (told_came v c.work-ending.result c.complain.result c.work-ending.ensures.came c.complain.ensures.told) c.work-ending.ensures.untouched)
