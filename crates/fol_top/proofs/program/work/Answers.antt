use Rattle.std.proofs.Common.{◌≡◌, List, ℕ, map, Bor, sym, ap, ◌∙◌, true, false}
use Rattle.fol_top.specs.Command.{asks_for_files, request_in}
use Rattle.fol_top.specs.Outcome.{Course}
use Rattle.fol_top.proofs.RunEndings.{make_came}
use Rattle.fol_top.proofs.program.work.Goals as goal

pub returns-in-Some-Run-clause-came : goal.returns-in-Some-Run-clause-came
returns-in-Some-Run-clause-came g c = c.run_files.ensures (map (λ (w : Bor (List ℕ)). w.now) c.args.words.now) (rw c.in-Some-Run.field-0-is at c.in-Some-Run.ensures.request)

pub returns-in-Some-Make-clause-came : goal.returns-in-Some-Make-clause-came
returns-in-Some-Make-clause-came g c =
    let v : Course = record {
      words = map (λ (w : Bor (List ℕ)). w.now) c.args.words.now;
      held = g.F.Shelf.held c.args.shelf.now;
      faults = g.F.Shelf.faults c.args.shelf.now;
      faults_later = g.F.Shelf.faults c.args.shelf.now;
      taken = g.F.Shelf.taken c.args.shelf.now;
      taken_later = g.F.Shelf.taken c.args.shelf.now;
      reads = g.F.Shelf.reads c.args.shelf.now;
      reads_later = g.F.Shelf.reads c.args.shelf.now;
      received = g.K.Sink.received c.args.out.now;
      received_later = g.K.Sink.received c.run_made.new.out;
      write_faults = g.K.Sink.faults c.args.out.now;
      write_faults_later = g.K.Sink.faults c.run_made.new.out;
      puts = g.K.Sink.puts c.args.out.now;
      puts_later = g.K.Sink.puts c.run_made.new.out;
    } in
    make_came v c.in-Some-Make.clusters (rw c.in-Some-Make.field-0-is at c.in-Some-Make.ensures.request) c.run_made.result c.run_made.ensures

pub returns-in-Some-Run-clause-untouched : goal.returns-in-Some-Run-clause-untouched
returns-in-Some-Run-clause-untouched g c none =
    let files : asks_for_files (request_in (map (λ (w : Bor (List ℕ)). w.now) c.args.words.now)) ≡ true = ap asks_for_files (rw c.in-Some-Run.field-0-is at c.in-Some-Run.ensures.request) in
    let never : true ≡ false = sym files ∙ none in
    absurd (cc)
