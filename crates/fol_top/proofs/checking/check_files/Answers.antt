use Rattle.std.proofs.Common.{refl, [], ◌∷◌}
use Rattle.fol_top.specs.Command.{check}
use Rattle.fol_top.specs.Inputs.{Inputs}
use Rattle.fol_top.specs.Outcome.{Course}
use Rattle.fol_top.specs.Report.{Spelled}
use Rattle.fol_top.proofs.RunEndings.{check_came, texts_came}
use Rattle.fol_top.proofs.checking.check_files.Goals as goal

pub returns-in-Err-read_texts : goal.returns-in-Err-read_texts
returns-in-Err-read_texts g c words command =
    let v : Course = record {
      words = words;
      held = g.F.Shelf.held c.args.shelf.now;
      faults = g.F.Shelf.faults c.args.shelf.now;
      faults_later = g.F.Shelf.faults c.read_report_files.new.shelf;
      taken = g.F.Shelf.taken c.args.shelf.now;
      taken_later = g.F.Shelf.taken c.read_report_files.new.shelf;
      reads = g.F.Shelf.reads c.args.shelf.now;
      reads_later = g.F.Shelf.reads c.read_report_files.new.shelf;
      received = g.K.Sink.received c.args.out.now;
      received_later = g.K.Sink.received c.args.out.now;
      write_faults = g.K.Sink.faults c.args.out.now;
      write_faults_later = g.K.Sink.faults c.args.out.now;
      puts = g.K.Sink.puts c.args.out.now;
      puts_later = g.K.Sink.puts c.args.out.now;
    } in
    let all = c.in-Ok.files in
    let e = c.in-Ok.ensures in
    let inputs : Inputs v.words v.held (all.files.world ∷ (all.files.script ∷ (all.report ∷ []))) = record {
      request = check (record { world = c.args.names.world.now; script = c.args.names.script.now }) c.args.report.now;
      command = command;
      are_held = ((e.world_held, e.world_within), ((e.script_held, e.script_within), ((e.report_held, e.report_within), tt)));
    } in
    texts_came v all.files.world all.files.script (all.report ∷ []) inputs c.in-Err-read_texts.ending refl c.in-Err-read_texts.ensures.ends

pub returns : goal.returns
returns g c words command =
    let v : Course = record {
      words = words;
      held = g.F.Shelf.held c.args.shelf.now;
      faults = g.F.Shelf.faults c.args.shelf.now;
      faults_later = g.F.Shelf.faults c.read_report_files.new.shelf;
      taken = g.F.Shelf.taken c.args.shelf.now;
      taken_later = g.F.Shelf.taken c.read_report_files.new.shelf;
      reads = g.F.Shelf.reads c.args.shelf.now;
      reads_later = g.F.Shelf.reads c.read_report_files.new.shelf;
      received = g.K.Sink.received c.args.out.now;
      received_later = g.K.Sink.received c.check_texts.new.out;
      write_faults = g.K.Sink.faults c.args.out.now;
      write_faults_later = g.K.Sink.faults c.check_texts.new.out;
      puts = g.K.Sink.puts c.args.out.now;
      puts_later = g.K.Sink.puts c.check_texts.new.out;
    } in
    let all = c.in-Ok.files in
    let e = c.in-Ok.ensures in
    let inputs : Inputs v.words v.held (all.files.world ∷ (all.files.script ∷ (all.report ∷ []))) = record {
      request = check (record { world = c.args.names.world.now; script = c.args.names.script.now }) c.args.report.now;
      command = command;
      are_held = ((e.world_held, e.world_within), ((e.script_held, e.script_within), ((e.report_held, e.report_within), tt)));
    } in
    let texts = c.in-Ok-read_texts.texts in
    let spelled : Spelled v.words v.held (all.report ∷ []) texts.opening texts.script = record {
      world_bytes = all.files.world;
      script_bytes = all.files.script;
      inputs = inputs;
      world_text = c.in-Ok-read_texts.ensures.world;
      script_text = c.in-Ok-read_texts.ensures.script;
    } in
    check_came v all.report texts.opening texts.script spelled c.check_texts.result (rw c.as_slice.ensures at c.check_texts.ensures)
