use Rattle.std.proofs.Common.{refl, [], ◌∷◌}
use Rattle.fol_top.specs.Command.{run}
use Rattle.fol_top.specs.Inputs.{Inputs}
use Rattle.fol_top.specs.Outcome.{Course}
use Rattle.fol_top.specs.Report.{Spelled}
use Rattle.fol_top.proofs.RunEndings.{run_came, texts_came}
use Rattle.fol_top.proofs.program.run_files.Goals as goal

pub returns-in-Err-read_texts_in_shares : goal.returns-in-Err-read_texts_in_shares
returns-in-Err-read_texts_in_shares g c words command =
    let v : Course = record {
      words = words;
      held = g.F.Shelf.held c.args.shelf.now;
      faults = g.F.Shelf.faults c.args.shelf.now;
      faults_later = g.F.Shelf.faults c.read_files.new.shelf;
      taken = g.F.Shelf.taken c.args.shelf.now;
      taken_later = g.F.Shelf.taken c.read_files.new.shelf;
      reads = g.F.Shelf.reads c.args.shelf.now;
      reads_later = g.F.Shelf.reads c.read_files.new.shelf;
      received = g.K.Sink.received c.args.out.now;
      received_later = g.K.Sink.received c.args.out.now;
      write_faults = g.K.Sink.faults c.args.out.now;
      write_faults_later = g.K.Sink.faults c.args.out.now;
      puts = g.K.Sink.puts c.args.out.now;
      puts_later = g.K.Sink.puts c.args.out.now;
    } in
    let e = c.in-Ok.ensures in
    let inputs : Inputs v.words v.held (c.in-Ok.files.world ∷ (c.in-Ok.files.script ∷ [])) = record {
      request = run (record { world = c.args.names.world.now; script = c.args.names.script.now }) c.args.workers c.args.form;
      command = command;
      are_held = ((e.world_held, e.world_within), ((e.script_held, e.script_within), tt));
    } in
    texts_came v c.in-Ok.files.world c.in-Ok.files.script [] inputs c.in-Err-read_texts_in_shares.ending refl c.in-Err-read_texts_in_shares.ensures.ends

pub returns : goal.returns
returns g c words command =
    let v : Course = record {
      words = words;
      held = g.F.Shelf.held c.args.shelf.now;
      faults = g.F.Shelf.faults c.args.shelf.now;
      faults_later = g.F.Shelf.faults c.read_files.new.shelf;
      taken = g.F.Shelf.taken c.args.shelf.now;
      taken_later = g.F.Shelf.taken c.read_files.new.shelf;
      reads = g.F.Shelf.reads c.args.shelf.now;
      reads_later = g.F.Shelf.reads c.read_files.new.shelf;
      received = g.K.Sink.received c.args.out.now;
      received_later = g.K.Sink.received c.run_texts.new.out;
      write_faults = g.K.Sink.faults c.args.out.now;
      write_faults_later = g.K.Sink.faults c.run_texts.new.out;
      puts = g.K.Sink.puts c.args.out.now;
      puts_later = g.K.Sink.puts c.run_texts.new.out;
    } in
    let e = c.in-Ok.ensures in
    let inputs : Inputs v.words v.held (c.in-Ok.files.world ∷ (c.in-Ok.files.script ∷ [])) = record {
      request = run (record { world = c.args.names.world.now; script = c.args.names.script.now }) c.args.workers c.args.form;
      command = command;
      are_held = ((e.world_held, e.world_within), ((e.script_held, e.script_within), tt));
    } in
    let texts = c.in-Ok-read_texts_in_shares.texts in
    let spelled : Spelled v.words v.held [] texts.opening texts.script = record {
      world_bytes = c.in-Ok.files.world;
      script_bytes = c.in-Ok.files.script;
      inputs = inputs;
      world_text = c.in-Ok-read_texts_in_shares.ensures.world;
      script_text = c.in-Ok-read_texts_in_shares.ensures.script;
    } in
    run_came v (record { world = c.args.names.world.now; script = c.args.names.script.now }) c.args.workers c.args.form command texts.opening texts.script spelled c.run_texts.result c.run_texts.ensures
