use Rattle.std.proofs.Common.{◌≡◌, ap, ◌∙◌, [], ◌∷◌}
use Rattle.fol_io.specs.Counts.{raised}
use Rattle.fol_top.specs.Reading.{ReadsEnd}
use Rattle.fol_top.proofs.ReadEndings.{ends_from_earlier, err_ends, file_ends, more_end, raised_again}
use Rattle.fol_top.proofs.inputs.read_report_files.Goals as goal

pub returns-in_err-files-clause-ends : goal.returns-in_err-files-clause-ends
returns-in_err-files-clause-ends g c =
    let old = c.args.shelf.now in
    let new = c.read_files.new.shelf in
    let e = c.in_err-files.field-0.0 in
    let world = c.args.names.world.now in
    let script = c.args.names.script.now in
    let report = c.args.report.now in
    let ends = more_end (g.F.Shelf.held old) (g.F.Shelf.faults old) (g.F.Shelf.faults new) (g.F.Shelf.taken old) (g.F.Shelf.taken new) (g.F.Shelf.reads old) (g.F.Shelf.reads new) (world ∷ script ∷ []) (report ∷ []) e
    c.in_err-files.ensures.ends in
    err_ends c.from_residual.result e
    (ReadsEnd (g.F.Shelf.held old) (g.F.Shelf.faults old) (g.F.Shelf.faults new) (g.F.Shelf.taken old) (g.F.Shelf.taken new) (g.F.Shelf.reads old) (g.F.Shelf.reads new) (world ∷ script ∷ report ∷ []))
    c.from_residual.ensures.1 ends

pub returns-in_err-report-clause-ends : goal.returns-in_err-report-clause-ends
returns-in_err-report-clause-ends g c =
    let old = c.args.shelf.now in
    let then = c.read_files.new.shelf in
    let new = c.read_file.new.shelf in
    let e = c.in_err-report.field-0.0 in
    let world = c.args.names.world.now in
    let script = c.args.names.script.now in
    let report = c.args.report.now in
    let files = c.in_ok-files.files in
    let first = c.in_ok-files.ensures in
    let second = c.in_err-report.ensures in
    let last = ends_from_earlier (g.F.Shelf.held old report) (g.F.Shelf.held then report) (g.F.Shelf.faults old report) (g.F.Shelf.faults then report) (g.F.Shelf.faults new report)
    (g.F.Shelf.taken old) (g.F.Shelf.taken then) (g.F.Shelf.taken new) e (first.holds_the_same report) (first.faults_never_fall report) first.taken_never_falls second.ends in
    let counted : g.F.Shelf.reads new ≡ raised 3 (g.F.Shelf.reads old) = second.reads_once ∙ (ap (raised 1) first.reads_twice ∙ raised_again 2 (g.F.Shelf.reads old)) in
    let ends = file_ends (g.F.Shelf.held old) (g.F.Shelf.faults old) (g.F.Shelf.faults new) (g.F.Shelf.taken old) (g.F.Shelf.taken new) (g.F.Shelf.reads old) (g.F.Shelf.reads new) (world ∷ script ∷ []) report [] e
    ((files.world, first.world_held, first.world_within), ((files.script, first.script_held, first.script_within), tt)) counted last in
    err_ends c.from_residual-in_err-report.result e
    (ReadsEnd (g.F.Shelf.held old) (g.F.Shelf.faults old) (g.F.Shelf.faults new) (g.F.Shelf.taken old) (g.F.Shelf.taken new) (g.F.Shelf.reads old) (g.F.Shelf.reads new) (world ∷ script ∷ report ∷ []))
    c.from_residual-in_err-report.ensures.1 ends
