use Rattle.std.proofs.Common.{◌≡◌, ap, ◌∙◌, [], ◌∷◌}
use Rattle.fol_io.specs.Counts.{raised}
use Rattle.fol_top.specs.Reading.{ReadsEnd}
use Rattle.fol_top.proofs.ReadEndings.{ends_from_earlier, err_ends, file_ends, raised_again}
use Rattle.fol_top.proofs.inputs.read_files.Goals as goal

pub returns-in_err-world-clause-ends : goal.returns-in_err-world-clause-ends
returns-in_err-world-clause-ends g c =
    let old = c.args.shelf.now in
    let new = c.read_file.new.shelf in
    let e = c.in_err-world.field-0.0 in
    let world = c.args.names.world.now in
    let script = c.args.names.script.now in
    let ends = file_ends (g.F.Shelf.held old) (g.F.Shelf.faults old) (g.F.Shelf.faults new) (g.F.Shelf.taken old) (g.F.Shelf.taken new) (g.F.Shelf.reads old) (g.F.Shelf.reads new) [] world (script ∷ []) e
    tt c.in_err-world.ensures.reads_once c.in_err-world.ensures.ends in
    err_ends c.from_residual.result e
    (ReadsEnd (g.F.Shelf.held old) (g.F.Shelf.faults old) (g.F.Shelf.faults new) (g.F.Shelf.taken old) (g.F.Shelf.taken new) (g.F.Shelf.reads old) (g.F.Shelf.reads new) (world ∷ script ∷ []))
    c.from_residual.ensures.1 ends

pub returns-in_err-script-clause-ends : goal.returns-in_err-script-clause-ends
returns-in_err-script-clause-ends g c =
    let old = c.args.shelf.now in
    let then = c.read_file.new.shelf in
    let new = c.read_file-2.new.shelf in
    let e = c.in_err-script.field-0.0 in
    let world = c.args.names.world.now in
    let script = c.args.names.script.now in
    let first = c.in_ok-world.ensures in
    let second = c.in_err-script.ensures in
    let last = ends_from_earlier (g.F.Shelf.held old script) (g.F.Shelf.held then script) (g.F.Shelf.faults old script) (g.F.Shelf.faults then script) (g.F.Shelf.faults new script)
    (g.F.Shelf.taken old) (g.F.Shelf.taken then) (g.F.Shelf.taken new) e (first.holds_the_same script) (first.faults_never_fall script) first.taken_never_falls second.ends in
    let counted : g.F.Shelf.reads new ≡ raised 2 (g.F.Shelf.reads old) = second.reads_once ∙ (ap (raised 1) first.reads_once ∙ raised_again 1 (g.F.Shelf.reads old)) in
    let ends = file_ends (g.F.Shelf.held old) (g.F.Shelf.faults old) (g.F.Shelf.faults new) (g.F.Shelf.taken old) (g.F.Shelf.taken new) (g.F.Shelf.reads old) (g.F.Shelf.reads new) (world ∷ []) script [] e
    ((c.in_ok-world.world, first.held, first.within), tt) counted last in
    err_ends c.from_residual-in_err-script.result e
    (ReadsEnd (g.F.Shelf.held old) (g.F.Shelf.faults old) (g.F.Shelf.faults new) (g.F.Shelf.taken old) (g.F.Shelf.taken new) (g.F.Shelf.reads old) (g.F.Shelf.reads new) (world ∷ script ∷ []))
    c.from_residual-in_err-script.ensures.1 ends
