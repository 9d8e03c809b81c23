use Rattle.std.proofs.Common.{ap, ◌∙◌}
use Rattle.fol_model.specs.declared.words.Cell.TheVariants as cells
use Rattle.fol_model.specs.declared.words.Reading.{Reading}
use Rattle.fol_model.specs.TextCauses.{number_or}
use Rattle.fol_script.specs.Marks.{noted}
use Rattle.fol_script.proofs.Going.{goes_number}
use Rattle.fol_script.proofs.cells.read_cell.Goals as goal

pub returns-in_ok-push-in-Number-clause-on : goal.returns-in_ok-push-in-Number-clause-on
returns-in_ok-push-in-Number-clause-on c =
    let number = c.next_number-number.ensures.number in
    let cell = c.number_cell-cell.ensures.cell ∙ ap (λ (r : Reading). cells.Number (number_or r)) number.2 in
    let marks = c.number_cell-cell.ensures.marks ∙ ap (noted c.args.marks.now) number.2 in (
      number.0,
      number.1,
      goes_number c.args.places.now c.in-Number.low c.in-Number.high number.0 c.args.marks.now c.number_cell-cell.new.marks c.args.cells.now.items c.push-in-Number.new.self.items c.number_cell-cell.result c.requires.near c.requires.some c.in-Number.is cell marks c.in_ok-push-in-Number.ensures.items,
    )
