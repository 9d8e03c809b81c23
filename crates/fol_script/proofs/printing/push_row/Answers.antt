use Rattle.std.proofs.Common.{◌≡◌, ◌++◌, ℕ, List, [], ◌∷◌, take, sym, ap, ◌∙◌, append_assoc}
use Rattle.std.proofs.lemmas.List.{append-nil, take_all}
use Rattle.fol_model.specs.declared.words.Cell.{Cell}
use Rattle.fol_model.specs.TextForms.{key_spelled}
use Rattle.fol_script.specs.CellText.{cells_text}
use Rattle.fol_script.proofs.RowText.{row_text, no_cells, push_step}
use Rattle.fol_script.proofs.printing.push_row.Goals as goal

pub loop-cell-init : goal.loop-cell-init
loop-cell-init c =
    c.in_ok-extend_from_slice.ensures.items ∙ ap (λ (l : List ℕ). c.args.out.now.items ++ l) c.spelling.ensures
    ∙ sym (ap (λ (l : List ℕ). (c.args.out.now.items ++ key_spelled c.args.key) ++ l) no_cells ∙ append-nil (c.args.out.now.items ++ key_spelled c.args.key))

pub loop-cell-preserved : goal.loop-cell-preserved
loop-cell-preserved c = push_step c.args.cells.now c.loop-cell.cell-index _ c.loop-cell.out.items (c.args.out.now.items ++ key_spelled c.args.key) c.push_cell.new.out.items c.loop-cell-test.true c.loop-cell.invariant c.in_ok-push_cell.ensures

pub returns : goal.returns
returns c =
    let all : take c.loop-cell.cell-index c.args.cells.now ≡ c.args.cells.now = take_all c.loop-cell.cell-index c.args.cells.now c.loop-cell-test.false in
    c.in_ok-push.ensures.items ∙ ap (λ (l : List ℕ). l ++ 10 ∷ []) (c.loop-cell.invariant ∙ ap (λ (l : List Cell). (c.args.out.now.items ++ key_spelled c.args.key) ++ cells_text l) all ∙ append_assoc c.args.out.now.items (key_spelled c.args.key) (cells_text c.args.cells.now))
    ∙ append_assoc c.args.out.now.items (key_spelled c.args.key ++ cells_text c.args.cells.now) (10 ∷ []) ∙ ap (λ (l : List ℕ). c.args.out.now.items ++ l) (sym (row_text c.args.key c.args.cells.now))
