use Rattle.std.proofs.Common.{◌≡◌, List, Some, sym, ap, subst, ◌∙◌}
use Rattle.fol_model.specs.declared.words.Cell.{Cell}
use Rattle.fol_model.specs.TextForms.{line_form}
use Rattle.fol_model.specs.TextCauses.{form_of}
use Rattle.fol_script.specs.Marks.{Tells, left}
use Rattle.fol_script.proofs.Judging.{text_by_words, faultless_none}
use Rattle.fol_script.proofs.judge.read_words.Goals as goal

pub returns-clause-faultless : goal.returns-clause-faultless
returns-clause-faultless c = λ h.
    let key = c.in-Some.key in
    let form = c.in-Some.form.now in
    let ws = left c.next_word-more.result.2 c.next_word-more.result.1.now in
    let k = c.in-Some.ensures.key in
    let f : line_form c.args.kind key ≡ Some form = sym (ap (form_of (line_form c.args.kind)) k) ∙ sym c.in-Some.ensures.form in
    let tells = subst (λ (old : List Cell). Tells form ws old c.read_cells.new.cells.items c.in_ok-marks.marks) c.requires c.in_ok-marks.ensures in
    text_by_words c.args.kind c.args.line.now c.next_word-more.result.0.now ws form key c.in_ok-marks.marks c.read_cells.new.cells.items
    c.next_word-more.ensures.words k f tells c.if-marks.false (sym c.fault_of.ensures ∙ faultless_none key c.fault_of.result h)
