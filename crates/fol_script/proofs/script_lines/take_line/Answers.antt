use Rattle.std.proofs.Common.{sym, ◌∙◌, subst, List, None}
use Rattle.fol_model.specs.declared.words.Cell.{Cell}
use Rattle.fol_script.specs.ScriptBefore.{TakesRow}
use Rattle.fol_script.proofs.ScriptBefore.{line_bad, line_misplaced, line_fault, line_total, line_counted}
use Rattle.fol_script.proofs.script_lines.take_line.Goals as goal

pub returns-in-Bad : goal.returns-in-Bad
returns-in-Bad c = line_bad c.args.kind c.args.line.now c.args.before.now c.args.before.now c.read_line.new.cells.items c.in-Bad.cause (rw c.in-Bad.is at c.in_ok-cause.ensures)

pub returns-then-is_misplaced : goal.returns-then-is_misplaced
returns-then-is_misplaced c =
    let j = rw c.in-Words.is at c.in_ok-cause.ensures in
    line_misplaced c.args.kind c.args.line.now c.args.before.now c.args.before.now c.read_line.new.cells.items c.in-Words.key c.requires.kind j.0 j.1 (sym c.is_misplaced.ensures ∙ c.if-is_misplaced.true)

pub returns-in-Some : goal.returns-in-Some
returns-in-Some c =
    let j = rw (c.in-Words.is) at c.in_ok-cause.ensures in
    line_fault c.args.kind c.args.line.now c.args.before.now c.args.before.now c.read_line.new.cells.items c.in-Words.key c.in-Some.cause c.requires.kind j.0 j.1 (sym c.is_misplaced.ensures ∙ c.if-is_misplaced.false) (sym c.in-Some.is ∙ j.2)

pub returns-in-Some-take_row : goal.returns-in-Some-take_row
returns-in-Some-take_row c =
    let j = rw c.in-Words.is at c.in_ok-cause.ensures in
    line_total c.args.kind c.args.line.now c.args.before.now c.take_row.new.before c.in-Words.key c.deref.result.now c.read_line.new.cells.items c.in-Some-take_row.cause c.requires.kind j.0 j.1 (c.deref.ensures.value ∙ j.3) (sym c.is_misplaced.ensures ∙ c.if-is_misplaced.false) (sym c.in-None.is ∙ j.2) c.in-Some-take_row.ensures

pub returns-in-None-take_row : goal.returns-in-None-take_row
returns-in-None-take_row c =
    let j = rw c.in-Words.is at c.in_ok-cause.ensures in
    line_counted c.args.kind c.args.line.now c.args.before.now c.take_row.new.before c.in-Words.key c.read_line.new.cells.items c.requires.kind j.0 j.1 j.3 (sym c.is_misplaced.ensures ∙ c.if-is_misplaced.false) (sym c.in-None.is ∙ j.2)
    (subst (λ (cs : List Cell). TakesRow (record { key = c.in-Words.key; cells = cs }) c.args.before.now c.take_row.new.before None) c.deref.ensures.value c.in-None-take_row.ensures)
