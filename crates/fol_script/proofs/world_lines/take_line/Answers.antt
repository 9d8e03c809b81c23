use Rattle.std.proofs.Common.{sym, ◌∙◌}
use Rattle.fol_model.specs.declared.words.TextKind.TheVariants as kinds
use Rattle.fol_model.specs.declared.causes.Cause.TheVariants as causes
use Rattle.fol_script.proofs.ReadScript.{bad_line}
use Rattle.fol_script.proofs.ReadWorld.{skips, spelled_badly, out_of_place, formed_badly, is_good_row, stood_before, goes_on}
use Rattle.fol_script.proofs.world_lines.take_line.Goals as goal

pub returns-then-is_skipped_line : goal.returns-then-is_skipped_line
returns-then-is_skipped_line c = λ rows s. skips c.args.line.now rows c.args.before.now (sym c.is_skipped_line.ensures ∙ c.if-is_skipped_line.true) s

pub returns-in-Bad : goal.returns-in-Bad
returns-in-Bad c = λ rows s. bad_line kinds.World c.args.line.now rows c.in-Bad.cause (sym c.is_skipped_line.ensures ∙ c.if-is_skipped_line.false)
    (spelled_badly rows c.args.line.now c.in-Bad.cause (rw c.in-Bad.is at c.in_ok-cause.ensures))

pub returns-then-is_misplaced : goal.returns-then-is_misplaced
returns-then-is_misplaced c =
    let j = rw c.in-Words.is at c.in_ok-cause.ensures in
    λ rows s. bad_line kinds.World c.args.line.now rows causes.Order (sym c.is_skipped_line.ensures ∙ c.if-is_skipped_line.false)
    (out_of_place rows c.args.line.now c.args.before.now c.in-Words.key s j.0 j.1 (sym c.is_misplaced.ensures ∙ c.if-is_misplaced.true))

pub returns-in-Some : goal.returns-in-Some
returns-in-Some c =
    let j = rw c.in-Words.is at c.in_ok-cause.ensures in
    λ rows s. bad_line kinds.World c.args.line.now rows c.in-Some.cause (sym c.is_skipped_line.ensures ∙ c.if-is_skipped_line.false)
    (formed_badly rows c.args.line.now c.args.before.now c.in-Words.key c.in-Some.cause s j.0 j.1 (sym c.is_misplaced.ensures ∙ c.if-is_misplaced.false) (sym c.in-Some.is ∙ j.2))

pub take_row-requires-clause-row : goal.take_row-requires-clause-row
take_row-requires-clause-row c =
    let j = rw c.in-Words.is at c.in_ok-cause.ensures in
    is_good_row c.args.line.now c.in-Words.key c.deref.result.now j.0 j.1 (sym c.in-None.is ∙ j.2) (c.deref.ensures.value ∙ j.3)

pub returns-then-twice : goal.returns-then-twice
returns-then-twice c =
    let j = rw c.in-Words.is at c.in_ok-cause.ensures in
    λ rows s. bad_line kinds.World c.args.line.now rows causes.Twice (sym c.is_skipped_line.ensures ∙ c.if-is_skipped_line.false)
    (stood_before c.args.line.now c.in-Words.key c.deref.result.now c.args.before.now c.take_row.new.before c.in_ok-twice-in-None.twice rows s j.0 j.1 (sym c.in-None.is ∙ j.2) (c.deref.ensures.value ∙ j.3) (sym c.is_misplaced.ensures ∙ c.if-is_misplaced.false) c.in_ok-twice-in-None.ensures c.if-twice.true)

pub returns-else-twice : goal.returns-else-twice
returns-else-twice c =
    let j = rw c.in-Words.is at c.in_ok-cause.ensures in
    λ rows s. goes_on c.args.line.now c.in-Words.key c.deref.result.now c.args.before.now c.take_row.new.before c.in_ok-twice-in-None.twice rows s (sym c.is_skipped_line.ensures ∙ c.if-is_skipped_line.false) j.0 j.1 (sym c.in-None.is ∙ j.2) (c.deref.ensures.value ∙ j.3)
    (sym c.is_misplaced.ensures ∙ c.if-is_misplaced.false) c.in_ok-twice-in-None.ensures c.if-twice.false
