use Rattle.std.proofs.Common.{◌≡◌, Bool, cond, Some, None, map, sym, ap, ◌∙◌, arith, length}
use Rattle.std.proofs.lemmas.Bool.{eqb-true}
use Rattle.fol_model.specs.declared.causes.Cause.TheVariants as causes
use Rattle.fol_model.specs.Texts.{command_row}
use Rattle.fol_model.specs.TextCauses.{bad_from}
use Rattle.fol_model.specs.TextLines.{lines}
use Rattle.fol_script.specs.ReadText.{all_rows}
use Rattle.fol_script.proofs.ScriptBefore.{ended}
use Rattle.fol_script.proofs.ReadScript.{spelled}
use Rattle.fol_script.proofs.scripts.read_commands.Goals as goal

pub returns-in-Some : goal.returns-in-Some
returns-in-Some c =
    let l = rw c.in-Some.is at c.in_ok-cause.ensures in
    sym c.loop-rest.invariant.bad ∙ ap (bad_from c.args.kind (map command_row c.loop-rest.commands.items) c.loop-rest.line) c.next_line.ensures.lines ∙ l c.loop-rest.line (lines c.next_line.result.1.now)

pub loop-rest-preserved : goal.loop-rest-preserved
loop-rest-preserved c =
    let l = rw c.in-None.is at c.in_ok-cause.ensures in
    record {
      few = omega (arith, c.next_line.ensures.shorter, c.loop-rest.invariant.few);
      stands = l.stands;
      bad = sym (l.bad c.loop-rest.line (lines c.next_line.result.1.now)) ∙ ap (bad_from c.args.kind (map command_row c.loop-rest.commands.items) c.loop-rest.line) (sym c.next_line.ensures.lines) ∙ c.loop-rest.invariant.bad;
      rows = sym (l.rows (lines c.next_line.result.1.now)) ∙ ap (all_rows c.args.kind (map command_row c.loop-rest.commands.items)) (sym c.next_line.ensures.lines) ∙ c.loop-rest.invariant.rows;
    }

pub returns-then-before : goal.returns-then-before
returns-then-before c =
    let none : length c.loop-rest.rest.now ≡ 0 = eqb-true _ _ (sym c.is_empty.ensures ∙ c.loop-rest-test.false) in
    sym c.loop-rest.invariant.bad ∙ ended c.args.kind (map command_row c.loop-rest.commands.items) c.loop-rest.before c.loop-rest.line c.loop-rest.rest.now c.requires c.loop-rest.invariant.stands none
    ∙ ap (λ (b : Bool). cond b (Some (c.loop-rest.line, causes.Missing)) None) c.if-before.true

pub returns : goal.returns
returns c =
    let none : length c.loop-rest.rest.now ≡ 0 = eqb-true _ _ (sym c.is_empty.ensures ∙ c.loop-rest-test.false) in
    spelled c.args.kind c.args.bytes.now c.loop-rest.rest.now (map command_row c.loop-rest.commands.items) none
    (sym c.loop-rest.invariant.bad ∙ ended c.args.kind (map command_row c.loop-rest.commands.items) c.loop-rest.before c.loop-rest.line c.loop-rest.rest.now c.requires c.loop-rest.invariant.stands none
    ∙ ap (λ (b : Bool). cond b (Some (c.loop-rest.line, causes.Missing)) None) c.if-before.false)
    c.loop-rest.invariant.rows
