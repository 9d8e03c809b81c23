use Rattle.std.proofs.Common.{sym, ◌∙◌}
use Rattle.fol_script.proofs.OneShare.{faultless_row, line_added}
use Rattle.fol_script.proofs.ReadScript.{within_line}
use Rattle.fol_script.proofs.share.add_line.Goals as goal

pub read_command-requires : goal.read_command-requires
read_command-requires c =
    let n = c.in-Words-default-None in
    let j = rw n.is at c.in_ok-key.ensures in
    let row = faultless_row c.args.kind c.args.line.now n.field-1 j.0 n.field-1-is j.2 in
    within_line c.args.kind c.args.line.now n.key c.deref.result.now c.requires row.0 j.1 (c.deref.ensures.value ∙ j.3)

pub returns-in_ok-push-in-Words-default-None : goal.returns-in_ok-push-in-Words-default-None
returns-in_ok-push-in-Words-default-None c = λ _.
    let n = c.in-Words-default-None in
    let j = rw n.is at c.in_ok-key.ensures in
    let row = faultless_row c.args.kind c.args.line.now n.field-1 j.0 n.field-1-is j.2 in
    line_added c.args.kind c.args.line.now c.args.commands.now.items c.push.new.self.items n.key c.deref.result.now c.in_ok-command-in-Words-default-None.command c.requires
    (sym c.is_skipped_line.ensures ∙ c.if-is_skipped_line.false) row j.1 (c.deref.ensures.value ∙ j.3) c.in_ok-command-in-Words-default-None.ensures c.in_ok-push-in-Words-default-None.ensures.items
