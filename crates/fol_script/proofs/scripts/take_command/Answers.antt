use Rattle.std.proofs.Common.{map, sym, ◌∙◌}
use Rattle.fol_model.specs.Texts.{command_row}
use Rattle.fol_text_laws.proofs.Valid.{good}
use Rattle.fol_script.proofs.ReadScript.{skips, bad_line, within_line, takes}
use Rattle.fol_script.proofs.scripts.take_command.Goals as goal

pub returns-then-is_skipped_line : goal.returns-then-is_skipped_line
returns-then-is_skipped_line c = skips c.args.kind c.args.line.now c.args.commands.now.items c.args.before.now (sym c.is_skipped_line.ensures ∙ c.if-is_skipped_line.true) c.requires.stands

pub read_command-requires : goal.read_command-requires
read_command-requires c =
    let m = rw c.in-Row.is at (c.in_ok-cause.ensures (map command_row c.args.commands.now.items) c.requires.stands) in
    within_line c.args.kind c.args.line.now c.in-Row.key c.deref.result.now c.requires.kind (good c.args.kind (map command_row c.args.commands.now.items) c.args.line.now m.0).row m.1 (c.deref.ensures.value ∙ m.2)

pub returns-in-Bad : goal.returns-in-Bad
returns-in-Bad c =
    let m = rw c.in-Bad.is at (c.in_ok-cause.ensures (map command_row c.args.commands.now.items) c.requires.stands) in
    bad_line c.args.kind c.args.line.now (map command_row c.args.commands.now.items) c.in-Bad.cause (sym c.is_skipped_line.ensures ∙ c.if-is_skipped_line.false) m

pub returns-in_ok-push-in-Row : goal.returns-in_ok-push-in-Row
returns-in_ok-push-in-Row c =
    let m = rw c.in-Row.is at (c.in_ok-cause.ensures (map command_row c.args.commands.now.items) c.requires.stands) in
    takes c.args.kind c.args.line.now c.args.commands.now.items c.push.new.self.items c.take_line.new.before c.in-Row.key c.deref.result.now c.in_ok-command-in-Row.command c.requires.kind
    (sym c.is_skipped_line.ensures ∙ c.if-is_skipped_line.false) m.0 m.1 (c.deref.ensures.value ∙ m.2) m.3 c.in_ok-command-in-Row.ensures c.in_ok-push-in-Row.ensures.items
