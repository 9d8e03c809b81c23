use Rattle.std.proofs.Common.{◌≡◌}
use Rattle.std.specs.Prelude.{Some}
use Rattle.fol_model.specs.Texts.{script_kind}
use Rattle.fol_model.specs.TextCauses.{first_bad}
use Rattle.fol_top.proofs.MadeTexts.{made_script_is_good}
use Rattle.fol_top.proofs.made.read_made_script.Goals as goal

pub unreachable-requires : goal.unreachable-requires
unreachable-requires c =
    let bad : first_bad (script_kind 1) c.args.bytes.now ≡ Some (c.in-Err-BadLine.field-0-0, c.in-Err-BadLine.field-0-1) = rw c.in-Err-BadLine.field-0-is at c.in-Err-BadLine.ensures in
    made_script_is_good c.args.clusters c.in-Err-BadLine.field-0-0 c.in-Err-BadLine.field-0-1 c.requires.few (rw c.requires.made at bad)
