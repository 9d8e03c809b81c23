use Rattle.std.proofs.Common.{ℕ, List, subst}
use Rattle.fol_model.specs.declared.openings.Opening.{Opening}
use Rattle.fol_model.specs.TextCauses.{first_bad}
use Rattle.fol_model.specs.Texts.{script_kind}
use Rattle.fol_script.specs.ReadText.{IsErrorAt}
use Rattle.fol_top.proofs.texts.read_texts_in_shares.Goals as goal

pub returns-in-Err-clause-ends : goal.returns-in-Err-clause-ends
returns-in-Err-clause-ends g c =
    let script = c.args.files.now.script in
    let at = subst (λ (bytes : List ℕ). IsErrorAt (first_bad (script_kind c.opening.inside.version) bytes) c.in-Err.error) c.as_slice.ensures c.in-Err.ensures in
    let is = subst (λ (o : Opening). IsErrorAt (first_bad (script_kind o.version) script) c.in-Err.error) c.opening.view_is at in
    c.script_ending.ensures c.args.files.now.world script c.in_ok-opening.opening c.in_ok-opening.ensures.world is
