use Rattle.std.proofs.Common.{ℕ, List, sym, ap, subst, ◌∙◌, inl, inr, refl}
use Rattle.fol_model.specs.IsScript.{IsScript}
use Rattle.fol_model.specs.Texts.{IsScriptText}
use Rattle.fol_text_laws.specs.Printed.{script_text}
use Rattle.fol_text_laws.proofs.ScriptLaws.{script_printed}
use Rattle.fol_script.proofs.script_printer.print_script.Goals as goal

pub returns-clause-text : goal.returns-clause-text
returns-clause-text c = c.in_ok-text.ensures ∙ ap script_text (c.as_slice.ensures ∙ c.script.view_is)

pub returns-clause-reads : goal.returns-clause-reads
returns-clause-reads c =
    let is = subst IsScript c.script.view_is c.script.invariant in
    subst (λ (b : List ℕ). IsScriptText 2 b c.args.script.now) (sym (c.in_ok-text.ensures ∙ ap script_text (c.as_slice.ensures ∙ c.script.view_is))) (script_printed 2 c.args.script.now (inl refl) is)

pub returns-clause-first : goal.returns-clause-first
returns-clause-first c =
    let is = subst IsScript c.script.view_is c.script.invariant in
    λ none. subst (λ (b : List ℕ). IsScriptText 1 b c.args.script.now) (sym (c.in_ok-text.ensures ∙ ap script_text (c.as_slice.ensures ∙ c.script.view_is))) (script_printed 1 c.args.script.now (inr none) is)
