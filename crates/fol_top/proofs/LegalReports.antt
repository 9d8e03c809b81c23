-- A report that is judged legal is one that a run with 64 workers may write.
use Rattle.std.proofs.Common.{◌≡◌, ℕ, List, sym, subst}
use Rattle.std.specs.Prelude.{Option, codes}
use Rattle.fol_model.specs.declared.openings.Opening.{Opening}
use Rattle.fol_model.specs.declared.scripts.Command.{Command}
use Rattle.fol_model.specs.declared.events.Entry.{Entry}
use Rattle.fol_model.specs.GridNumbers.{IsGrid}
use Rattle.fol_model.specs.Legal.{Legal}
use Rattle.fol_model.specs.Outputs.{Outputs}
use Rattle.fol_check.specs.Verdicts.{Judges}
use Rattle.fol_check.specs.declared.verdicts.Verdict.TheVariants as verdicts
use Rattle.fol_check.proofs.SameBy.{is_report}
use Rattle.fol_top.specs.Checking.{CheckEnds}
use Rattle.fol_top.specs.Report.{IsReport, SaysLegal}
use Rattle.fol_top.specs.Writing.{WriteEnds}
use Rattle.fol_top.specs.declared.ending.Ending.{Ending}
use Rattle.fol_top.specs.declared.ending.Ending.TheVariants as endings
use Rattle.fol_top.specs.declared.form.Form.TheVariants as forms
use Rattle.fol_top.proofs.RunEndings.{is_report as report_of}

legal_report : (o : Opening) (cs : List Command) (report : List ℕ) → IsGrid o.grid → Judges o cs report verdicts.Legal → IsReport forms.Text o cs 64 report
legal_report o cs report grid j =
    let r = is_report o cs report j in
    let e : r.history ≡ r.closing.history = sym r.outputs.history in
    let legal = subst (λ (h : List Entry). Legal o cs 64 h) e r.legal in
    let outputs = subst (λ (h : List Entry). Outputs o h r.closing) e r.outputs in
    report_of forms.Text o cs 64 r.closing grid legal outputs report r.text

module _ (o : Opening) (cs : List Command) (report : List ℕ) (grid : IsGrid o.grid) (j : Judges o cs report verdicts.Legal) where
  says_legal : (bytes : List ℕ) → bytes ≡ codes "legal\n" → SaysLegal o cs report bytes
  says_legal bytes text = record { verdict = j; legal = legal_report o cs report grid j; text = text }

  module _ (before now : Option (List ℕ)) (faults later puts puts_later : ℕ) where
    pub legal_ends : (e : Ending) → WriteEnds before now faults later puts puts_later (codes "legal\n") e → CheckEnds o cs report before now faults later puts puts_later e
    legal_ends endings.Written h = (h.0, says_legal h.0 h.1, h.2)
    legal_ends endings.WriteFault h = (h.0, says_legal h.0 h.1, h.2, h.3)
    legal_ends endings.NoMemory h = h
    legal_ends _ h = absurd h
