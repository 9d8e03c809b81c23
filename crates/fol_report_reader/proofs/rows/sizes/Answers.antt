use Rattle.std.proofs.Common.{[], ◌∷◌, decimal, codes}
use Rattle.fol_events.proofs.Steps.{on_err}
use Rattle.fol_report_reader.proofs.rows.sizes.Goals as goal

pub returns-in_err-sections-clause-none : goal.returns-in_err-sections-clause-none
returns-in_err-sections-clause-none c = on_err c.from_residual-in_err-sections.result (λ o s k ho hs hk e. c.in_err-sections.ensures.none s (codes "chunks" ∷ decimal k ∷ []) hs (cc (c.in_ok-pass.ensures.found, c.in_ok-owed.ensures.found, c.in_ok-pass-2.ensures.found, e)))

pub returns-in_err-chunks-clause-none : goal.returns-in_err-chunks-clause-none
returns-in_err-chunks-clause-none c = on_err c.from_residual-in_err-chunks.result (λ o s k ho hs hk e. c.in_err-chunks.ensures.none k [] hk (cc (c.in_ok-pass.ensures.found, c.in_ok-owed.ensures.found, c.in_ok-pass-2.ensures.found, c.in_ok-sections.ensures.found, c.in_ok-pass-3.ensures.found, e)))
